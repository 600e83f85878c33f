-- A merge in which a closure may write the other map's value of each common key.
use Rattle.std.specs.Prelude.{◌≡◌, List, [], ◌∷◌, map, MatchOption, Option, Some, None}
use Rattle.std.specs.Fn.{FnReturns, Shared}
use Rattle.std.specs.List.{AllByRecursion}
use Rattle.std.specs.Option.{option_map_or}
use Rattle.std.specs.declared.cmp.Ordering.{Ordering}
use Rattle.litemap_store.specs.Pairs.{at, value_at}
use denote.Ref.{Bor, MutBor}

module _ {K V : Type 0} where
  -- the pairs of J, each value combined with the value of its key in L, if there is one
  abbrev pub combined : (K → K → Ordering) → (K → V → V → V) → List (K × V) → List (K × V) → List (K × V)
  combined cmp combine L J = map (λ p. (p.0, option_map_or (λ here. combine p.0 here p.1) (value_at cmp L p.0) p.1)) J

  -- what a lookup finds: if both maps have the key, both values combined, else the value of the one that has it
  abbrev pub found_with : (K → V → V → V) → Option V → Option (K × V) → Option V
  found_with combine here None = here
  found_with combine None (Some p) = Some p.1
  found_with combine (Some v) (Some p) = Some (combine p.0 v p.1)

module _ {F K V : Type 0} (g : Shared F (Bor K × (Bor V × (MutBor V × Unit {0}))) (Unit {0} × (MutBor V × Unit {0})))
    (f : F) where
  -- f may be called on a key, this map's value and the other map's value
  abbrev pub TakesBoth : K → V → V → Type 0
  TakesBoth k here w = (key : Bor K) (old : Bor V) (new : MutBor V) → key.now ≡ k → old.now ≡ here → new.now ≡ w
      → g.pre f (key, (old, (new, tt)))

  -- a call of f on the key k, this map's value `here` and the other map's value w may leave w' in its place
  pub record LeavesOfBoth (k : K) (here w w' : V) : Type 0 where
    pub key : Bor K
    pub old : Bor V
    pub new : MutBor V
    pub left : MutBor V
    pub shows : (key.now ≡ k) × (old.now ≡ here) × (new.now ≡ w)
    pub called : FnReturns g f (key, (old, (new, tt))) (tt, (left, tt))
    pub leaves : w' ≡ left.now

  -- f may be called on each key of J that is in L, with both values
  abbrev pub CallableOnCommon : (K → K → Ordering) → List (K × V) → List (K × V) → Type 0
  CallableOnCommon cmp L J = (k : K) (here w : V) → value_at cmp L k ≡ Some here → at cmp J k ≡ Some (k, w) → TakesBoth k here w

  -- the same, pair by pair
  abbrev pub CallableOnEachOf : (K → K → Ordering) → List (K × V) → List (K × V) → Type 0
  CallableOnEachOf cmp L J = AllByRecursion (λ p. (here : V) → value_at cmp L p.0 ≡ Some here → TakesBoth p.0 here p.1) J

  -- M has the pairs of J, each with what f may leave of its value if its key has a value in L, else with the value itself
  abbrev pub Combined : (K → K → Ordering) → List (K × V) → List (K × V) → List (K × V) → Type 0
  Combined cmp L [] M = M ≡ []
  Combined cmp L (p ∷ J) M = (w : V) × (N : List (K × V))
      × MatchOption (value_at cmp L p.0) (w ≡ p.1) (λ here. LeavesOfBoth p.0 here p.1 w) × Combined cmp L J N × (M ≡ (p.0, w) ∷ N)

  -- f leaves the value that `combine` computes of the key and both values
  abbrev pub Combines : (K → V → V → V) → Type 0
  Combines combine = (k : K) (here w w' : V) → LeavesOfBoth k here w w' → w' ≡ combine k here w
