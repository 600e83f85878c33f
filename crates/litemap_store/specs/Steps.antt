-- What the steps of loops do: of a walk over two ascending lists, of few pairs that are put in one by one, and of pairs that a
-- closure keeps. Only private contracts cite these.
use Rattle.std.specs.Prelude.{◌≡◌, ◌⊎◌, ◌≤◌, ℕ, ◌+◌, Bool, List, [], ◌∷◌, ◌++◌, Option, Some, None, drop, slice_get, take}
use Rattle.std.specs.declared.cmp.Ordering.{Ordering}
use Rattle.std.specs.declared.cmp.Ordering.TheVariants.{Less, Equal, Greater}
use Rattle.litemap_store.specs.Pairs.{BelowAll, above, below}
use Rattle.litemap_store.specs.Retain.{CallableOnEach, Kept}
use denote.Param.Members.{Mut}
use denote.Ref.{Bor}

module _ {K V : Type 0} (cmp : K → K → Ordering) where
  -- none if both lists are empty, else how the first key of A compares with that of B; an empty list counts as greater
  abbrev pub ComparesFirsts : List (K × V) → List (K × V) → Option Ordering → Type 0
  ComparesFirsts A B None = (A ≡ []) × (B ≡ [])
  ComparesFirsts A B (Some Less) = (a : K × V) × (A' : List (K × V)) × (A ≡ a ∷ A') × BelowAll cmp a.0 B
  ComparesFirsts A B (Some Greater) = (b : K × V) × (B' : List (K × V)) × (B ≡ b ∷ B') × BelowAll cmp b.0 A
  ComparesFirsts A B (Some Equal) = (a : K × V) × (A' : List (K × V)) × (b : K × V) × (B' : List (K × V))
      × (A ≡ a ∷ A') × (B ≡ b ∷ B') × (cmp a.0 b.0 ≡ Equal)

  -- of two pairs with equal keys `kept` stays, and `gone` is displaced
  module _ (kept : K × V → K × V → K × V) (gone : K × V → K × V → List (K × V)) where
    -- p was made of the first pairs of A and B, which are then A' and B', and D was displaced
    abbrev pub IsTakenFirst : List (K × V) → List (K × V) → List (K × V) → List (K × V) → K × V → List (K × V) → Type 0
    IsTakenFirst A B A' B' p D = ((A ≡ p ∷ A') × (B' ≡ B) × BelowAll cmp p.0 B × (D ≡ []))
        ⊎ (((B ≡ p ∷ B') × (A' ≡ A) × BelowAll cmp p.0 A × (D ≡ []))
        ⊎ ((a b : K × V) × (A ≡ a ∷ A') × (B ≡ b ∷ B') × (cmp a.0 b.0 ≡ Equal) × (p ≡ kept a b) × (D ≡ gone a b)))

    -- A and B are walked from their first pairs on, by which M was made and D displaced
    abbrev pub Walks : List (K × V) → List (K × V) → List (K × V) → List (K × V) → Type 0
    Walks A B [] D = (A ≡ []) × (B ≡ []) × (D ≡ [])
    Walks A B (p ∷ M) D = (A' B' out rest : List (K × V)) × IsTakenFirst A B A' B' p out × (D ≡ out ++ rest) × Walks A' B' M rest

  -- the first n of M are the first k of L without a key equal to that of the pair at index i of L, and that pair, in order. Those
  -- after index i stay
  pub record IsPutIn (L M : List (K × V)) (k n i : ℕ) : Type 0 where
    pub pair : K × V
    pub is : slice_get L i ≡ Some pair
    pub put : take n M ≡ below cmp (take k L) pair.0 ++ pair ∷ above cmp (take k L) pair.0
    pub after : drop (i + 1) M ≡ drop (i + 1) L

module _ {F K V : Type 0} (g : Mut F (Bor K × (Bor V × Unit {0})) Bool) where
  -- f₀ was called on the first n pairs of L₀, and is then f: the first k of L are those kept, and those from n on stay
  pub record KeptSoFar (f₀ : F) (L₀ : List (K × V)) (f : F) (L : List (K × V)) (k n : ℕ) : Type 0 where
    pub within : k ≤ n
    pub callable : CallableOnEach g f (drop n L)
    pub so_far : (M : List (K × V)) → Kept g f (drop n L) M → Kept g f₀ L₀ (take k L ++ M)
