-- What a closure returns for the pair that a query finds, and what lookups find in the pairs that it keeps.
use Rattle.std.specs.Prelude.{◌≡◌, Bool, true, false, List, None, Some, find}
use Rattle.std.specs.declared.cmp.Ordering.{Ordering}
use Rattle.std.specs.declared.cmp.Ordering.TheVariants.{Equal}
use Rattle.litemap_store.specs.Pairs.{at}
use Rattle.litemap_store.specs.Retain.{CalledOnPair}
use Rattle.litemap.specs.Updates.{Stays}
use denote.Param.Members.{Mut}
use denote.Ref.{Bor}

-- f keeps no state, and returns b for the pair with a key equal to k, if there is one
abbrev pub ReturnsAt : {F K V : Type 0} → Mut F (Bor K × (Bor V × Unit {0})) Bool → F → (K → K → Ordering) → List (K × V)
    → K → Bool → Type 0
ReturnsAt {F} {K} {V} g f cmp L k b = (p : K × V) (c : Bool) (f' : F) → CalledOnPair g f p c f'
    → (f' ≡ f) × (cmp p.0 k ≡ Equal → at cmp L k ≡ Some p → c ≡ b)

module _ {F K V : Type 0} (g : Mut F (Bor K × (Bor V × Unit {0})) Bool) (f : F) where
  -- f keeps no state, and returns b for the pair that the test of a query finds, if there is one
  abbrev pub ReturnsFor : (K × V → Bool) → List (K × V) → Bool → Type 0
  ReturnsFor test L b = (p : K × V) (c : Bool) (f' : F) → CalledOnPair g f p c f' → (f' ≡ f) × (test p ≡ true → find test L ≡ Some p → c ≡ b)

  -- a query finds in M what it finds in L if f returns true for that; nothing if f returns false, and the query is of one key
  pub record Retains (cmp : K → K → Ordering) (L M : List (K × V)) : Type 0 where
    pub stays : Stays (λ test. ReturnsFor test L true) L M
    pub gone : (test : K × V → Bool) → ((p q : K × V) → test p ≡ true → test q ≡ true → cmp p.0 q.0 ≡ Equal) → ReturnsFor test L false → find test M ≡ None
