-- Ascending lists, by their neighbours, and joined.
--     adjacent_from_Rising, Rising-from_adjacent, adjacent_more      of two neighbours the later one has the greater key
--     Rising-after      if the last key of one is below the first of the other;  Rising-from_Rises, not_above      if all of one are below the other, or are
-- not
--     empty_from_last, empty_from_first, last_split, first_split      an empty list, and what one begins and ends with
--     below_all      a key below all
use Rattle.litemap_store.proofs.Names.{[], ℕ, ◌++◌, ◌+◌, ◌-◌, ◌↔◌, ◌∙◌, ◌∷◌, ◌≡◌, AllAdjacentBelow, AllByRecursion, ap, arith, BelowAll, Bool, cases_lt, false}
use Rattle.litemap_store.proofs.Names.{get_or_from_slice_get, In, inl, inr, IsTotalOrder, IsTrue, length, Less, List, None, Ordering, refl, Rises, Rising}
use Rattle.litemap_store.proofs.Names.{slice_get, slice_get_within, Some, sub-one, subst, suc, suc-add, sym, true≢false}
use Rattle.litemap_store.proofs.Last.KeepLast.{all_below, rising_across}
use Rattle.litemap_store.proofs.Lists.Membership.{In-get_or, each}
use Rattle.litemap_store.proofs.Lists.Places.{AllPairs-from_Rising, slice_get-None}
use Rattle.litemap_store.proofs.Search.Splitting.{Rising-append, each-weaker}

-- if k is below the first key, it is below all
pub below_all : {K V : Type 0} {cmp : K → K → Ordering} → IsTotalOrder cmp → (k : K) (b : K × V) (L : List (K × V)) → cmp k b.0 ≡ Less → Rising cmp (b ∷ L)
    → BelowAll cmp k (b ∷ L)
below_all {K} {V} o k b L l r = (l, each-weaker (λ (x : K × V). o.trans k b.0 x.0 l) L r.0)

-- ---- by neighbours
pub adjacent_from_Rising : {K V : Type 0} (cmp : K → K → Ordering) (L : List (K × V)) → Rising cmp L
    → AllAdjacentBelow (λ (p q : K × V). cmp p.0 q.0 ≡ Less) L (length L)
adjacent_from_Rising cmp L r k d h = AllPairs-from_Rising cmp L r k (k + 1) d (omega arith) h

pub Rising-from_adjacent : {K V : Type 0} (cmp : K → K → Ordering) → IsTotalOrder cmp → (L : List (K × V))
    → AllAdjacentBelow (λ (p q : K × V). cmp p.0 q.0 ≡ Less) L (length L) → Rising cmp L
Rising-from_adjacent cmp o [] a = tt
Rising-from_adjacent cmp o (p ∷ []) a = (tt, tt)
Rising-from_adjacent {K} {V} cmp o (p ∷ (q ∷ L)) a =
    let first : cmp p.0 q.0 ≡ Less = a 0 p (omega arith) in
    let rest : Rising cmp (q ∷ L) = Rising-from_adjacent cmp o (q ∷ L) (λ k d h. rw (suc-add k 1) at (a (suc k) d (omega arith))) in
    (below_all o p.0 q L first rest, rest)

-- one more neighbour
pub adjacent_more : {K V : Type 0} (cmp : K → K → Ordering) (L : List (K × V)) (n : ℕ) (p q : K × V)
    → AllAdjacentBelow (λ (p q : K × V). cmp p.0 q.0 ≡ Less) L n
    → slice_get L (n - 1) ≡ Some p → slice_get L n ≡ Some q → cmp p.0 q.0 ≡ Less → AllAdjacentBelow (λ (p q : K × V). cmp p.0 q.0 ≡ Less) L (n + 1)
adjacent_more cmp L n p q a first second less k d h = elim (cases_lt (k + 1) n) [
  | inl before ↦ a k d before
  | inr last ↦
      let here : slice_get L k ≡ Some p = subst (λ (j : ℕ). slice_get L j ≡ Some p) {x = n - 1} {y = k} (omega arith) first in
      let next : slice_get L (k + 1) ≡ Some q = subst (λ (j : ℕ). slice_get L j ≡ Some q) {x = n} {y = k + 1} (omega arith) second in
      rw (get_or_from_slice_get L k p d here, get_or_from_slice_get L (k + 1) q d next) less
]

-- ---- one ascending list after another
pub In-slice_get : {X : Type 0} (L : List X) (i : ℕ) (x : X) → slice_get L i ≡ Some x → In x L
In-slice_get L i x e = subst (λ y. In y L) (get_or_from_slice_get L i x x e) (In-get_or L i x (slice_get_within L i x e))

pub empty_from_last : {X : Type 0} (L : List X) → slice_get L (length L - 1) ≡ None → L ≡ []
empty_from_last [] e = refl
empty_from_last (y ∷ L) e = absurd (slice_get-None (y ∷ L) (length (y ∷ L) - 1) e (omega arith))

pub empty_from_first : {X : Type 0} (L : List X) → slice_get L 0 ≡ None → L ≡ []
empty_from_first [] e = refl
empty_from_first (y ∷ L) e = absurd (cc)

-- ---- the last element of a list, and the first
pub last_split : {X : Type 0} (L : List X) (x : X) → slice_get L (length L - 1) ≡ Some x → (N : List X) × (L ≡ N ++ x ∷ [])
last_split [] x e = absurd (cc)
last_split (y ∷ []) x e = ([], cc)
last_split (y ∷ (z ∷ L)) x e =
    let down : slice_get (z ∷ L) (length (z ∷ L) - 1) ≡ Some x = rw sub-one (rw sub-one at e) in
    let h = last_split (z ∷ L) x down in
    (y ∷ h.0, ap (λ M. y ∷ M) h.1)

pub first_split : {X : Type 0} (L : List X) (x : X) → slice_get L 0 ≡ Some x → (M : List X) × (L ≡ x ∷ M)
first_split [] x e = absurd (cc)
first_split (y ∷ L) x e = let s : y ≡ x = cc in (L, ap (λ z. z ∷ L) s)

-- the last key of A is below the first of B
pub Rising-after : {K V : Type 0} (cmp : K → K → Ordering) → IsTotalOrder cmp → (A B : List (K × V)) (a b : K × V) → slice_get A (length A - 1) ≡ Some a
    → slice_get B 0 ≡ Some b
    → Rising cmp A → Rising cmp B → (cmp a.0 b.0 ≡ Less) ↔ Rising cmp (A ++ B)
Rising-after {K} {V} cmp o A B a b is_last is_first r s =
    let end = last_split A a is_last in
    let start = first_split B b is_first in
    let up : Rising cmp (b ∷ start.0) = subst (Rising cmp) start.1 s in (
      λ l. Rising-append cmp A B r s (λ x y i j.
          let below : cmp x.0 b.0 ≡ Less = each (λ (q : K × V). cmp q.0 b.0 ≡ Less) A (all_below o A end.0 a b.0 r end.1 l) x i in
          each (λ (q : K × V). cmp x.0 q.0 ≡ Less) (b ∷ start.0) (below_all o x.0 b start.0 below up) y (subst (In y) start.1 j)),
      λ t. rising_across cmp A B t a b (In-slice_get A _ a is_last) (In-slice_get B 0 b is_first),
    )

pub Rising-from_Rises : {K V : Type 0} (cmp : K → K → Ordering) (A B : List (K × V)) → Rising cmp A → Rises cmp A B → Rising cmp (A ++ B)
Rising-from_Rises {K} {V} cmp A B r h =
    Rising-append cmp A B r h.rising
    (λ a b i j. each (λ (q : K × V). cmp a.0 q.0 ≡ Less) B (each (λ (p : K × V). AllByRecursion (λ (q : K × V). cmp p.0 q.0 ≡ Less) B) A h.below a i) b j)

-- if a test of that fails, it does not hold
pub not_above : {K V : Type 0} (cmp : K → K → Ordering) (A B : List (K × V)) (r : Bool) → Rising cmp A → (Rising cmp (A ++ B) → IsTrue r) → r ≡ false
    → Rises cmp A B → ⊥
not_above cmp A B r rising says not h = true≢false (sym (says (Rising-from_Rises cmp A B rising h)) ∙ not)
