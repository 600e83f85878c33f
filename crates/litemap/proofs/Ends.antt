-- The pair at an index of an ascending list: what its key finds, for any query; and the pairs at the ends.
--     at-index      what its key finds;  least, greatest      what each pair is to the first, to the last
use Rattle.litemap.proofs.Common.{◌≡◌, ◌∷◌, ◌-◌, ℕ, [], List, Some, inl, inr}
use Rattle.litemap.proofs.Common.{length, refl, slice_get, subst}
use Rattle.litemap.proofs.Common.{Ordering, Less, Equal, IsTotalOrder, Rising, at, at-rising}
use Rattle.std.proofs.Common.{◌⊎◌}
use Rattle.litemap_store.specs.Last.{In}
use Rattle.litemap_store.proofs.Last.KeepLast.{rising_across}
use Rattle.litemap_store.proofs.Lists.Joined.{In-slice_get, first_split, last_split}
use Rattle.litemap_store.proofs.Lists.Membership.{In-cases, each}

module _ {K Q : Type 0} (cmp : K → K → Ordering) (o : IsTotalOrder cmp) (order : K → Q → Ordering) (q : Q)
    (same : (x y : K) → order x q ≡ Equal → order y q ≡ Equal → cmp x y ≡ Equal)
    (alike : (x y : K) → cmp x y ≡ Equal → order x q ≡ Equal → order y q ≡ Equal) where
  pub at-index : {V : Type 0} (L : List (K × V)) (i : ℕ) (p : K × V) → Rising cmp L → slice_get L i ≡ Some p → order p.0 q ≡ Equal → at order L q ≡ Some p
  at-index L i p r g e = at-rising cmp o order q same alike L p r (In-slice_get L i p g) e

-- ---- the ends of an ascending list
module _ {K V : Type 0} (cmp : K → K → Ordering) where
  pub greatest : (L : List (K × V)) (x y : K × V) → Rising cmp L → slice_get L (length L - 1) ≡ Some x → In y L → (x ≡ y) ⊎ (cmp y.0 x.0 ≡ Less)
  greatest L x y r g i =
      let s = last_split L x g in
      elim (In-cases s.0 (x ∷ []) y (subst (In y) s.1 i)) [
        | inl a ↦ inr (rising_across cmp s.0 (x ∷ []) (subst (Rising cmp) s.1 r) y x a (inl refl))
        | inr (inl e) ↦ inl e
        | inr (inr b) ↦ absurd b
      ]

  pub least : (L : List (K × V)) (x y : K × V) → Rising cmp L → slice_get L 0 ≡ Some x → In y L → (x ≡ y) ⊎ (cmp x.0 y.0 ≡ Less)
  least L x y r g i =
      let s = first_split L x g in
      elim (subst (In y) s.1 i) [ inl e ↦ inl e | inr b ↦ inr (each (λ (w : K × V). cmp x.0 w.0 ≡ Less) s.0 (subst (Rising cmp) s.1 r).0 y b) ]
