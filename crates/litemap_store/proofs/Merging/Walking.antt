-- Walking two ascending lists from their first pairs.
--     lower_new, lower_old, lower_from_cmp      which list has the lower first key
--     take_old, take_new, take_both      a first pair is taken;  first_rest      what is left then
--     ByFirsts, walked      what holds of a walk if it goes on by the first pairs;  merge_by_firsts      so does a merge
use Rattle.litemap_store.proofs.Names.{[], ◌++◌, ◌∙◌, ◌∷◌, ◌≡◌, ap, arith, at, BelowAll, Equal, Greater, In, inl, inr, is_some, ◌+◌, ◌<◌}
use Rattle.litemap_store.proofs.Names.{ComparesFirsts, IsTakenFirst, IsTotalOrder, left, length, Less, List, Merge, None, Option, option_map, Ordering, refl}
use Rattle.litemap_store.proofs.Names.{Rising, slice_get, Some, subst, sym, then_some, Walks}
use Rattle.litemap_store.proofs.Lists.Joined.{below_all, empty_from_first, first_split}
use Rattle.litemap_store.proofs.Lists.Membership.{In-cases, each}
use Rattle.litemap_store.proofs.Merging.Down.{Merge-one, left-same}
use Rattle.litemap_store.proofs.Merging.Joins.{Across, Merge-all, Merge-join, Merge-none, none_above}
use Rattle.litemap_store.proofs.Merging.Merges.{at_none}
use Rattle.litemap_store.proofs.Search.Splitting.{greater_back}

same_first : {X : Type 0} (L M N : List X) (x y : X) → L ≡ x ∷ M → L ≡ y ∷ N → x ≡ y
same_first L M N x y e f = let g : x ∷ M ≡ y ∷ N = sym e ∙ f in cc

module _ {K V : Type 0} (cmp : K → K → Ordering) (o : IsTotalOrder cmp) where
  below_each : (k : K) (L : List (K × V)) → BelowAll cmp k L → (x : K × V) → In x L → cmp k x.0 ≡ Less
  below_each k L h x i = each (λ (q : K × V). cmp k q.0 ≡ Less) L h x i

  -- ---- which list has the lower first key
  pub lower_new : (A B : List (K × V)) {R : Type 0} (pair : R → K × V) (first : Option R) → slice_get A 0 ≡ None → option_map pair first ≡ slice_get B 0
      → ComparesFirsts cmp A B (then_some (is_some first) Greater)
  lower_new A B pair None e f = (empty_from_first A e, empty_from_first B (sym f))
  lower_new A B pair (Some b) e f = let h = first_split B (pair b) (sym f) in (pair b, h.0, h.1, rw (empty_from_first A e) tt)

  pub lower_old : (A B : List (K × V)) (a : K × V) → slice_get A 0 ≡ Some a → slice_get B 0 ≡ None → ComparesFirsts cmp A B (Some Less)
  lower_old A B a e f = let h = first_split A a e in (a, h.0, h.1, rw (empty_from_first B f) tt)

  pub lower_from_cmp : (A B : List (K × V)) (a b : K × V) (r : Ordering) → Rising cmp A → Rising cmp B → slice_get A 0 ≡ Some a → slice_get B 0 ≡ Some b
      → r ≡ cmp a.0 b.0 → ComparesFirsts cmp A B (Some r)
  lower_from_cmp A B a b r s t first_a first_b asked = by r asked
    where
      of_a : (M : List (K × V)) × (A ≡ a ∷ M)
      of_a = first_split A a first_a

      of_b : (M : List (K × V)) × (B ≡ b ∷ M)
      of_b = first_split B b first_b

      by : (r : Ordering) → r ≡ cmp a.0 b.0 → ComparesFirsts cmp A B (Some r)
      by Less e = (a, of_a.0, of_a.1, subst (BelowAll cmp a.0) (sym of_b.1) (below_all o a.0 b of_b.0 (sym e) (subst (Rising cmp) of_b.1 t)))
      by Equal e = (a, of_a.0, b, of_b.0, of_a.1, of_b.1, sym e)
      by Greater e = (
        b,
        of_b.0,
        of_b.1,
        subst (BelowAll cmp b.0) (sym of_a.1) (below_all o b.0 a of_a.0 (greater_back o a.0 b.0 (sym e)) (subst (Rising cmp) of_a.1 s)),
      )

  module _ (kept : K × V → K × V → K × V) (gone : K × V → K × V → List (K × V)) where
    -- ---- a first pair is taken
    pub take_old : (A B A' : List (K × V)) (p : K × V) → ComparesFirsts cmp A B (Some Less) → A ≡ p ∷ A' → IsTakenFirst cmp kept gone A B A' B p []
    take_old A B A' p lower e =
        inl (e, refl, subst (λ (x : K × V). BelowAll cmp x.0 B) (same_first A lower.1 A' lower.0 p lower.2 e) lower.3, refl)

    pub take_new : (A B B' : List (K × V)) (p : K × V) → ComparesFirsts cmp A B (Some Greater) → B ≡ p ∷ B' → IsTakenFirst cmp kept gone A B A B' p []
    take_new A B B' p lower e =
        inr (inl (e, refl, subst (λ (x : K × V). BelowAll cmp x.0 A) (same_first B lower.1 B' lower.0 p lower.2 e) lower.3, refl))

    pub take_both : (A B A' B' : List (K × V)) (a b p : K × V) (D : List (K × V)) → ComparesFirsts cmp A B (Some Equal) → A ≡ a ∷ A' → B ≡ b ∷ B'
        → p ≡ kept a b → D ≡ gone a b → IsTakenFirst cmp kept gone A B A' B' p D
    take_both A B A' B' a b p D lower e f k d =
        let same : cmp a.0 b.0 ≡ Equal =
        subst (λ (x : K × V). cmp x.0 b.0 ≡ Equal) (same_first A lower.1 A' lower.0 a lower.4 e)
        (subst (λ (x : K × V). cmp lower.0.0 x.0 ≡ Equal) (same_first B lower.3 B' lower.2 b lower.5 f) lower.6) in
        inr (inr (a, b, e, f, same, k, d))

    pub first_rest : (A B A' B' D : List (K × V)) (p : K × V) → IsTakenFirst cmp kept gone A B A' B' p D → Rising cmp A → Rising cmp B
        → Rising cmp A' × Rising cmp B' × (length A' + length B' < length A + length B)
    first_rest A B A' B' D p (inl h) r s = ((subst (Rising cmp) h.0 r).1, rw h.1 s, omega (arith, ap length h.0, ap length h.1))
    first_rest A B A' B' D p (inr (inl h)) r s = (rw h.1 r, (subst (Rising cmp) h.0 s).1, omega (arith, ap length h.0, ap length h.1))
    first_rest A B A' B' D p (inr (inr h)) r s =
        ((subst (Rising cmp) h.2 r).1, (subst (Rising cmp) h.3 s).1, omega (arith, ap length h.2, ap length h.3))

    -- ---- a whole walk
    -- it holds of empty lists, and goes on by the first pairs
    pub record ByFirsts (holds : List (K × V) → List (K × V) → List (K × V) → List (K × V) → Type 0) : Type 0 where
      pub none : holds [] [] [] []
      pub old : (p : K × V) (A B M D : List (K × V)) → Rising cmp (p ∷ A) → BelowAll cmp p.0 B → holds A B M D → holds (p ∷ A) B (p ∷ M) D
      pub new : (p : K × V) (A B M D : List (K × V)) → BelowAll cmp p.0 A → Rising cmp (p ∷ B) → holds A B M D → holds A (p ∷ B) (p ∷ M) D
      pub both : (q p : K × V) (A B M D : List (K × V)) → Rising cmp (q ∷ A) → Rising cmp (p ∷ B) → cmp q.0 p.0 ≡ Equal
          → holds A B M D → holds (q ∷ A) (p ∷ B) (kept q p ∷ M) (gone q p ++ D)

    pub walked : (holds : List (K × V) → List (K × V) → List (K × V) → List (K × V) → Type 0) → ByFirsts holds → (A B M D : List (K × V))
        → Rising cmp A → Rising cmp B → Walks cmp kept gone A B M D → holds A B M D
    walked holds by A B [] D r s w = rw (w.0, w.1, w.2) by.none
    walked holds by A B (p ∷ M) D r s w =
        let A' : List (K × V) = w.0 in let B' : List (K × V) = w.1 in let out : List (K × V) = w.2 in let rest : List (K × V) = w.3 in
        let left_over = first_rest A B A' B' out p w.4 r s in
        let h : holds A' B' M rest = walked holds by A' B' M rest left_over.0 left_over.1 w.6 in
        rw w.5 (elim w.4 [
          | inl f ↦ rw (f.0, f.3) (by.old p A' B M rest (subst (Rising cmp) f.0 r) f.2 (rw f.1 at h))
          | inr (inl f) ↦ rw (f.0, f.3) (by.new p A B' M rest f.2 (subst (Rising cmp) f.0 s) (rw f.1 at h))
          | inr (inr f) ↦ rw (f.2, f.3, f.5, f.6) (by.both f.0 f.1 A' B' M rest (subst (Rising cmp) f.2 r) (subst (Rising cmp) f.3 s) f.4 h)
        ])

  -- a pair below all keys of B finds nothing there, and displaces nothing
  left-past : (a : K × V) (A B : List (K × V)) → ((x : K × V) → In x B → cmp a.0 x.0 ≡ Less) → left cmp (a ∷ A) B ≡ left cmp A B
  left-past a A B f = left-same cmp o (a ∷ A) A B (λ y i. let less : cmp a.0 y.0 ≡ Less = f y i in rw less refl)

  -- ---- a merge by the first pairs
  -- two lists joined, of which p.0 is below all
  over : (p : K × V) (A B : List (K × V)) → BelowAll cmp p.0 A → BelowAll cmp p.0 B → (y : K × V) → In y (A ++ B) → cmp p.0 y.0 ≡ Less
  over p A B low up y j = elim (In-cases A B y j) [ inl k ↦ below_each p.0 A low y k | inr k ↦ below_each p.0 B up y k ]

  one_over : (p : K × V) (L : List (K × V)) → ((y : K × V) → In y L → cmp p.0 y.0 ≡ Less) → Across cmp o (p ∷ []) L
  one_over p L f x y (inl e) j = subst (λ (q : K × V). cmp q.0 y.0 ≡ Less) e (f y j)
  one_over p L f x y (inr n) j = absurd n

  two_over : (q p : K × V) (L : List (K × V)) → ((y : K × V) → In y L → cmp p.0 y.0 ≡ Less) → cmp q.0 p.0 ≡ Equal → Across cmp o (q ∷ p ∷ []) L
  two_over q p L f same x y (inl e) j = subst (λ (z : K × V). cmp z.0 y.0 ≡ Less) e (o.congr q.0 p.0 y.0 same ∙ f y j)
  two_over q p L f same x y (inr i) j = one_over p L f x y i j

  pub merge_by_firsts : ByFirsts (λ a b. (a.0, b.1)) (λ a b. (b.0, a.1) ∷ []) (λ A B M D. Merge cmp A B M × (D ≡ left cmp A B))
  merge_by_firsts = record {
    none = (Merge-none cmp [] tt, refl);
    old = λ p A B M D r low h. (
      Merge-join cmp o (p ∷ []) A [] B (p ∷ []) M (Merge-none cmp (p ∷ []) (tt, tt)) h.0 (one_over p (A ++ B) (over p A B r.0 low)),
      h.1 ∙ sym (left-past p A B (below_each p.0 B low)),
    );
    new = λ p A B M D low s h.
        let none : at cmp A p.0 ≡ None = at_none cmp o A p.0 (none_above cmp o p.0 A (below_each p.0 A low)) in (
          Merge-join cmp o [] A (p ∷ []) B (p ∷ []) M (Merge-all cmp (p ∷ []) (tt, tt)) h.0 (one_over p (A ++ B) (over p A B low s.0)),
          rw none h.1,
        );
    both = λ q p A B M D r s same h.
        let up : (x : K × V) → In x B → cmp q.0 x.0 ≡ Less = (λ x i. o.congr q.0 p.0 x.0 same ∙ below_each p.0 B s.0 x i) in
        let low : (y : K × V) → In y (A ++ B) → cmp p.0 y.0 ≡ Less = (λ y j. elim (In-cases A B y j) [
          | inl k ↦ sym (o.congr q.0 p.0 y.0 same) ∙ below_each q.0 A r.0 y k
          | inr k ↦ below_each p.0 B s.0 y k
        ]) in
        let found : at cmp (q ∷ A) p.0 ≡ Some q = rw same refl in (
          Merge-join cmp o (q ∷ []) A (p ∷ []) B ((q.0, p.1) ∷ []) M (Merge-one cmp o q p same) h.0 (two_over q p (A ++ B) low same),
          rw found (ap (λ W. let z : K × V = (p.0, q.1) in z ∷ W) (h.1 ∙ sym (left-past q A B up))),
        );
  }
