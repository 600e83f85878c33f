-- What a lookup finds in a merge, and in what is displaced: lemmas for the proofs of callers. They hold for any query: `same`
-- says that the keys it finds are equal, `alike` that with a key it finds every equal one.
--     value_at-merged      the value of B if B has the key, else that of A
--     value_at-left      the value of A if B has the key, else none
--     at-same      what a key that the query finds finds;  key_same, key_alike      both, if the query is a key
use Rattle.litemap_store.proofs.Names.{[], ◌∙◌, ◌∷◌, ◌≡◌, ◌≢◌, alike_right, AllByRecursion, ap, at, Bool, cases_Bool, cond, cons_option, Equal, false, In, inl}
use Rattle.litemap_store.proofs.Names.{inr, is_eq, is_some, IsMerged, IsTotalOrder, left, Less, List, Merge, None, NoneEqual, Option, option_map, option_or}
use Rattle.litemap_store.proofs.Names.{Ordering, refl, Rising, Some, subst, sym, tied_back, true, true≢false, value_at}
use Rattle.litemap_store.proofs.Lists.Membership.{each, from_each}
use Rattle.litemap_store.proofs.Search.Splitting.{at_in, at_none, equal_from_is_eq, none_equal, not_is_eq}

module _ {K : Type 0} {cmp : K → K → Ordering} (o : IsTotalOrder cmp) (k : K) where
  pub key_same : (x y : K) → cmp x k ≡ Equal → cmp y k ≡ Equal → cmp x y ≡ Equal
  key_same x y e f = alike_right o y k x f ∙ e

  pub key_alike : (x y : K) → cmp x y ≡ Equal → cmp x k ≡ Equal → cmp y k ≡ Equal
  key_alike x y e f = sym (o.congr x y k e) ∙ f

module _ {K Q : Type 0} (cmp : K → K → Ordering) (o : IsTotalOrder cmp) (order : K → Q → Ordering) (q : Q)
    (same : (x y : K) → order x q ≡ Equal → order y q ≡ Equal → cmp x y ≡ Equal)
    (alike : (x y : K) → cmp x y ≡ Equal → order x q ≡ Equal → order y q ≡ Equal) where
  same_test : (x b : K) → order b q ≡ Equal → is_eq (cmp x b) ≡ is_eq (order x q)
  same_test x b e = elim (cases_Bool (is_eq (cmp x b))) [
    | inl t ↦ t ∙ sym (ap is_eq (alike b x (tied_back o x b (equal_from_is_eq _ t)) e))
    | inr f ↦ f ∙ sym (not_is_eq (order x q) (λ g. true≢false (sym (ap is_eq (same x b g e)) ∙ f)))
  ]

  module _ {V : Type 0} where
    -- the pair of an ascending list whose key is found
    pub at-rising : (M : List (K × V)) (p : K × V) → Rising cmp M → In p M → order p.0 q ≡ Equal → at order M q ≡ Some p
    at-rising [] p r i e = absurd i
    at-rising (x ∷ M) p r (inl f) e = let g : order x.0 q ≡ Equal = subst (λ (y : K × V). order y.0 q ≡ Equal) (sym f) e in rw g (ap Some f)
    at-rising (x ∷ M) p r (inr i) e =
        let less : cmp x.0 p.0 ≡ Less = each (λ (y : K × V). cmp x.0 y.0 ≡ Less) M r.0 p i in
        rw (not_is_eq (order x.0 q) (λ f. let s : cmp x.0 p.0 ≡ Equal = same x.0 p.0 f e in cc)) (at-rising M p r.1 i e)

    pub none_like : (k : K) (L : List (K × V)) → order k q ≡ Equal → AllByRecursion (λ p. order p.0 q ≢ Equal) L → NoneEqual cmp k L
    none_like k L e n = from_each (λ (p : K × V). cmp k p.0 ≢ Equal) L (λ x i f. each (λ (p : K × V). order p.0 q ≢ Equal) L n x i (alike k x.0 f e))

    module _ (A B M : List (K × V)) (merge : Merge cmp A B M) where
      shown : (p : K × V) → IsMerged cmp A B p → order p.0 q ≡ Equal → value_at order M q ≡ Some p.1
      shown p m e = ap (option_map (λ x. x.1)) (at-rising M p merge.rising ((merge.exactly p).1 m) e)

      by_both : (a b : Option (K × V)) → at order A q ≡ a → at order B q ≡ b
          → value_at order M q ≡ option_or (option_map (λ p. p.1) b) (option_map (λ p. p.1) a)
      by_both None None e f =
          ap (option_map (λ p. p.1)) (at_none order M q (from_each (λ (p : K × V). order p.0 q ≢ Equal) M (λ x i g. elim ((merge.exactly x).0 i) [
            | inl h ↦ each (λ (p : K × V). order p.0 q ≢ Equal) A (none_equal order A q e) x h.0 g
            | inr (inl h) ↦ each (λ (p : K × V). order p.0 q ≢ Equal) B (none_equal order B q f) x h.0 g
            | inr (inr h) ↦ each (λ (p : K × V). order p.0 q ≢ Equal) A (none_equal order A q e) (x.0, h.0.0) h.0.1 g
          ])))
      by_both (Some a) None e f = let t = at_in order A q a e in shown a (inl (t.0, none_like a.0 B t.1 (none_equal order B q f))) t.1
      by_both None (Some b) e f = let t = at_in order B q b f in shown b (inr (inl (t.0, none_like b.0 A t.1 (none_equal order A q e)))) t.1
      by_both (Some a) (Some b) e f = let s = at_in order A q a e in let t =
          at_in order B q b f in shown (a.0, b.1) (inr (inr ((a.1, s.0), (b.0, same a.0 b.0 s.1 t.1, t.0)))) s.1

      -- the value of B if B has the key, else that of A
      pub value_at-merged : value_at order M q ≡ option_or (value_at order B q) (value_at order A q)
      value_at-merged = by_both (at order A q) (at order B q) refl refl

    -- a key that the query finds finds the same
    pub at-same : (L : List (K × V)) (b : K) → order b q ≡ Equal → at cmp L b ≡ at order L q
    at-same [] b e = refl
    at-same (x ∷ L) b e = rw (same_test x.0 b e) (ap (λ r. cond (is_eq (order x.0 q)) (Some x) r) (at-same L b e))

    -- the value of A if B has the key, else none
    pub value_at-left : (A B : List (K × V)) → value_at order (left cmp A B) q ≡ cond (is_some (at order B q)) (value_at order A q) None
    value_at-left A [] = refl
    value_at-left A (b ∷ B) = by (is_eq (order b.0 q)) (at cmp A b.0) refl refl (value_at-left A B)
      where
        by : (c : Bool) (r : Option (K × V)) → is_eq (order b.0 q) ≡ c → at cmp A b.0 ≡ r
            → value_at order (left cmp A B) q ≡ cond (is_some (at order B q)) (value_at order A q) None
            → value_at order (cons_option (option_map (λ (a : K × V). let p : K × V = (b.0, a.1) in p) r) (left cmp A B)) q
            ≡ cond (is_some (at order (b ∷ B) q)) (value_at order A q) None
        by true (Some a) e f rest = let h : at order A q ≡ Some a = sym (at-same A b.0 (equal_from_is_eq _ e)) ∙ f in rw e (rw h refl)
        by true None e f rest = let h : value_at order A q ≡ None = ap (option_map (λ p. p.1)) (sym (at-same A b.0 (equal_from_is_eq _ e)) ∙ f) in
            rw e (rest ∙ elim (is_some (at order B q)) as (λ c. cond c (value_at order A q) None ≡ None) [ true ↦ h | false ↦ refl ] ∙ sym h)
        by false (Some a) e f rest = rw e rest
        by false None e f rest = rw e rest
