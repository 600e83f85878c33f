-- What a merge has, what it displaces, and how merges are joined.
--     left_none, none_from_left      nothing is displaced if no key is common;  keys_of_merge, Merge-unique      what a merge has
--     Merge-put, left-put      one more pair of B;  at-merged      what a lookup finds among the merged pairs
use Rattle.litemap_store.proofs.Names.{[], ◌++◌, ◌↔◌, ◌∙◌, ◌∷◌, ◌≡◌, ◌≢◌, ◌⊎◌, above, AllByRecursion, ap, at, below, BelowAll, cons_option, Equal}
use Rattle.litemap_store.proofs.Names.{filter_map-append, HasKey, In, inl, inr, IsMerged, IsTotalOrder, key_or, left, List, Merge, None, NoneEqual, Option}
use Rattle.litemap_store.proofs.Names.{option_map, Ordering, put, refl, Rising, Some, subst, sym, tied_back}
use Rattle.litemap_store.proofs.Callers.LastLookups.{at-Rising}
use Rattle.litemap_store.proofs.Last.Pairs.{in_put, none_from_at, put_has, some_equal, same_rising}
use Rattle.litemap_store.proofs.Lists.Membership.{In-left, In-right, In-cases, each, from_each}
use Rattle.litemap_store.proofs.Search.Splitting.{Rising-put, at_in, at_none as none_at, each-append, each-weaker}

module _ {K : Type 0} (cmp : K → K → Ordering) (o : IsTotalOrder cmp) where
  pub at_none : {V : Type 0} (A : List (K × V)) (k : K) → NoneEqual cmp k A → at cmp A k ≡ None
  at_none A k n = none_at cmp A k (each-weaker (λ p d e. d (tied_back o p.0 k e)) A n)

  pub left_none : {V : Type 0} (A B : List (K × V)) → AllByRecursion (λ (b : K × V). NoneEqual cmp b.0 A) B → left cmp A B ≡ []
  left_none A [] h = refl
  left_none A (b ∷ B) h = rw (at_none A b.0 h.0) (left_none A B h.1)

  pub none_from_left : {V : Type 0} (A B : List (K × V)) → left cmp A B ≡ [] → AllByRecursion (λ (b : K × V). NoneEqual cmp b.0 A) B
  none_from_left A [] e = tt
  none_from_left {V} A (b ∷ B) e = by (at cmp A b.0) refl (none_from_left A B) e
    where
      by : (r : Option (K × V)) → at cmp A b.0 ≡ r → (left cmp A B ≡ [] → AllByRecursion (λ (b : K × V). NoneEqual cmp b.0 A) B)
          → cons_option (option_map (λ (a : K × V). (b.0, a.1)) r) (left cmp A B) ≡ [] → AllByRecursion (λ (b : K × V). NoneEqual cmp b.0 A) (b ∷ B)
      by None f rest e = (none_from_at cmp o A b.0 f, rest e)
      by (Some a) f rest e = absurd (cc)

  -- what is displaced ascends as B does
  BelowAll-left : {V : Type 0} (A : List (K × V)) (k : K) (B : List (K × V)) → BelowAll cmp k B → BelowAll cmp k (left cmp A B)
  BelowAll-left A k [] h = tt
  BelowAll-left {V} A k (b ∷ B) h =
      let rest : BelowAll cmp k (left cmp A B) = BelowAll-left A k B h.1 in
      elim (at cmp A b.0) as (λ r. BelowAll cmp k (cons_option (option_map (λ (a : K × V). let p : K × V = (b.0, a.1) in p) r) (left cmp A B)))
      [ None ↦ rest | Some a ↦ (h.0, rest) ]

  pub Rising-left : {V : Type 0} (A B : List (K × V)) → Rising cmp B → Rising cmp (left cmp A B)
  Rising-left A [] r = tt
  Rising-left {V} A (b ∷ B) r =
      let rest : Rising cmp (left cmp A B) = Rising-left A B r.1 in
      elim (at cmp A b.0) as (λ s. Rising cmp (cons_option (option_map (λ (a : K × V). let p : K × V = (b.0, a.1) in p) s) (left cmp A B)))
      [ None ↦ rest | Some a ↦ (BelowAll-left A b.0 B r.0, rest) ]

  -- ---- one more pair is merged
  module _ {V : Type 0} (A B M : List (K × V)) (merge : Merge cmp A B M) (b : K × V) (new : NoneEqual cmp b.0 B) where
    old_key : (p : K × V) → In p A → (w : V) × In (p.0, w) M
    old_key p i = elim (some_equal cmp o p.0 B) [
      | inl h ↦ (h.0.1, (merge.exactly (p.0, h.0.1)).1 (inr (inr ((p.1, i), (h.0.0, h.2, h.1)))))
      | inr n ↦ (p.1, (merge.exactly p).1 (inl (i, n)))
    ]

    whose : (p : K × V) → In p M → ((w : V) × In (p.0, w) A) ⊎ In p B
    whose p i = elim ((merge.exactly p).0 i) [
      | inl h ↦ inl (p.1, h.0)
      | inr (inl h) ↦ inr h.0
      | inr (inr h) ↦ inl h.0
    ]

    apart : (p : K × V) → In p B → cmp p.0 b.0 ≢ Equal
    apart p i e = each (λ (q : K × V). cmp b.0 q.0 ≢ Equal) B new p i (tied_back o p.0 b.0 e)

    -- a key equal to b's is not in B, and if A has none, M has none
    unlike : (k : K) → cmp k b.0 ≡ Equal → NoneEqual cmp k B
    unlike k same = each-weaker (λ x d f. d (sym (o.congr k b.0 x.0 same) ∙ f)) B new

    absent : NoneEqual cmp b.0 A → NoneEqual cmp b.0 M
    absent n = from_each (λ (q : K × V). cmp b.0 q.0 ≢ Equal) M (λ x i. elim (whose x i) [
      | inl w ↦ each (λ (q : K × V). cmp b.0 q.0 ≢ Equal) A n (x.0, w.0) w.1
      | inr j ↦ each (λ (q : K × V). cmp b.0 q.0 ≢ Equal) B new x j
    ])

    there : In b (B ++ b ∷ [])
    there = In-right B (b ∷ []) b (inl refl)

    none_with : (k : K) → NoneEqual cmp k B → cmp k b.0 ≢ Equal → NoneEqual cmp k (B ++ b ∷ [])
    none_with k n d = each-append (λ (q : K × V). cmp k q.0 ≢ Equal) B (b ∷ []) n (d, tt)

    new_pair : (r : Option (K × V)) → at cmp M b.0 ≡ r → IsMerged cmp A (B ++ b ∷ []) (key_or r b.0, b.1)
    new_pair None e = inr
        (inl (
          there,
          from_each (λ (q : K × V). cmp b.0 q.0 ≢ Equal) A
              (λ x i. let h = old_key x i in each (λ (q : K × V). cmp b.0 q.0 ≢ Equal) M (none_from_at cmp o M b.0 e) (x.0, h.0) h.1),
        ))
    new_pair (Some q) e = let h = at_in cmp M b.0 q e in elim (whose q h.0) [
      | inl w ↦ inr (inr (w, (b.0, h.1, there)))
      | inr i ↦ absurd (apart q i h.1)
    ]

    still : (p : K × V) → IsMerged cmp A B p → cmp p.0 b.0 ≢ Equal → IsMerged cmp A (B ++ b ∷ []) p
    still p (inl h) d = inl (h.0, none_with p.0 h.1 d)
    still p (inr (inl h)) d = inr (inl (In-left B (b ∷ []) p h.0, h.1))
    still p (inr (inr h)) d = inr (inr (h.0, (h.1.0, h.1.1, In-left B (b ∷ []) (h.1.0, p.1) h.1.2)))

    to_merged : (p : K × V) → In p (put cmp M b.0 b.1) → IsMerged cmp A (B ++ b ∷ []) p
    to_merged p i = elim (in_put cmp o M b.0 (key_or (at cmp M b.0) b.0, b.1) p i) [
      | inl e ↦ subst (IsMerged cmp A (B ++ b ∷ [])) e (new_pair (at cmp M b.0) refl)
      | inr h ↦ still p ((merge.exactly p).0 h.0) h.1
    ]

    placed : (p : K × V) → (key_or (at cmp M b.0) b.0, b.1) ≡ p → In p (put cmp M b.0 b.1)
    placed p e = In-right (below cmp M b.0) ((key_or (at cmp M b.0) b.0, b.1) ∷ above cmp M b.0) p (inl e)

    kept : (p : K × V) → IsMerged cmp A B p → cmp p.0 b.0 ≢ Equal → In p (put cmp M b.0 b.1)
    kept p h d = put_has cmp o M b.0 (key_or (at cmp M b.0) b.0, b.1) p ((merge.exactly p).1 h) d

    from_merged : (p : K × V) → IsMerged cmp A (B ++ b ∷ []) p → In p (put cmp M b.0 b.1)
    from_merged p (inl h) =
        kept p (inl (
          h.0,
          from_each (λ (q : K × V). cmp p.0 q.0 ≢ Equal) B
              (λ x i. each (λ (q : K × V). cmp p.0 q.0 ≢ Equal) (B ++ b ∷ []) h.1 x (In-left B (b ∷ []) x i)),
        ))
        (each (λ (q : K × V). cmp p.0 q.0 ≢ Equal) (B ++ b ∷ []) h.1 b there)
    from_merged p (inr (inl h)) = elim (In-cases B (b ∷ []) p h.0) [
      | inl i ↦ kept p (inr (inl (i, h.1))) (apart p i)
      | inr (inl e) ↦ placed p (let n : NoneEqual cmp b.0 A = subst (λ (q : K × V). NoneEqual cmp q.0 A) (sym e) h.1 in
          let none : at cmp M b.0 ≡ None = at_none M b.0 (absent n) in rw none e)
      | inr (inr j) ↦ absurd j
    ]
    from_merged p (inr (inr h)) = elim (In-cases B (b ∷ []) (h.1.0, p.1) h.1.2) [
      | inl i ↦ kept p (inr (inr (h.0, (h.1.0, h.1.1, i)))) (λ e. each (λ (q : K × V). cmp p.0 q.0 ≢ Equal) B (unlike p.0 e) (h.1.0, p.1) i h.1.1)
      | inr (inl e) ↦ placed p (
          let same : cmp p.0 b.0 ≡ Equal = subst (λ (q : K × V). cmp p.0 q.0 ≡ Equal) (sym e) h.1.1 in
          let mine : In (p.0, h.0.0) M = (merge.exactly (p.0, h.0.0)).1 (inl (h.0.1, unlike p.0 same)) in
          rw (at-Rising o M b.0 (p.0, h.0.0) merge.rising mine same) (ap (λ (q : K × V). let y : K × V = (p.0, q.1) in y) e))
      | inr (inr j) ↦ absurd j
    ]

    pub Merge-put : Merge cmp A (B ++ b ∷ []) (put cmp M b.0 b.1)
    Merge-put = record { rising = Rising-put o M b.0 b.1 merge.rising; exactly = λ p. (to_merged p, from_merged p) }

    -- its key finds among the merged pairs what it finds in A
    pub at-merged : at cmp M b.0 ≡ at cmp A b.0
    at-merged = by (at cmp A b.0) refl
      where
        by : (r : Option (K × V)) → at cmp A b.0 ≡ r → at cmp M b.0 ≡ at cmp A b.0
        by None e = at_none M b.0 (absent (none_from_at cmp o A b.0 e)) ∙ sym e
        by (Some q) e = let h = at_in cmp A b.0 q e in at-Rising o M b.0 q merge.rising ((merge.exactly q).1 (inl (h.0, unlike q.0 h.1))) h.1 ∙ sym e

    -- and the value that it finds there is displaced
    pub left-put : left cmp A (B ++ b ∷ []) ≡ left cmp A B ++ cons_option (option_map (λ (a : K × V). let p : K × V = (b.0, a.1) in p) (at cmp M b.0)) []
    left-put = filter_map-append (λ (x : K × V). option_map (λ (a : K × V). let p : K × V = (x.0, a.1) in p) (at cmp A x.0)) B (b ∷ [])
        ∙ ap (λ r. left cmp A B ++ cons_option (option_map (λ (a : K × V). let p : K × V = (b.0, a.1) in p) r) []) (sym at-merged)

  pub keys_of_merge : {V : Type 0} (A B M : List (K × V)) → Merge cmp A B M → (k : K)
      → HasKey cmp V k M ↔ (HasKey cmp V k A ⊎ (HasKey cmp V k B × NoneEqual cmp k A))
  keys_of_merge {V} A B M merge k = (there, back)
    where
      there : HasKey cmp V k M → HasKey cmp V k A ⊎ (HasKey cmp V k B × NoneEqual cmp k A)
      there h = elim ((merge.exactly (k, h.0)).0 h.1) [
        | inl a ↦ inl (h.0, a.0)
        | inr (inl b) ↦ inr ((h.0, b.0), b.1)
        | inr (inr c) ↦ inl c.0
      ]

      back : HasKey cmp V k A ⊎ (HasKey cmp V k B × NoneEqual cmp k A) → HasKey cmp V k M
      back (inl a) = elim (some_equal cmp o k B) [
        | inl h ↦ (h.0.1, (merge.exactly (k, h.0.1)).1 (inr (inr (a, (h.0.0, h.2, h.1)))))
        | inr n ↦ (a.0, (merge.exactly (k, a.0)).1 (inl (a.1, n)))
      ]
      back (inr b) = (b.0.0, (merge.exactly (k, b.0.0)).1 (inr (inl (b.0.1, b.1))))

  -- there is at most one
  pub Merge-unique : {V : Type 0} (A B M N : List (K × V)) → Merge cmp A B M → Merge cmp A B N → N ≡ M
  Merge-unique A B M N m n = same_rising cmp o N M n.rising m.rising (λ x. (λ i. (m.exactly x).1 ((n.exactly x).0 i), λ i. (n.exactly x).1 ((m.exactly x).0 i)))
