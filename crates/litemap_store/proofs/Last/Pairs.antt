-- The last pair of each key: there is one such list and no other, and what adds to it.
--     last_of, Last-unique      there is one, and only one;  Last-rising      an ascending list is its own;  Last-put      one more pair
--     Last-join, Last-join_right      the last pairs of a part in place of the part;  Last-same      the same pairs are last
--     StandsLast-left, StandsLast-right, StandsLast-cases      which pairs of a joined list are last;  stands_before, stands_after      and if a part changes
--     in_put, put_has      what is in a list after a put
use Rattle.litemap_store.proofs.Names.{[], ◌++◌, ◌↔◌, ◌∙◌, ◌∷◌, ◌≡◌, ◌≢◌, ◌⊎◌, above, alike_right, ap, append-nil, append_assoc, at, below, Equal, Greater, In}
use Rattle.litemap_store.proofs.Names.{inl, inr, is_gt, is_lt, IsTotalOrder, Last, Less, List, None, NoneEqual, Option, Ordering, refl, Rising, Some}
use Rattle.litemap_store.proofs.Names.{StandsLast, subst, sym, tied_back, tied_itself}
use Rattle.litemap_store.proofs.Lists.Membership.{In-left, In-right, In-cases, In-filter, In-from_filter, each, from_each}
use Rattle.litemap_store.proofs.Search.Splitting.{Rising-between, at_in, each-append, each-weaker, greater_from_is_gt, less_back, less_from_is_lt, none_equal}

-- ---- which pairs of a joined list are last
pub StandsLast-left : {K V : Type 0} (cmp : K → K → Ordering) (p : K × V) (A B : List (K × V)) → StandsLast cmp p A → NoneEqual cmp p.0 B
    → StandsLast cmp p (A ++ B)
StandsLast-left cmp p [] B h n = absurd h
StandsLast-left {K} {V} cmp p (a ∷ A) B (inl h) n = inl (h.0, each-append (λ (q : K × V). cmp p.0 q.0 ≢ Equal) A B h.1 n)
StandsLast-left cmp p (a ∷ A) B (inr h) n = inr (StandsLast-left cmp p A B h n)

pub StandsLast-right : {K V : Type 0} (cmp : K → K → Ordering) (p : K × V) (A B : List (K × V)) → StandsLast cmp p B → StandsLast cmp p (A ++ B)
StandsLast-right cmp p [] B h = h
StandsLast-right cmp p (a ∷ A) B h = inr (StandsLast-right cmp p A B h)

pub StandsLast-cases : {K V : Type 0} (cmp : K → K → Ordering) (p : K × V) (A B : List (K × V)) → StandsLast cmp p (A ++ B)
    → (StandsLast cmp p A × NoneEqual cmp p.0 B) ⊎ StandsLast cmp p B
StandsLast-cases cmp p [] B h = inr h
StandsLast-cases {K} {V} cmp p (a ∷ A) B (inl h) =
    inl (
      inl (h.0, from_each (λ (q : K × V). cmp p.0 q.0 ≢ Equal) A (λ x i. each (λ (q : K × V). cmp p.0 q.0 ≢ Equal) (A ++ B) h.1 x (In-left A B x i))),
      from_each (λ (q : K × V). cmp p.0 q.0 ≢ Equal) B (λ x i. each (λ (q : K × V). cmp p.0 q.0 ≢ Equal) (A ++ B) h.1 x (In-right A B x i)),
    )
StandsLast-cases cmp p (a ∷ A) B (inr h) = elim (StandsLast-cases cmp p A B h) [ inl j ↦ inl (inr j.0, j.1) | inr j ↦ inr j ]

-- so if one part replaces another
pub stands_before : {K V : Type 0} (cmp : K → K → Ordering) (p : K × V) (P Q B : List (K × V)) → (StandsLast cmp p P → StandsLast cmp p Q)
    → StandsLast cmp p (P ++ B) → StandsLast cmp p (Q ++ B)
stands_before cmp p P Q B f h = elim (StandsLast-cases cmp p P B h) [ inl j ↦ StandsLast-left cmp p Q B (f j.0) j.1 | inr j ↦ StandsLast-right cmp p Q B j ]

pub stands_after : {K V : Type 0} (cmp : K → K → Ordering) (p : K × V) (A P Q : List (K × V)) → (NoneEqual cmp p.0 P → NoneEqual cmp p.0 Q)
    → (StandsLast cmp p P → StandsLast cmp p Q)
    → StandsLast cmp p (A ++ P) → StandsLast cmp p (A ++ Q)
stands_after cmp p A P Q n f h =
    elim (StandsLast-cases cmp p A P h) [ inl j ↦ StandsLast-left cmp p A Q j.0 (n j.1) | inr j ↦ StandsLast-right cmp p A Q (f j) ]

-- a pair that is last in a list is in it
pub In-from_last : {K V : Type 0} (cmp : K → K → Ordering) (p : K × V) (J : List (K × V)) → StandsLast cmp p J → In p J
In-from_last cmp p [] h = h
In-from_last cmp p (q ∷ J) (inl h) = inl h.0
In-from_last cmp p (q ∷ J) (inr h) = inr (In-from_last cmp p J h)

-- in an ascending list each pair is last
pub last_in_rising : {K V : Type 0} (cmp : K → K → Ordering) (p : K × V) (L : List (K × V)) → Rising cmp L → In p L → StandsLast cmp p L
last_in_rising cmp p [] r h = h
last_in_rising {K} {V} cmp p (q ∷ L) r (inl e) =
    inl (
      e,
      from_each (λ (x : K × V). cmp p.0 x.0 ≢ Equal) L
          (λ x i same. let less : cmp q.0 x.0 ≡ Less = each (λ (y : K × V). cmp q.0 y.0 ≡ Less) L r.0 x i in
          let here : cmp p.0 x.0 ≡ Less = subst (λ (y : K × V). cmp y.0 x.0 ≡ Less) e less in cc),
    )
last_in_rising cmp p (q ∷ L) r (inr h) = inr (last_in_rising cmp p L r.1 h)

pub Last-rising : {K V : Type 0} (cmp : K → K → Ordering) (L : List (K × V)) → Rising cmp L → Last cmp L L
Last-rising cmp L r = record { rising = r; exactly = λ p. (last_in_rising cmp p L r, In-from_last cmp p L) }

module _ {K : Type 0} (cmp : K → K → Ordering) (o : IsTotalOrder cmp) where
  -- ---- only one list
  -- a pair that two ascending lists both begin with, and their tails
  pub same_head : {V : Type 0} (m n : K × V) (M N : List (K × V)) → Rising cmp (m ∷ M) → Rising cmp (n ∷ N) → In m (n ∷ N) → In n (m ∷ M) → m ≡ n
  same_head m n M N r s (inl e) j = sym e
  same_head m n M N r s (inr i) (inl e) = e
  same_head {V} m n M N r s (inr i) (inr j) =
      let a : cmp n.0 m.0 ≡ Less = each (λ (q : K × V). cmp n.0 q.0 ≡ Less) N s.0 m i in
      let b : cmp m.0 n.0 ≡ Less = each (λ (q : K × V). cmp m.0 q.0 ≡ Less) M r.0 n j in
      let c = less_back o m.0 n.0 b in
      cc

  tail_in : {V : Type 0} (m n x : K × V) (M N : List (K × V)) → Rising cmp (m ∷ M) → m ≡ n → In x M → In x (n ∷ N) → In x N
  tail_in m n x M N r e i (inr j) = j
  tail_in {V} m n x M N r e i (inl f) =
      let a : cmp m.0 x.0 ≡ Less = each (λ (q : K × V). cmp m.0 q.0 ≡ Less) M r.0 x i in
      let b = tied_itself o m.0 in
      let c : cmp m.0 m.0 ≡ Less = subst (λ (q : K × V). cmp m.0 q.0 ≡ Less) (sym (e ∙ f)) a in
      cc

  pub same_rising : {V : Type 0} (M N : List (K × V)) → Rising cmp M → Rising cmp N → ((x : K × V) → In x M ↔ In x N) → M ≡ N
  same_rising [] [] r s f = refl
  same_rising [] (n ∷ N) r s f = absurd ((f n).1 (inl refl))
  same_rising (m ∷ M) [] r s f = absurd ((f m).0 (inl refl))
  same_rising (m ∷ M) (n ∷ N) r s f =
      let e : m ≡ n = same_head m n M N r s ((f m).0 (inl refl)) ((f n).1 (inl refl)) in
      let t : M ≡ N = same_rising M N r.1 s.1 (λ x. (λ i. tail_in m n x M N r e i ((f x).0 (inr i)), λ i. tail_in n m x N M s (sym e) i ((f x).1 (inr i)))) in
      cc

  pub Last-unique : {V : Type 0} (J M N : List (K × V)) → Last cmp J M → Last cmp J N → M ≡ N
  Last-unique J M N a b = same_rising M N a.rising b.rising (λ x. (λ i. (b.exactly x).1 ((a.exactly x).0 i), λ i. (a.exactly x).1 ((b.exactly x).0 i)))

  -- ---- one more pair, x with the key k
  module _ {V : Type 0} (M : List (K × V)) (k : K) (x : K × V) where
    pub in_put : (p : K × V) → In p (below cmp M k ++ x ∷ above cmp M k) → (x ≡ p) ⊎ (In p M × (cmp p.0 k ≢ Equal))
    in_put p i = elim (In-cases (below cmp M k) (x ∷ above cmp M k) p i) [
      | inl j ↦ inr (let h = In-from_filter (λ (q : K × V). is_lt (cmp q.0 k)) M p j in (h.0, (λ e. let l = less_from_is_lt _ h.1 in cc)))
      | inr (inl e) ↦ inl e
      | inr (inr j) ↦ inr (let h = In-from_filter (λ (q : K × V). is_gt (cmp q.0 k)) M p j in (h.0, (λ e. let l = greater_from_is_gt _ h.1 in cc)))
    ]

    pub put_has : (p : K × V) → In p M → cmp p.0 k ≢ Equal → In p (below cmp M k ++ x ∷ above cmp M k)
    put_has p i n = by (cmp p.0 k) refl
      where
        by : (r : Ordering) → cmp p.0 k ≡ r → In p (below cmp M k ++ x ∷ above cmp M k)
        by Less e = In-left (below cmp M k) (x ∷ above cmp M k) p (In-filter (λ (q : K × V). is_lt (cmp q.0 k)) M p i (ap is_lt e))
        by Equal e = absurd (n e)
        by Greater e = In-right (below cmp M k) (x ∷ above cmp M k) p (inr (In-filter (λ (q : K × V). is_gt (cmp q.0 k)) M p i (ap is_gt e)))

  module _ {V : Type 0} (J M : List (K × V)) (last : Last cmp J M) (p : K × V) where
    to_last : (x : K × V) → In x (below cmp M p.0 ++ p ∷ above cmp M p.0) → StandsLast cmp x (J ++ p ∷ [])
    to_last x i = elim (in_put M p.0 p x i) [
      | inl e ↦ StandsLast-right cmp x J (p ∷ []) (inl (e, tt))
      | inr h ↦ StandsLast-left cmp x J (p ∷ []) ((last.exactly x).0 h.0) (h.1, tt)
    ]

    from_last : (x : K × V) → StandsLast cmp x (J ++ p ∷ []) → In x (below cmp M p.0 ++ p ∷ above cmp M p.0)
    from_last x h = elim (StandsLast-cases cmp x J (p ∷ []) h) [
      | inl j ↦ put_has M p.0 p x ((last.exactly x).1 j.0) j.1.0
      | inr (inl j) ↦ In-right (below cmp M p.0) (p ∷ above cmp M p.0) x (inl j.0)
      | inr (inr j) ↦ absurd j
    ]

    pub Last-put : Last cmp (J ++ p ∷ []) (below cmp M p.0 ++ p ∷ above cmp M p.0)
    Last-put = record { rising = Rising-between o M p.0 p (tied_itself o p.0) last.rising; exactly = λ x. (to_last x, from_last x) }

  -- ---- there is one
  made : {V : Type 0} (J₀ M J : List (K × V)) → Last cmp J₀ M → (N : List (K × V)) × Last cmp (J₀ ++ J) N
  made J₀ M [] h = (M, rw append-nil h)
  made J₀ M (p ∷ J) h =
      let r = made (J₀ ++ p ∷ []) (below cmp M p.0 ++ p ∷ above cmp M p.0) J (Last-put J₀ M h p) in
      (r.0, rw (append_assoc J₀ (p ∷ []) J) at r.1)

  pub last_of : {V : Type 0} (J : List (K × V)) → (M : List (K × V)) × Last cmp J M × ((N : List (K × V)) → Last cmp J N → N ≡ M)
  last_of J = let h = made [] [] J (Last-rising cmp [] tt) in (h.0, h.1, λ N k. Last-unique J N h.0 k h.1)

  -- ---- lists with the same last pairs
  pub Last-same : {V : Type 0} (J J' M : List (K × V)) → ((p : K × V) → StandsLast cmp p J ↔ StandsLast cmp p J') → Last cmp J M → Last cmp J' M
  Last-same J J' M f h = record { rising = h.rising; exactly = λ p. (λ i. (f p).0 ((h.exactly p).0 i), λ i. (h.exactly p).1 ((f p).1 i)) }

  -- the last pairs of a list's last pairs and of more pairs are the last pairs of all
  pub Last-join : {V : Type 0} (J₁ J₂ M₁ M : List (K × V)) → Last cmp J₁ M₁ → Last cmp (M₁ ++ J₂) M → Last cmp (J₁ ++ J₂) M
  Last-join J₁ J₂ M₁ M a b = Last-same (M₁ ++ J₂) (J₁ ++ J₂) M (λ p. (
    stands_before cmp p M₁ J₁ J₂ (λ h. (a.exactly p).0 (In-from_last cmp p M₁ h)),
    stands_before cmp p J₁ M₁ J₂ (λ h. last_in_rising cmp p M₁ a.rising ((a.exactly p).1 h)),
  )) b

  pub none_from_at : {V : Type 0} (J : List (K × V)) (k : K) → at cmp J k ≡ None → NoneEqual cmp k J
  none_from_at J k e = each-weaker (λ p d f. d (tied_back o k p.0 f)) J (none_equal cmp J k e)

  pub some_equal : {V : Type 0} (k : K) (J : List (K × V)) → ((q : K × V) × In q J × (cmp k q.0 ≡ Equal)) ⊎ NoneEqual cmp k J
  some_equal {V} k J = by (at cmp J k) refl
    where
      by : (a : Option (K × V)) → at cmp J k ≡ a → ((q : K × V) × In q J × (cmp k q.0 ≡ Equal)) ⊎ NoneEqual cmp k J
      by None e = inr (none_from_at J k e)
      by (Some q) e = let h = at_in cmp J k q e in inl (q, h.0, tied_back o q.0 k h.1)

  -- each key has a pair that is last
  pub has_last : {V : Type 0} (J : List (K × V)) (p : K × V) → In p J → (q : K × V) × (cmp p.0 q.0 ≡ Equal) × StandsLast cmp q J
  has_last [] p i = absurd i
  has_last {V} (x ∷ J) p i = elim (some_equal p.0 J) [
    | inl h ↦ let r = has_last J h.0 h.1 in (r.0, sym (alike_right o h.0.0 r.0.0 p.0 r.1) ∙ h.2, inr r.2)
    | inr n ↦ elim i [
      | inl e ↦ (x, subst (λ (q : K × V). cmp p.0 q.0 ≡ Equal) (sym e) (tied_itself o p.0), inl (refl, subst (λ (q : K × V). NoneEqual cmp q.0 J) (sym e) n))
      | inr j ↦ absurd (each (λ (q : K × V). cmp p.0 q.0 ≢ Equal) J n p j (tied_itself o p.0))
    ]
  ]

  -- the same with the last of what is added
  pub Last-join_right : {V : Type 0} (J₁ J₂ D M : List (K × V)) → Last cmp J₂ D → Last cmp (J₁ ++ D) M → Last cmp (J₁ ++ J₂) M
  Last-join_right {V} J₁ J₂ D M a b = Last-same (J₁ ++ D) (J₁ ++ J₂) M (λ p. (
    stands_after cmp p J₁ D J₂ (none p.0) (λ h. (a.exactly p).0 (In-from_last cmp p D h)),
    stands_after cmp p J₁ J₂ D (none_back p.0) (λ h. last_in_rising cmp p D a.rising ((a.exactly p).1 h)),
  )) b
    where
      none : (k : K) → NoneEqual cmp k D → NoneEqual cmp k J₂
      none k n = from_each (λ (q : K × V). cmp k q.0 ≢ Equal) J₂
          (λ x i e. let r = has_last J₂ x i in each (λ (q : K × V). cmp k q.0 ≢ Equal) D n r.0 ((a.exactly r.0).1 r.2)
          (sym (alike_right o x.0 r.0.0 k r.1) ∙ e))

      none_back : (k : K) → NoneEqual cmp k J₂ → NoneEqual cmp k D
      none_back k n = from_each (λ (q : K × V). cmp k q.0 ≢ Equal) D
          (λ x i. each (λ (q : K × V). cmp k q.0 ≢ Equal) J₂ n x (In-from_last cmp x J₂ ((a.exactly x).0 i)))
