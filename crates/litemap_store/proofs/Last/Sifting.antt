-- A list that is read by appending pairs that ascend and deferring the others.
--     Last-sifted      its last pairs are those of the appended ones, extended by the deferred ones
use Rattle.litemap_store.proofs.Names.{[], ◌++◌, ◌↔◌, ◌∙◌, ◌∷◌, ◌≡◌, ◌≢◌, alike_right, AllBelow, AllByRecursion, append-nil}
use Rattle.litemap_store.proofs.Names.{append_assoc, Equal, In, inl, inr, IsTotalOrder, Last, Less, List, NoneEqual, Ordering}
use Rattle.litemap_store.proofs.Names.{Sifted, StandsLast, subst, sym, tied_back}
use Rattle.litemap_store.proofs.Last.Pairs.{In-from_last, Last-same, StandsLast-cases, StandsLast-left, StandsLast-right, stands_before, stands_after}
use Rattle.litemap_store.proofs.Lists.Membership.{In-cases, In-left, In-right, each, from_each}
use Rattle.litemap_store.proofs.Search.Splitting.{each-append}

module _ {K V : Type 0} {cmp : K → K → Ordering} (o : IsTotalOrder cmp) where
  -- the two lists have the same elements, and the same pairs are last
  pub record Alike (P Q : List (K × V)) : Type 0 where
    pub elements : (x : K × V) → In x P ↔ In x Q
    pub last : (x : K × V) → StandsLast cmp x P ↔ StandsLast cmp x Q

  none_in : (k : K) (P Q : List (K × V)) → ((x : K × V) → In x Q → In x P) → NoneEqual cmp k P → NoneEqual cmp k Q
  none_in k P Q f n = from_each (λ (q : K × V). cmp k q.0 ≢ Equal) Q (λ x i. each (λ (q : K × V). cmp k q.0 ≢ Equal) P n x (f x i))

  -- so they do after any list
  pub last_after : (A P Q : List (K × V)) → Alike P Q → (x : K × V) → StandsLast cmp x (A ++ P) ↔ StandsLast cmp x (A ++ Q)
  last_after A P Q s x = (
    stands_after cmp x A P Q (none_in x.0 P Q (λ y. (s.elements y).1)) (s.last x).0,
    stands_after cmp x A Q P (none_in x.0 Q P (λ y. (s.elements y).0)) (s.last x).1,
  )

  -- a pair may pass pairs of other keys
  module _ (p : K × V) (B Y : List (K × V)) (none : NoneEqual cmp p.0 B) where
    pub passed : Alike (p ∷ (B ++ Y)) (B ++ p ∷ Y)
    passed = record {
      elements = λ x. (
        λ i. elim i [
          | inl e ↦ In-right B (p ∷ Y) x (inl e)
          | inr j ↦ elim (In-cases B Y x j) [ inl k ↦ In-left B (p ∷ Y) x k | inr k ↦ In-right B (p ∷ Y) x (inr k) ]
        ],
        λ i. elim (In-cases B (p ∷ Y) x i) [
          | inl j ↦ inr (In-left B Y x j)
          | inr (inl e) ↦ inl e
          | inr (inr j) ↦ inr (In-right B Y x j)
        ],
      );
      last = λ x. (
        λ h. rw (append_assoc B (p ∷ []) Y) at (stands_before cmp x (p ∷ B) (B ++ p ∷ []) Y (λ i. elim i [
          | inl j ↦ StandsLast-right cmp x B (p ∷ []) (inl (j.0, tt))
          | inr j ↦ StandsLast-left cmp x B (p ∷ []) j
              ((λ e. each (λ (q : K × V). cmp p.0 q.0 ≢ Equal) B none x (In-from_last cmp x B j) (tied_back o x.0 p.0 e)), tt)
        ]) h),
        λ h. stands_before cmp x (B ++ p ∷ []) (p ∷ B) Y (λ i. elim (StandsLast-cases cmp x B (p ∷ []) i) [
          | inl j ↦ inr j.0
          | inr (inl j) ↦ inl (j.0, subst (λ (z : K × V). NoneEqual cmp z.0 B) j.0 none)
          | inr (inr j) ↦ absurd j
        ]) (rw (append_assoc B (p ∷ []) Y) h),
      );
    }

  -- no key of B is above all of A
  abbrev Aside : List (K × V) → List (K × V) → Type 0
  Aside A B = AllByRecursion (λ b. ¬ (AllBelow cmp A b.0)) B

  below_like : (A : List (K × V)) (j k : K) → cmp j k ≡ Equal → AllBelow cmp A j → AllBelow cmp A k
  below_like A j k e b = from_each (λ (q : K × V). cmp q.0 k ≡ Less) A (λ x i. sym (alike_right o j k x.0 e) ∙ each (λ (q : K × V). cmp q.0 j ≡ Less) A b x i)

  front : (A : List (K × V)) (p : K × V) (k : K) → AllBelow cmp (A ++ p ∷ []) k → AllBelow cmp A k
  front A p k b = from_each (λ (q : K × V). cmp q.0 k ≡ Less) A (λ x i. each (λ (q : K × V). cmp q.0 k ≡ Less) (A ++ p ∷ []) b x (In-left A (p ∷ []) x i))

  sifted_same : (J A B A' B' : List (K × V)) → Sifted cmp V A B J A' B' → Aside A B → (x : K × V)
      → StandsLast cmp x (A' ++ B') ↔ StandsLast cmp x (A ++ (B ++ J))
  sifted_same [] A B A' B' s aside x = (λ h. rw (append-nil, s.0, s.1) h, λ h. rw (← s.0, ← s.1) (rw append-nil at h))
  sifted_same (p ∷ J) A B A' B' (inl s) aside x =
      let none : NoneEqual cmp p.0 B =
      from_each (λ (q : K × V). cmp p.0 q.0 ≢ Equal) B (λ b i e. each (λ (q : K × V). ¬ (AllBelow cmp A q.0)) B aside b i (below_like A p.0 b.0 e s.0)) in
      let kept : Aside (A ++ p ∷ []) B =
      from_each (λ (b : K × V). ¬ (AllBelow cmp (A ++ p ∷ []) b.0)) B
      (λ b i all. each (λ (q : K × V). ¬ (AllBelow cmp A q.0)) B aside b i (front A p b.0 all)) in
      let rest = sifted_same J (A ++ p ∷ []) B A' B' s.1 kept x in
      let over = last_after A (p ∷ (B ++ J)) (B ++ p ∷ J) (passed p B J none) x in (
        λ h. over.0 (rw append_assoc at (rest.0 h)),
        λ h. rest.1 (rw append_assoc (over.1 h)),
      )
  sifted_same (p ∷ J) A B A' B' (inr s) aside x =
      let kept : Aside A (B ++ p ∷ []) = each-append (λ (b : K × V). ¬ (AllBelow cmp A b.0)) B (p ∷ []) aside (s.0, tt) in
      let rest = sifted_same J A (B ++ p ∷ []) A' B' s.1 kept x in
      (λ h. rw append_assoc at (rest.0 h), λ h. rest.1 (rw append_assoc h))

  pub Last-sifted : (J A B M : List (K × V)) → Sifted cmp V [] [] J A B → Last cmp (A ++ B) M → Last cmp J M
  Last-sifted J A B M s last = Last-same cmp o (A ++ B) J M (λ x. sifted_same J [] [] A B s tt x) last
