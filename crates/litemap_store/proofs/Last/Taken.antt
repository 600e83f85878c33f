-- The last pairs of two ascending lists, by their first pairs, and lists without their last element.
--     last_by_firsts      which pair comes first;  the others      lists that end in an element
use Rattle.litemap_store.proofs.Names.{[], ℕ, ◌++◌, ◌∙◌, ◌∷◌, ◌≡◌, ◌≢◌, ap, arith, BelowAll, Equal, In, inl, inr, IsTotalOrder, Last, refl}
use Rattle.litemap_store.proofs.Names.{length, Less, List, NoneEqual, Ordering, remove, reverse, reverse-append, Rising, slice_get, Some, subst, suc, sym, zero}
use Rattle.litemap_store.proofs.Lists.Membership.{In-left, In-right, each, from_each}
use Rattle.litemap_store.proofs.Last.Pairs.{In-from_last, Last-rising, Last-same}
use Rattle.litemap_store.proofs.Last.Sifting.{passed}
use Rattle.litemap_store.proofs.Merging.Walking.{ByFirsts}
use Rattle.litemap_store.proofs.Search.Splitting.{each-append, each-weaker}

pub Rising-left : {K V : Type 0} (cmp : K → K → Ordering) (A B : List (K × V)) → Rising cmp (A ++ B) → Rising cmp A
Rising-left cmp [] B r = tt
Rising-left {K} {V} cmp (a ∷ A) B r = (
  from_each (λ (q : K × V). cmp a.0 q.0 ≡ Less) A (λ x i. each (λ (q : K × V). cmp a.0 q.0 ≡ Less) (A ++ B) r.0 x (In-left A B x i)),
  Rising-left cmp A B r.1,
)

module _ {K V : Type 0} (cmp : K → K → Ordering) (o : IsTotalOrder cmp) where
  none_under : (k : K) (L : List (K × V)) → BelowAll cmp k L → NoneEqual cmp k L
  none_under k L h = each-weaker {P = λ (x : K × V). cmp k x.0 ≡ Less} {Q = λ (x : K × V). cmp k x.0 ≢ Equal} (λ x l e. cc) L h

  -- a pair below all of a list goes before its last pairs
  Last-first : (p : K × V) (J M : List (K × V)) → BelowAll cmp p.0 J → Last cmp J M → Last cmp (p ∷ J) (p ∷ M)
  Last-first p J M h last = record {
    rising = (
      from_each (λ (q : K × V). cmp p.0 q.0 ≡ Less) M
          (λ x i. each (λ (q : K × V). cmp p.0 q.0 ≡ Less) J h x (In-from_last cmp x J ((last.exactly x).0 i))),
      last.rising,
    );
    exactly = λ x. (
      λ i. elim i [
        | inl e ↦ inl (e, subst (λ (q : K × V). NoneEqual cmp q.0 J) e (none_under p.0 J h))
        | inr j ↦ inr ((last.exactly x).0 j)
      ],
      λ i. elim i [ inl j ↦ inl j.0 | inr j ↦ inr ((last.exactly x).1 j) ],
    );
  }

  -- so does one of the second list that is below all of the first
  Last-second : (p : K × V) (A B M : List (K × V)) → BelowAll cmp p.0 A → BelowAll cmp p.0 B → Last cmp (A ++ B) M → Last cmp (A ++ p ∷ B) (p ∷ M)
  Last-second p A B M low up last =
      Last-same cmp o (p ∷ (A ++ B)) (A ++ p ∷ B) (p ∷ M) (passed o p A B (none_under p.0 A low)).last
      (Last-first p (A ++ B) M (each-append (λ (q : K × V). cmp p.0 q.0 ≡ Less) A B low up) last)

  -- a pair with a later one of an equal key is not among them
  Last-covered : (q p : K × V) (J M : List (K × V)) → In p J → cmp q.0 p.0 ≡ Equal → Last cmp J M → Last cmp (q ∷ J) M
  Last-covered q p J M there same last = Last-same cmp o J (q ∷ J) M (λ x. (
    λ h. inr h,
    λ h. elim h [
      | inl k ↦ absurd (each (λ (z : K × V). cmp x.0 z.0 ≢ Equal) J k.1 p there (subst (λ (z : K × V). cmp z.0 p.0 ≡ Equal) k.0 same))
      | inr k ↦ k
    ],
  )) last

  pub last_by_firsts : ByFirsts {V = V} cmp o (λ a b. b) (λ a b. []) (λ A B M D. Last cmp (A ++ B) M)
  last_by_firsts = record {
    none = Last-rising cmp [] tt;
    old = λ p A B M D r low last. Last-first p (A ++ B) M (each-append (λ (q : K × V). cmp p.0 q.0 ≡ Less) A B r.0 low) last;
    new = λ p A B M D low s last. Last-second p A B M low s.0 last;
    both = λ q p A B M D r s same last.
        let low : BelowAll cmp p.0 A = each-weaker (λ (x : K × V) l. sym (o.congr q.0 p.0 x.0 same) ∙ l) A r.0 in
        Last-covered q p (A ++ p ∷ B) (p ∷ M) (In-right A (p ∷ B) p (inl refl)) same (Last-second p A B M low s.0 last);
  }

-- a list without its last element
pub taken_last : {X : Type 0} (L : List X) (i : ℕ) (x : X) → suc i ≡ length L → slice_get L i ≡ Some x → L ≡ remove L i ++ x ∷ []
taken_last [] i x h e = absurd (omega arith)
taken_last (y ∷ []) zero x h e = let s : y ≡ x = cc in ap (λ z. z ∷ []) s
taken_last (y ∷ (z ∷ L)) zero x h e = absurd (omega arith)
taken_last (y ∷ L) (suc i) x h e = ap (λ M. y ∷ M) (taken_last L i x (omega arith) e)

pub reverse_push : {X : Type 0} (L N : List X) (x : X) → N ≡ L ++ x ∷ [] → reverse N ≡ x ∷ reverse L
reverse_push L N x e = ap reverse e ∙ reverse-append L (x ∷ [])
