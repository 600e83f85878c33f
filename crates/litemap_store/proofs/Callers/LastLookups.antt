-- What a lookup finds among the last pairs of a list: lemmas for the proofs of callers. `laws::last_is_found` has them as its
-- contract. A proof takes the order's laws as those of `Lookups` do.
--     at-Last      what it finds in the list reversed;  value_at-Last_of_more      what it finds after more pairs
--     value_at-Last_of_rising      the same if both lists ascend
--     at-last, value_at-last, value_at-last_of_more, value_at-last_of_rising      the same of any query, as in `MergeLookups`
use Rattle.litemap_store.proofs.Names.{[], ◌++◌, ◌∙◌, ◌∷◌, ◌≡◌, ◌≢◌, ◌⊎◌, AllByRecursion, ap, at, Equal, find-append, Greater, In, inl, inr, is_eq}
use Rattle.litemap_store.proofs.Names.{IsTotalOrder, Last, Less, List, None, Option, option_map, option_or, Ordering, refl, reverse, reverse-append, Rising}
use Rattle.litemap_store.proofs.Names.{Some, StandsLast, sym, value_at}
use Rattle.litemap_store.proofs.Last.Pairs.{In-from_last, Last-rising}
use Rattle.litemap_store.proofs.Lists.Membership.{each, from_each}
use Rattle.litemap_store.proofs.Callers.MergeLookups.{at-rising, key_alike, key_same, none_like}
use Rattle.litemap_store.proofs.Search.Splitting.{at_none}

map-option_or : {X Y : Type 0} (f : X → Y) (a b : Option X) → option_map f (option_or a b) ≡ option_or (option_map f a) (option_map f b)
map-option_or f None b = refl
map-option_or f (Some x) b = refl

module _ {K Q V : Type 0} (cmp : K → K → Ordering) (o : IsTotalOrder cmp) (order : K → Q → Ordering) (q : Q)
    (same : (x y : K) → order x q ≡ Equal → order y q ≡ Equal → cmp x y ≡ Equal)
    (alike : (x y : K) → cmp x y ≡ Equal → order x q ≡ Equal → order y q ≡ Equal) where
  -- the list reversed
  after : (x : K × V) (J : List (K × V)) → at order (reverse (x ∷ J)) q ≡ option_or (at order (reverse J) q) (at order (x ∷ []) q)
  after x J = ap (λ L. at order L q) (reverse-append (x ∷ []) J) ∙ find-append (λ p. is_eq (order p.0 q)) (reverse J) (x ∷ [])

  -- the last pair that is found, if there is one
  abbrev Backwards : List (K × V) → Type 0
  Backwards J = ((p : K × V) × StandsLast cmp p J × (order p.0 q ≡ Equal) × (at order (reverse J) q ≡ Some p))
      ⊎ (AllByRecursion (λ p. order p.0 q ≢ Equal) J × (at order (reverse J) q ≡ None))

  last_backwards : (J : List (K × V)) → Backwards J
  last_backwards [] = inr (tt, refl)
  last_backwards (x ∷ J) = elim (last_backwards J) [
    | inl h ↦ inl (h.0, inr h.1, h.2, after x J ∙ ap (λ r. option_or r (at order (x ∷ []) q)) h.3)
    | inr h ↦ by (order x.0 q) refl h.0 (after x J ∙ ap (λ r. option_or r (at order (x ∷ []) q)) h.1)
  ]
    where
      by : (r : Ordering) → order x.0 q ≡ r → AllByRecursion (λ p. order p.0 q ≢ Equal) J → at order (reverse (x ∷ J)) q ≡ at order (x ∷ []) q
          → Backwards (x ∷ J)
      by Less e n f = let g : at order (x ∷ []) q ≡ None = rw e refl in inr (((λ h. cc), n), f ∙ g)
      by Equal e n f = let g : at order (x ∷ []) q ≡ Some x = rw e refl in inl (x, inl (refl, none_like cmp o order q same alike x.0 J e n), e, f ∙ g)
      by Greater e n f = let g : at order (x ∷ []) q ≡ None = rw e refl in inr (((λ h. cc), n), f ∙ g)

  -- a lookup finds among the last pairs what it finds in the list reversed
  pub at-last : (J M : List (K × V)) → Last cmp J M → at order M q ≡ at order (reverse J) q
  at-last J M last = elim (last_backwards J) [
    | inl h ↦ at-rising cmp o order q same alike M h.0 last.rising ((last.exactly h.0).1 h.1) h.2 ∙ sym h.3
    | inr h ↦ at_none order M q
        (from_each (λ (p : K × V). order p.0 q ≢ Equal) M
        (λ p i. each (λ (y : K × V). order y.0 q ≢ Equal) J h.0 p (In-from_last cmp p J ((last.exactly p).0 i)))) ∙ sym h.1
  ]

  pub value_at-last : (J M : List (K × V)) → Last cmp J M → value_at order M q ≡ value_at order (reverse J) q
  value_at-last J M last = ap (option_map (λ p. p.1)) (at-last J M last)

  -- after more pairs it finds the last new one, or what it found before
  pub value_at-last_of_more : (L J M : List (K × V)) → Last cmp (L ++ J) M → Rising cmp L
      → value_at order M q ≡ option_or (value_at order (reverse J) q) (value_at order L q)
  value_at-last_of_more L J M last r =
      let found : at order M q ≡ option_or (at order (reverse J) q) (at order L q) =
      at-last (L ++ J) M last
      ∙ ap (λ N. at order N q) (reverse-append L J)
      ∙ find-append (λ p. is_eq (order p.0 q)) (reverse J) (reverse L)
      ∙ ap (option_or (at order (reverse J) q)) (sym (at-last L L (Last-rising cmp L r))) in
      ap (option_map (λ p. p.1)) found ∙ map-option_or (λ p. p.1) (at order (reverse J) q) (at order L q)

  -- if both ascend, it finds the new one, or what it found before
  pub value_at-last_of_rising : (L J M : List (K × V)) → Last cmp (L ++ J) M → Rising cmp L → Rising cmp J
      → value_at order M q ≡ option_or (value_at order J q) (value_at order L q)
  value_at-last_of_rising L J M last r s =
      value_at-last_of_more L J M last r
      ∙ ap (λ a. option_or (option_map (λ p. p.1) a) (value_at order L q)) (sym (at-last J J (Last-rising cmp J s)))

-- ---- the same of a key
module _ {K V : Type 0} {cmp : K → K → Ordering} (o : IsTotalOrder cmp) where
  -- the pair of an ascending list with an equal key is found
  pub at-Rising : (M : List (K × V)) (k : K) (q : K × V) → Rising cmp M → In q M → cmp q.0 k ≡ Equal → at cmp M k ≡ Some q
  at-Rising M k = at-rising cmp o cmp k (key_same o k) (key_alike o k) M

  pub at-Last : (J M : List (K × V)) → Last cmp J M → (k : K) → at cmp M k ≡ at cmp (reverse J) k
  at-Last J M last k = at-last cmp o cmp k (key_same o k) (key_alike o k) J M last

  pub value_at-Last_of_more : (L J M : List (K × V)) → Rising cmp L → Last cmp (L ++ J) M → (k : K)
      → value_at cmp M k ≡ option_or (value_at cmp (reverse J) k) (value_at cmp L k)
  value_at-Last_of_more L J M r last k = value_at-last_of_more cmp o cmp k (key_same o k) (key_alike o k) L J M last r

  pub value_at-Last_of_rising : (L J M : List (K × V)) → Rising cmp L → Rising cmp J → Last cmp (L ++ J) M → (k : K)
      → value_at cmp M k ≡ option_or (value_at cmp J k) (value_at cmp L k)
  value_at-Last_of_rising L J M r s last k = value_at-last_of_rising cmp o cmp k (key_same o k) (key_alike o k) L J M last r s
