-- Where each pair of a list comes from after a change of it: so what holds of all pairs (`All P L`) holds of all again. For the
-- proofs of callers, who name one of these in an attribute.
--     every_pair      after a put, a cut and a write, and of a part, as of a range; and of the pair that a lookup finds
--     All-merged      of the values after a merge: cited by name, since the lists that are merged stand in no goal
--     put_ends      a put in front of all keys, and past the first
use Rattle.litemap_store.proofs.Names.{[], ℕ, ◌++◌, ◌<◌, ◌∙◌, ◌∷◌, ◌≡◌, ◌≢◌, ◌⊎◌, above, All, All-from_recursion, ap, arith, at, below, BelowAll, Bool, cut}
use Rattle.litemap_store.proofs.Names.{Equal, filter, get_or, Greater, In, inl, inr, is_gt, is_lt, IsTotalOrder, key_or, length, Less, List, Merge, None}
use Rattle.litemap_store.proofs.Names.{Option, option_map_or, Ordering, put, recursion_from_All, refl, Some, suc, sym, write}
use Rattle.litemap_store.proofs.Last.KeepLast.{filter_all, filter_none}
use Rattle.litemap_store.proofs.Lists.Membership.{In-cases, In-from_filter, In-get_or, each, from_each}
use Rattle.litemap_store.proofs.Search.Splitting.{at_in, at_none, less_back}

-- x stands in the list; d is what an index past its end finds
abbrev Stands : {X : Type 0} → List X → X → X → Type 0
Stands L d x = (j : ℕ) × (j < length L) × (get_or L j d ≡ x)

module _ {X : Type 0} where
  stands : (L : List X) (d x : X) → In x L → Stands L d x
  stands [] d x i = absurd i
  stands (y ∷ L) d x (inl e) = (0, omega arith, e)
  stands (y ∷ L) d x (inr i) = let h = stands L d x i in (suc h.0, omega (arith, h.1), h.2)

  pub get_or-filter : (test : X → Bool) (L : List X) (i : ℕ) (d : X) → i < length (filter test L)
      → (get_or (filter test L) i d ≡ get_or (filter test L) i d) × Stands L d (get_or (filter test L) i d)
  get_or-filter test L i d l = (refl, stands L d _ (In-from_filter test L _ (In-get_or (filter test L) i d l)).0)

module _ {K V : Type 0} where
  in_parts : (L : List (K × V)) (x : K × V) (left right : K × V → Bool) → In x (filter left L ++ filter right L) → In x L
  in_parts L x left right i =
      elim (In-cases (filter left L) (filter right L) x i) [ inl a ↦ (In-from_filter left L x a).0 | inr b ↦ (In-from_filter right L x b).0 ]

  in_between : (L : List (K × V)) (x y : K × V) (left right : K × V → Bool) → In x (filter left L ++ y ∷ filter right L) → (y ≡ x) ⊎ In x L
  in_between L x y left right i = elim (In-cases (filter left L) (y ∷ filter right L) x i) [
    | inl a ↦ inr (In-from_filter left L x a).0
    | inr (inl e) ↦ inl e
    | inr (inr b) ↦ inr (In-from_filter right L x b).0
  ]

  pub get_or-put : (cmp : K → K → Ordering) (L : List (K × V)) (k : K) (v : V) (i : ℕ) (d : K × V) → i < length (put cmp L k v)
      → (get_or (put cmp L k v) i d ≡ get_or (put cmp L k v) i d)
      × ((get_or (put cmp L k v) i d ≡ (key_or (at cmp L k) k, v)) ⊎ Stands L d (get_or (put cmp L k v) i d))
  get_or-put cmp L k v i d l = (refl, elim (in_between L _ _ _ _ (In-get_or (put cmp L k v) i d l)) [ inl e ↦ inl (sym e) | inr h ↦ inr (stands L d _ h) ])

module _ {K Q V : Type 0} (order : K → Q → Ordering) (L : List (K × V)) (q : Q) where
  pub get_or-cut : (i : ℕ) (d : K × V) → i < length (cut order L q)
      → (get_or (cut order L q) i d ≡ get_or (cut order L q) i d) × Stands L d (get_or (cut order L q) i d)
  get_or-cut i d l = (refl, stands L d _ (in_parts L _ _ _ (In-get_or (cut order L q) i d l)))

  pub at_stands : (p : K × V) → at order L q ≡ Some p → (at order L q ≡ Some p) × Stands L p p
  at_stands p e = (e, stands L p p (at_in order L q p e).0)

  pub get_or-write : (v : V) (i : ℕ) (d : K × V) → i < length (write order L q v)
      → (get_or (write order L q v) i d ≡ get_or (write order L q v) i d)
      × (((p : K × V) × (at order L q ≡ Some p) × (get_or (write order L q v) i d ≡ (p.0, v))) ⊎ Stands L d (get_or (write order L q v) i d))
  get_or-write v i d l = (refl, by (at order L q) refl (In-get_or (write order L q v) i d l))
    where
      by : (o : Option (K × V)) → at order L q ≡ o
          → In (get_or (write order L q v) i d) (option_map_or (λ p. below order L q ++ (p.0, v) ∷ above order L q) o L)
          → ((p : K × V) × (at order L q ≡ Some p) × (get_or (write order L q v) i d ≡ (p.0, v))) ⊎ Stands L d (get_or (write order L q v) i d)
      by None e n = inr (stands L d _ n)
      by (Some p) e n = elim (in_between L _ _ _ _ n) [ inl f ↦ inl (p, e, sym f) | inr h ↦ inr (stands L d _ h) ]

module _ {K V : Type 0} {cmp : K → K → Ordering} where
  pub All-merged : (P : V → Type 0) (A B M : List (K × V)) → Merge cmp A B M → All (λ p. P p.1) A → All (λ p. P p.1) B → All (λ p. P p.1) M
  All-merged P A B M merge a b = All-from_recursion (λ (p : K × V). P p.1) M (from_each (λ (p : K × V). P p.1) M (λ p i. elim ((merge.exactly p).0 i) [
    | inl h ↦ of A a p h.0
    | inr (inl h) ↦ of B b p h.0
    | inr (inr h) ↦ of B b (h.1.0, p.1) h.1.2
  ]))
    where
      of : (L : List (K × V)) → All (λ p. P p.1) L → (p : K × V) → In p L → P p.1
      of L h p i = each (λ (p : K × V). P p.1) L (recursion_from_All (λ (p : K × V). P p.1) L h) p i

  -- a put in front of all keys
  pub put-below_all : IsTotalOrder cmp → (L : List (K × V)) (k : K) (v : V) → BelowAll cmp k L → put cmp L k v ≡ (k, v) ∷ L
  put-below_all o L k v b =
      let greater : (x : K × V) → In x L → cmp x.0 k ≡ Greater = λ x i. less_back o k x.0 (each (λ (q : K × V). cmp k q.0 ≡ Less) L b x i) in
      let low : below cmp L k ≡ [] = filter_none _ L (λ x i. ap is_lt (greater x i)) in
      let high : above cmp L k ≡ L = filter_all _ L (λ x i. ap is_gt (greater x i)) in
      let none : at cmp L k ≡ None =
      at_none cmp L k (from_each (λ (q : K × V). cmp q.0 k ≢ Equal) L (λ x i e. let f : Greater ≡ Equal = sym (greater x i) ∙ e in absurd (cc))) in
      rw (low, none, high) refl

-- and past the first
pub put-past : {K V : Type 0} (cmp : K → K → Ordering) (p : K × V) (L : List (K × V)) (k : K) (v : V) → cmp p.0 k ≡ Less
    → put cmp (p ∷ L) k v ≡ p ∷ put cmp L k v
put-past cmp p L k v less = rw less refl

pub ruleset every_pair = (get_or-put, get_or-cut, get_or-write, get_or-filter, at_stands)

pub ruleset put_ends = (put-below_all, put-past)
