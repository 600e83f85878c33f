-- The words of a map in those of std's maps, by which std's lemmas on the entries of a map are lemmas on these pairs.
--     value_at-lookup, at-lookup_entry      what a query finds;  value_at-get      the same of a key, as `get` of a `BTreeMap` has it
--     sorted_from_Rising, Rising-from_sorted      ascending keys;  Contains-from_In, In-from_Contains      membership
--     put-insert_entry, cut-remove_entry, write-set_value      what a change leaves of ascending pairs
use Rattle.litemap.proofs.Common.{[], ◌++◌, ◌∙◌, ◌∷◌, ◌≡◌, Bool, Equal, Greater, IsTotalOrder, Less, List, None, Option}
use Rattle.litemap.proofs.Common.{Ordering, Rising, BelowAll, Some, above, AllByRecursion, ap, arith, at, below, cond, cut}
use Rattle.litemap.proofs.Common.{false, inl, inr, is_eq, is_gt, is_lt, keys_of, option_map, option_map_or, put, refl, subst}
use Rattle.litemap.proofs.Common.{suc, sym, true, value_at, write}
use Rattle.std.specs.BTreeMap.{insert_entry, is_at}
use Rattle.std.specs.List.{Contains, cons_option}
use Rattle.std.specs.List.Sorted.{IsStrictlySortedBy}
use Rattle.std.specs.Map.{lookup, lookup_entry, remove_entry, set_value}
use Rattle.std.specs.Ordering.{ordering_reverse}
use Rattle.std.proofs.lemmas.Cmp.{tied_back}
use Rattle.litemap_store.proofs.Callers.Every.{put-below_all, put-past}
use Rattle.litemap_store.proofs.Last.KeepLast.{filter_all, filter_none}
use Rattle.litemap_store.proofs.Lists.Membership.{In-from_filter, In-get_or, each, from_each}
use Rattle.litemap_store.proofs.Search.Splitting.{at_in, each-weaker, greater_back, less_back, parted}
use Rattle.litemap_store.specs.Last.{In}
use Rattle.litemap_store.specs.Queries.{OneSide}

-- ---- what is found
abbrev test : {K Q : Type 0} → (K → Q → Ordering) → Q → K → Bool
test order q k = is_eq (order k q)

module _ {K Q V : Type 0} (order : K → Q → Ordering) (q : Q) where
  pub at-lookup_entry : (L : List (K × V)) → at order L q ≡ lookup_entry (test order q) L
  at-lookup_entry [] = refl
  at-lookup_entry (p ∷ L) = ap (λ r. cond (test order q p.0) (Some p) r) (at-lookup_entry L)

  pub value_at-lookup : (L : List (K × V)) → value_at order L q ≡ lookup (test order q) L
  value_at-lookup [] = refl
  value_at-lookup (p ∷ L) =
      elim (test order q p.0) as (λ b. option_map (λ x. x.1) (cond b (Some p) (at order L q)) ≡ cond b (Some p.1) (lookup (test order q) L))
      [ true ↦ refl | false ↦ value_at-lookup L ]

-- by a comparison the other way round, as std's maps look up
module _ {K Q V : Type 0} (order : K → Q → Ordering) (q : Q) (compare : K → Ordering) (turned : (k : K) → order k q ≡ ordering_reverse (compare k)) where
  pub value_at-turned : (L : List (K × V)) → value_at order L q ≡ lookup (is_at compare) L
  value_at-turned [] = refl
  value_at-turned (p ∷ L) =
      rw (turned p.0) (elim (compare p.0) as
      (λ r. option_map (λ x. x.1) (cond (is_eq (ordering_reverse r)) (Some p) (at order L q)) ≡ cond (is_eq r) (Some p.1) (lookup (is_at compare) L)) [
        | Less ↦ value_at-turned L
        | Equal ↦ refl
        | Greater ↦ value_at-turned L
      ])

-- at a key, in a total order: `get` of std's `BTreeMap`
pub value_at-get : {K V : Type 0} {cmp : K → K → Ordering} → IsTotalOrder cmp → (k : K) (L : List (K × V)) → value_at cmp L k ≡ lookup (is_at (cmp k)) L
value_at-get {cmp = cmp} o k L = value_at-turned cmp k (cmp k) (λ x. o.antisymm x k) L

-- ---- ascending keys
module _ {K V : Type 0} (cmp : K → K → Ordering) where
  below_keys : (k : K) (L : List (K × V)) → BelowAll cmp k L → AllByRecursion (λ y. cmp k y ≡ Less) (keys_of L)
  below_keys k [] h = h
  below_keys k (p ∷ L) h = (h.0, below_keys k L h.1)

  below_pairs : (k : K) (L : List (K × V)) → AllByRecursion (λ y. cmp k y ≡ Less) (keys_of L) → BelowAll cmp k L
  below_pairs k [] h = h
  below_pairs k (p ∷ L) h = (h.0, below_pairs k L h.1)

  pub sorted_from_Rising : (L : List (K × V)) → Rising cmp L → IsStrictlySortedBy cmp (keys_of L)
  unfolding IsStrictlySortedBy
  sorted_from_Rising [] r = r
  sorted_from_Rising (p ∷ L) r = (below_keys p.0 L r.0, sorted_from_Rising L r.1)

  pub Rising-from_sorted : (L : List (K × V)) → IsStrictlySortedBy cmp (keys_of L) → Rising cmp L
  unfolding IsStrictlySortedBy
  Rising-from_sorted [] r = r
  Rising-from_sorted (p ∷ L) r = (below_pairs p.0 L r.0, Rising-from_sorted L r.1)

-- ---- membership
module _ {X : Type 0} where
  pub Contains-from_In : (L : List X) (x : X) → In x L → Contains L x
  Contains-from_In [] x i = absurd i
  Contains-from_In (y ∷ L) x (inl e) = (0, omega arith, e)
  Contains-from_In (y ∷ L) x (inr i) = let h = Contains-from_In L x i in (suc h.0, omega (arith, h.1), h.2)

  pub In-from_Contains : (L : List X) (x : X) → Contains L x → In x L
  In-from_Contains L x h = subst (λ y. In y L) h.2 (In-get_or L h.0 x h.1)

-- ---- a change of ascending pairs
module _ {K V : Type 0} (test : K → Bool) where
  remove_entry-past : (A B : List (K × V)) → AllByRecursion (λ p. test p.0 ≡ false) A → remove_entry test (A ++ B) ≡ A ++ remove_entry test B
  remove_entry-past [] B h = refl
  remove_entry-past (p ∷ A) B h = rw h.0 (ap (λ M. p ∷ M) (remove_entry-past A B h.1))

  set_value-past : (A B : List (K × V)) (v : V) → AllByRecursion (λ p. test p.0 ≡ false) A → set_value test (A ++ B) v ≡ A ++ set_value test B v
  set_value-past [] B v h = refl
  set_value-past (p ∷ A) B v h = rw h.0 (ap (λ M. p ∷ M) (set_value-past A B v h.1))

  remove_entry-none : (B : List (K × V)) → AllByRecursion (λ p. test p.0 ≡ false) B → remove_entry test B ≡ B
  remove_entry-none [] h = refl
  remove_entry-none (p ∷ B) h = rw h.0 (ap (λ M. p ∷ M) (remove_entry-none B h.1))

  set_value-none : (B : List (K × V)) (v : V) → AllByRecursion (λ p. test p.0 ≡ false) B → set_value test B v ≡ B
  set_value-none [] v h = refl
  set_value-none (p ∷ B) v h = rw h.0 (ap (λ M. p ∷ M) (set_value-none B v h.1))

not_equal_below : (r : Ordering) → is_lt r ≡ true → is_eq r ≡ false
not_equal_below r = elim r as (λ r. is_lt r ≡ true → is_eq r ≡ false) [ Less ↦ λ h. refl | Equal ↦ λ h. absurd cc | Greater ↦ λ h. refl ]

not_equal_above : (r : Ordering) → is_gt r ≡ true → is_eq r ≡ false
not_equal_above r = elim r as (λ r. is_gt r ≡ true → is_eq r ≡ false) [ Less ↦ λ h. refl | Equal ↦ λ h. absurd cc | Greater ↦ λ h. refl ]

module _ {K Q V : Type 0} {cmp : K → K → Ordering} {order : K → Q → Ordering} (one : OneSide cmp order) (L : List (K × V)) (q : Q) (r : Rising cmp L) where
  none_below : AllByRecursion (λ p. is_eq (order p.0 q) ≡ false) (below order L q)
  none_below = from_each _ (below order L q) (λ p i. not_equal_below (order p.0 q) (In-from_filter (λ (p : K × V). is_lt (order p.0 q)) L p i).1)

  none_above : AllByRecursion (λ p. is_eq (order p.0 q) ≡ false) (above order L q)
  none_above = from_each _ (above order L q) (λ p i. not_equal_above (order p.0 q) (In-from_filter (λ (p : K × V). is_gt (order p.0 q)) L p i).1)

  removed : (a : Option (K × V)) → at order L q ≡ a → remove_entry (test order q) (cons_option a (above order L q)) ≡ above order L q
  removed None e = remove_entry-none (test order q) (above order L q) none_above
  removed (Some p) e = rw (at_in order L q p e).1 refl

  pub cut-remove_entry : cut order L q ≡ remove_entry (test order q) L
  cut-remove_entry =
      ap (λ M. below order L q ++ M) (sym (removed (at order L q) refl))
      ∙ sym (remove_entry-past (test order q) (below order L q) _ none_below)
      ∙ ap (remove_entry (test order q)) (sym (parted one L q r))

  written : (v : V) (a : Option (K × V)) → at order L q ≡ a → set_value (test order q) (below order L q ++ cons_option a (above order L q)) v
      ≡ option_map_or (λ p. below order L q ++ (p.0, v) ∷ above order L q) a (below order L q ++ cons_option a (above order L q))
  written v None e =
      set_value-past (test order q) (below order L q) _ v none_below
      ∙ ap (λ M. below order L q ++ M) (set_value-none (test order q) (above order L q) v none_above)
  written v (Some p) e = set_value-past (test order q) (below order L q) _ v none_below ∙ ap (λ M. below order L q ++ M) (rw (at_in order L q p e).1 refl)

  pub write-set_value : (v : V) → write order L q v ≡ set_value (test order q) L v
  write-set_value v = let h = written v (at order L q) refl in rw (← parted one L q r) at (sym h)

pub put-insert_entry : {K V : Type 0} {cmp : K → K → Ordering} → IsTotalOrder cmp → (L : List (K × V)) (k : K) (v : V) → Rising cmp L
    → put cmp L k v ≡ insert_entry cmp L k v
put-insert_entry o [] k v r = refl
put-insert_entry {K} {V} {cmp} o (p ∷ L) k v r = by (put-insert_entry o L k v r.1) (cmp k p.0) refl
  where
    by : put cmp L k v ≡ insert_entry cmp L k v → (c : Ordering) → cmp k p.0 ≡ c → put cmp (p ∷ L) k v ≡ insert_entry cmp (p ∷ L) k v
    by rest Less e = rw e (put-below_all o (p ∷ L) k v (e, each-weaker (λ (x : K × V) h. o.trans k p.0 x.0 e h) L r.0))
    by rest Equal e =
        let later : BelowAll cmp k L = each-weaker (λ (x : K × V) h. o.congr k p.0 x.0 e ∙ h) L r.0 in
        let greater : (x : K × V) → In x L → cmp x.0 k ≡ Greater = λ x i. less_back o k x.0 (each (λ (y : K × V). cmp k y.0 ≡ Less) L later x i) in
        let low : below cmp L k ≡ [] = filter_none _ L (λ x i. ap is_lt (greater x i)) in
        let high : above cmp L k ≡ L = filter_all _ L (λ x i. ap is_gt (greater x i)) in
        rw (e, tied_back o k p.0 e, low, high) refl
    by rest Greater e = rw e (put-past cmp p L k v (greater_back o k p.0 e) ∙ ap (λ M. p ∷ M) rest)
