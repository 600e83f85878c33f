-- What a lookup finds in a list after a put and after a cut: lemmas for the proofs of callers. A proof takes the order's laws
-- from its bound, as `g.met.K.Ord.total`, or from std, as `nat_cmp_total` and `string_cmp_total`.
--     at-put, value_at-put, value_at-put_other      after a put
--     value_at-cut, value_at-cut_other, value_at-cut_apart      after a cut, by the query, by another key, and by another query
--     value_at-write, value_at-write_apart      the same after a write;  value_at-written_apart      if a write finds the key
--     value_in-set_value_other, value_at-set_value      after a write at an index;  value_in-set, value_at-set      if a pair is there
--     length-put_present, length-put_absent, Rising-cut      what both leave of an ascending list
use Rattle.litemap_store.proofs.Names.{[], ℕ, ◌++◌, ◌+◌, ◌∙◌, ◌∷◌, ◌≡◌, ◌≢◌, above, ap, arith, at, below, Bool, cond, cons_option, cut, Equal}
use Rattle.litemap_store.proofs.Names.{false, filter, find-append, Greater, IfSome, is_eq, is_gt, is_lt, IsSome, IsTotalOrder}
use Rattle.litemap_store.proofs.Names.{key_one_side, key_or, length, length-append, Less, List, None, Option, option_map, option_map_or, option_or}
use Rattle.litemap_store.proofs.Names.{Ordering, put, refl, Rising, set_value, slice_get, slice_set, Some, suc, sym, true, value_at, value_in, write}
use Rattle.litemap_store.proofs.Names.{zero}
use Rattle.litemap_store.proofs.Last.KeepLast.{filter_all, filter_none}
use Rattle.litemap_store.proofs.Lists.Membership.{In-from_filter}
use Rattle.litemap_store.proofs.Lists.Seams.{set_value-suc}
use Rattle.litemap_store.proofs.Search.Splitting.{Rising-append, Rising-filter, at_in, kept_above, kept_below, key_or_equal, not_is_eq, parted}

-- ---- a filter of keys, and a lookup after it
module _ {K Q V : Type 0} (order : K → Q → Ordering) (q : Q) (keep : K → Bool) where
  pub at-filter_kept : ((x : K) → order x q ≡ Equal → keep x ≡ true) → (L : List (K × V)) → at order (filter (λ p. keep p.0) L) q ≡ at order L q
  at-filter_kept same [] = refl
  at-filter_kept same (p ∷ L) = (elim (keep p.0) as (λ b. keep p.0 ≡ b → at order (filter (λ p. keep p.0) (p ∷ L)) q ≡ at order (p ∷ L) q) [
    | true ↦ λ k. rw k (ap (λ r. cond (is_eq (order p.0 q)) (Some p) r) (at-filter_kept same L))
    | false ↦ λ k. rw k (rw (not_is_eq (order p.0 q) (λ e. let g : keep p.0 ≡ true = same p.0 e in cc)) (at-filter_kept same L))
  ]) refl

  pub at-filter_gone : ((x : K) → order x q ≡ Equal → keep x ≡ false) → (L : List (K × V)) → at order (filter (λ p. keep p.0) L) q ≡ None
  at-filter_gone same [] = refl
  at-filter_gone same (p ∷ L) = (elim (keep p.0) as (λ b. keep p.0 ≡ b → at order (filter (λ p. keep p.0) (p ∷ L)) q ≡ None) [
    | true ↦ λ k. rw k (rw (not_is_eq (order p.0 q) (λ e. let g : keep p.0 ≡ false = same p.0 e in cc)) (at-filter_gone same L))
    | false ↦ λ k. rw k (at-filter_gone same L)
  ]) refl

-- ---- the query itself
module _ {K Q V : Type 0} (order : K → Q → Ordering) (q : Q) where
  pub below-below : (L : List (K × V)) → below order (below order L q) q ≡ below order L q
  below-below L = filter_all (λ (p : K × V). is_lt (order p.0 q)) (below order L q) (λ x i. (In-from_filter (λ (p : K × V). is_lt (order p.0 q)) L x i).1)

  pub below-above : (L : List (K × V)) → below order (above order L q) q ≡ []
  below-above L = filter_none (λ (p : K × V). is_lt (order p.0 q)) (above order L q)
      (λ x i. elim (order x.0 q) as (λ c. is_gt c ≡ true → is_lt c ≡ false) [ Less ↦ λ h. absurd cc | Equal ↦ λ h. refl | Greater ↦ λ h. refl ]
      (In-from_filter (λ (p : K × V). is_gt (order p.0 q)) L x i).1)

  at-below : (L : List (K × V)) → at order (below order L q) q ≡ None
  at-below = at-filter_gone order q (λ x. is_lt (order x q)) (λ x e. ap is_lt e)

  at-above : (L : List (K × V)) → at order (above order L q) q ≡ None
  at-above = at-filter_gone order q (λ x. is_gt (order x q)) (λ x e. ap is_gt e)

  -- a pair with an equal key between the two parts is found
  at-between : (L : List (K × V)) (p : K × V) → order p.0 q ≡ Equal → at order (below order L q ++ p ∷ above order L q) q ≡ Some p
  at-between L p e =
      find-append (λ p. is_eq (order p.0 q)) (below order L q) (p ∷ above order L q)
      ∙ ap (λ r. option_or r (at order (p ∷ above order L q) q)) (at-below L)
      ∙ rw e refl

  -- a key that was cut is not found
  at-cut : (L : List (K × V)) → at order (cut order L q) q ≡ None
  at-cut L =
      find-append (λ p. is_eq (order p.0 q)) (below order L q) (above order L q)
      ∙ ap (λ r. option_or r (at order (above order L q) q)) (at-below L)
      ∙ at-above L

  pub value_at-cut : (L : List (K × V)) → value_at order (cut order L q) q ≡ None
  value_at-cut L = ap (option_map (λ p. p.1)) (at-cut L)

  -- the value that was written is found
  pub value_at-write : (L : List (K × V)) (v : V) → IsSome (at order L q) → value_at order (write order L q v) q ≡ Some v
  value_at-write L v there =
      (elim (at order L q) as (λ a. at order L q ≡ a → IsSome a → value_at order (option_map_or (λ p. below order L q ++ (p.0, v) ∷ above order L q) a L) q
      ≡ Some v) [
        | None ↦ λ e h. absurd (cc)
        | Some p ↦ λ e h. ap (option_map (λ p. p.1)) (at-between L (p.0, v) (at_in order L q p e).1)
      ]) refl there

-- ---- another query q', if all keys that it finds compare alike with q, and not as Equal
module _ {K Q Q' V : Type 0} (order : K → Q → Ordering) (q : Q) (order' : K → Q' → Ordering) (q' : Q')
    (c : Ordering) (differs : c ≢ Equal) (turned : (x : K) → order' x q' ≡ Equal → order x q ≡ c) where
  -- the parts below and above q together find what the list finds
  others : (L : List (K × V)) → option_or (at order' (below order L q) q') (at order' (above order L q) q') ≡ at order' L q'
  others L = (elim c as (λ d. c ≡ d → option_or (at order' (below order L q) q') (at order' (above order L q) q') ≡ at order' L q') [
    | Less ↦ λ e.
        let gone : at order' (above order L q) q' ≡ None = at-filter_gone order' q' (λ y. is_gt (order y q)) (λ y f. ap is_gt (turned y f ∙ e)) L in
        let kept : at order' (below order L q) q' ≡ at order' L q' = at-filter_kept order' q' (λ y. is_lt (order y q)) (λ y f. ap is_lt (turned y f ∙ e)) L in
        rw (gone, kept) (elim (at order' L q') as (λ o. option_or o None ≡ o) [ None ↦ refl | Some x ↦ refl ])
    | Equal ↦ λ e. absurd (differs e)
    | Greater ↦ λ e.
        let gone : at order' (below order L q) q' ≡ None = at-filter_gone order' q' (λ y. is_lt (order y q)) (λ y f. ap is_lt (turned y f ∙ e)) L in
        let kept : at order' (above order L q) q' ≡ at order' L q' = at-filter_kept order' q' (λ y. is_gt (order y q)) (λ y f. ap is_gt (turned y f ∙ e)) L in
        rw (gone, kept) refl
  ]) refl

  -- after a cut it finds what it found before
  pub value_at-cut_apart : (L : List (K × V)) → value_at order' (cut order L q) q' ≡ value_at order' L q'
  value_at-cut_apart L = ap (option_map (λ p. p.1)) (find-append (λ p. is_eq (order' p.0 q')) (below order L q) (above order L q) ∙ others L)

  -- and with a pair with an equal key between the two parts
  pub value_at-between_apart : (L : List (K × V)) (p : K × V) → order p.0 q ≡ Equal → value_at order' (below order L q ++ p ∷ above order L q) q'
      ≡ value_at order' L q'
  value_at-between_apart L p e =
      let miss : is_eq (order' p.0 q') ≡ false = not_is_eq (order' p.0 q') (λ h. differs (sym (turned p.0 h) ∙ e)) in
      let same : at order' (p ∷ above order L q) q' ≡ at order' (above order L q) q' = rw miss refl in
      ap (option_map (λ p. p.1))
      (find-append (λ p. is_eq (order' p.0 q')) (below order L q) (p ∷ above order L q) ∙ ap (λ r. option_or (at order' (below order L q) q') r) same
      ∙ others L)

  -- after a write it finds what it found before
  pub value_at-write_apart : (L : List (K × V)) (v : V) → value_at order' (write order L q v) q' ≡ value_at order' L q'
  value_at-write_apart L v =
      (elim (at order L q) as
      (λ a. at order L q ≡ a → value_at order' (option_map_or (λ p. below order L q ++ (p.0, v) ∷ above order L q) a L) q' ≡ value_at order' L q') [
        | None ↦ λ e. refl
        | Some p ↦ λ e. value_at-between_apart L (p.0, v) (at_in order L q p e).1
      ]) refl

  -- if a write finds the key, it leaves this
  pub value_at-written_apart : (L : List (K × V)) (p : K × V) (v : V) → at order L q ≡ Some p
      → value_at order' (below order L q ++ (p.0, v) ∷ above order L q) q' ≡ value_at order' L q'
  value_at-written_apart L p v e = value_at-between_apart L (p.0, v) (at_in order L q p e).1

-- ---- a write at an index
pub value_in-set_value_other : {K V : Type 0} (L : List (K × V)) (i j : ℕ) (v : V) → j ≢ i → value_in (set_value L i v) j ≡ value_in L j
value_in-set_value_other [] i j v n = refl
value_in-set_value_other (p ∷ L) zero zero v n = absurd (n refl)
value_in-set_value_other (p ∷ L) zero (suc j) v n = refl
value_in-set_value_other (p ∷ L) (suc i) zero v n = ap (λ M. value_in M 0) (set_value-suc p L i v)
value_in-set_value_other (p ∷ L) (suc i) (suc j) v n =
    ap (λ M. value_in M (suc j)) (set_value-suc p L i v) ∙ value_in-set_value_other L i j v (λ e. n (ap suc e))

-- if a pair is there, it leaves this
pub value_in-set : {K V : Type 0} (L : List (K × V)) (i j : ℕ) (p : K × V) (v : V) → slice_get L i ≡ Some p → j ≢ i
    → value_in (slice_set L i (p.0, v)) j ≡ value_in L j
value_in-set L i j p v e n = let h : value_in (set_value L i v) j ≡ value_in L j = value_in-set_value_other L i j v n in rw e at h

module _ {K Q V : Type 0} (order : K → Q → Ordering) (q : Q) where
  same_values : (c : Bool) (p : K × V) (a b : Option (K × V)) → option_map (λ x. x.1) a ≡ option_map (λ x. x.1) b
      → option_map (λ x. x.1) (cond c (Some p) a) ≡ option_map (λ x. x.1) (cond c (Some p) b)
  same_values true p a b e = refl
  same_values false p a b e = e

  -- a query that doesn't find the key there finds what it found before
  pub value_at-set_value : (L : List (K × V)) (i : ℕ) (v : V) → IfSome (slice_get L i) (λ p. order p.0 q ≢ Equal)
      → value_at order (set_value L i v) q ≡ value_at order L q
  value_at-set_value [] i v d = refl
  value_at-set_value (p ∷ L) zero v d = rw (not_is_eq (order p.0 q) d) refl
  value_at-set_value (p ∷ L) (suc i) v d =
      ap (λ M. value_at order M q) (set_value-suc p L i v)
      ∙ same_values (is_eq (order p.0 q)) p (at order (set_value L i v) q) (at order L q) (value_at-set_value L i v d)

  pub value_at-set : (L : List (K × V)) (i : ℕ) (p : K × V) (v : V) → slice_get L i ≡ Some p → order p.0 q ≢ Equal
      → value_at order (slice_set L i (p.0, v)) q ≡ value_at order L q
  value_at-set L i p v e d = let h : value_at order (set_value L i v) q ≡ value_at order L q = value_at-set_value L i v (rw e d) in rw e at h

module _ {K V : Type 0} {cmp : K → K → Ordering} (o : IsTotalOrder cmp) where
  -- ---- the key itself
  module _ (k : K) where
    -- the pair that a put leaves is found
    pub at-put : (L : List (K × V)) (v : V) → at cmp (put cmp L k v) k ≡ Some (key_or (at cmp L k) k, v)
    at-put L v = at-between cmp k L (key_or (at cmp L k) k, v) (key_or_equal o k L)

    -- the value that was put is found
    pub value_at-put : (L : List (K × V)) (v : V) → value_at cmp (put cmp L k v) k ≡ Some v
    value_at-put L v = ap (option_map (λ p. p.1)) (at-put L v)

  -- ---- every other key
  module _ (L : List (K × V)) (k q : K) (differs : cmp q k ≢ Equal) where
    -- it finds after a put what it found before
    pub value_at-put_other : (v : V) → value_at cmp (put cmp L k v) q ≡ value_at cmp L q
    value_at-put_other v =
        value_at-between_apart cmp k cmp q (cmp q k) differs (λ x e. o.congr x q k e) L (key_or (at cmp L k) k, v) (key_or_equal o k L)

    -- and after a cut
    pub value_at-cut_other : value_at cmp (cut cmp L k) q ≡ value_at cmp L q
    value_at-cut_other = value_at-cut_apart cmp k cmp q (cmp q k) differs (λ x e. o.congr x q k e) L

  -- ---- what both leave of an ascending list
  module _ (L : List (K × V)) (k : K) (r : Rising cmp L) where
    -- if the key is present, a put leaves the length
    module _ (there : IsSome (at cmp L k)) where
      whole : length L ≡ length (below cmp L k) + suc (length (above cmp L k))
      whole = by (at cmp L k) there (parted (key_one_side o) L k r)
        where
          by : (a : Option (K × V)) → IsSome a → L ≡ below cmp L k ++ cons_option a (above cmp L k)
              → length L ≡ length (below cmp L k) + suc (length (above cmp L k))
          by None h e = absurd (cc)
          by (Some p) h e = ap length e ∙ length-append (below cmp L k) (p ∷ above cmp L k)

      pub length-put_present : (v : V) → length (put cmp L k v) ≡ length L
      length-put_present v = length-append (below cmp L k) ((key_or (at cmp L k) k, v) ∷ above cmp L k) ∙ sym whole

    -- if it is absent, a put adds one
    module _ (missing : at cmp L k ≡ None) where
      parts : L ≡ below cmp L k ++ above cmp L k
      parts = rw missing at (parted (key_one_side o) L k r)

      pub length-put_absent : (v : V) → length (put cmp L k v) ≡ length L + 1
      length-put_absent v =
          let e : length L ≡ length (below cmp L k) + length (above cmp L k) = ap length parts ∙ length-append (below cmp L k) (above cmp L k) in
          let p : length (put cmp L k v) ≡ length (below cmp L k) + suc (length (above cmp L k)) =
          length-append (below cmp L k) ((key_or (at cmp L k) k, v) ∷ above cmp L k) in
          omega arith

    -- a cut leaves an ascending list
    pub Rising-cut : Rising cmp (cut cmp L k)
    Rising-cut = Rising-append cmp (below cmp L k) (above cmp L k) (Rising-filter cmp _ L r) (Rising-filter cmp _ L r)
        (λ x y i j. o.trans x.0 k y.0 (kept_below o L k x i) (kept_above o L k y j))
