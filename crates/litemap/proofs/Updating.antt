-- What lookups find after one key has changed: for the clauses `updates`.
--     updates_put, places_put, updates_push, places_push      after a put;  finds_cut, places_cut      after a cut;  finds_write      after a write
--     updates_set, places_remove      after a write and a removal at an index
--     keys_stay      what each key finds that a query doesn't;  value_at-part, value_at-no_part      and in a part
use Rattle.litemap.proofs.Common.{◌≡◌, ◌∙◌, ◌∷◌, ◌++◌, ◌+◌, ℕ, Bool, false, List, Option, None, Some, IsSome, Result, option_map, is_gt, is_lt, [], Ok}
use Rattle.litemap.proofs.Common.{Err, arith, ap, append-nil, equal_from_is_eq, is_eq, is_some, length, true}
use Rattle.litemap.proofs.Common.{length-append, option_or, refl, subst, sym, Ordering, Less, Equal, Greater, IsTotalOrder, key_or_equal}
use Rattle.litemap.proofs.Common.{above, at, below, cut, index_of, key_or, place, put, value_at, write, value_at-cut, value_at-put, value_at-put_other}
use Rattle.litemap.proofs.Common.{Rising, found_remove, found_set_value, get_or_from_slice_get, remove, set_value, slice_get, slice_get_within}
use Rattle.litemap.proofs.Common.{tied_itself, value_at-write}
use Rattle.std.proofs.Common.{find}
use Rattle.std.specs.Option.{option_map_or}
use Rattle.std.proofs.lemmas.List.Folds.{find-append}
use Rattle.litemap_store.proofs.Names.{filter-append}
use Rattle.litemap_store.proofs.Last.KeepLast.{filter_all, filter_none}
use Rattle.litemap_store.proofs.Lists.Membership.{each}
use Rattle.litemap_store.specs.Pairs.{AllBelow}
use Rattle.litemap.proofs.MergedTests.{none_found}
use Rattle.std.specs.Prelude.{if◌then◌else◌}
use Rattle.std.proofs.lemmas.Cmp.{tied_back}
use Rattle.std.proofs.lemmas.Map.Lookups.{exact_bytes}
use Rattle.litemap_store.specs.Splits.{IsFoundAt, Splits}
use Rattle.litemap_store.proofs.Callers.Lookups.{below-above, below-below}
use Rattle.litemap_store.proofs.Callers.Tallies.{value_at_equal}
use Rattle.litemap_store.proofs.Search.Splitting.{found_at, not_is_eq}
use Rattle.litemap_store.specs.Queries.{Respects, key_one_side}
use Rattle.litemap.specs.Updates.{Finds, KeepsPart, KeysStay, Places, Stays, Updates}

pub stay : {X : Type 0} {apart : (X → Bool) → Type 0} {before after : List X}
    → ((test : X → Bool) → apart test → find test after ≡ find test before) → Stays apart before after
stay found = record { found = found; exact = exact_bytes }

length-between : {X : Type 0} (A B : List X) (x : X) → length (A ++ x ∷ B) ≡ length (A ++ B) + 1
length-between A B x = omega (arith, length-append A B, length-append A (x ∷ B))

-- 1 if there is a pair, else 0
abbrev number : {X : Type 0} → Option X → ℕ
number o = if is_some o then 1 else 0

module _ {K Q V : Type 0} (order : K → Q → Ordering) (q : Q) where
  module _ (test : K × V → Bool) (apart : (p : K × V) → order p.0 q ≡ Equal → test p ≡ false) where
    skip : (p : K × V) (M : List (K × V)) → order p.0 q ≡ Equal → find test (p ∷ M) ≡ find test M
    skip p M e = rw (apart p e) refl

    join : (A B M : List (K × V)) → find test B ≡ find test M → find test (A ++ B) ≡ find test (A ++ M)
    join A B M e = find-append test A B ∙ ap (λ f. option_or (find test A) f) e ∙ sym (find-append test A M)

  -- a pair with an equal key between the parts
  others-between : (L : List (K × V)) (x : K × V) → order x.0 q ≡ Equal → (r : Result ℕ ℕ) → Splits order L q r
      → (test : K × V → Bool) → ((p : K × V) → order p.0 q ≡ Equal → test p ≡ false) → find test (below order L q ++ x ∷ above order L q) ≡ find test L
  others-between L x e (Ok i) s test apart =
      join test apart (below order L q) (x ∷ above order L q) (s.pair ∷ above order L q)
      (skip test apart x (above order L q) e ∙ sym (skip test apart s.pair (above order L q) s.equal)) ∙ ap (find test) (sym s.is)
  others-between L x e (Err i) s test apart =
      join test apart (below order L q) (x ∷ above order L q) (above order L q) (skip test apart x (above order L q) e) ∙ ap (find test) (sym s.is)

  others-cut : (L : List (K × V)) (r : Result ℕ ℕ) → Splits order L q r
      → (test : K × V → Bool) → ((p : K × V) → order p.0 q ≡ Equal → test p ≡ false) → find test (cut order L q) ≡ find test L
  others-cut L (Ok i) s test apart =
      join test apart (below order L q) (above order L q) (s.pair ∷ above order L q) (sym (skip test apart s.pair (above order L q) s.equal))
      ∙ ap (find test) (sym s.is)
  others-cut L (Err i) s test apart = ap (find test) (sym s.is)

  count-found : (L : List (K × V)) (p : K × V) → at order L q ≡ Some p → number (at order L q) ≡ 1
  count-found L p e = ap number e

  count-missing : (L : List (K × V)) → at order L q ≡ None → number (at order L q) ≡ 0
  count-missing L e = ap number e

  len-between : (L : List (K × V)) (x : K × V) (r : Result ℕ ℕ) → Splits order L q r → length (below order L q ++ x ∷ above order L q) + number (at order L q)
      ≡ length L + 1
  len-between L x (Ok i) s =
      let a = length-between (below order L q) (above order L q) x in
      let b = ap length s.is ∙ length-between (below order L q) (above order L q) s.pair in
      omega (arith, a, b, count-found L s.pair s.found)
  len-between L x (Err i) s =
      let a = length-between (below order L q) (above order L q) x in
      let b : length L ≡ length (below order L q ++ above order L q) = ap length s.is in
      omega (arith, a, b, count-missing L s.missing)

  len-cut : (L : List (K × V)) (r : Result ℕ ℕ) → Splits order L q r → length (cut order L q) + number (at order L q) ≡ length L + 0
  len-cut L (Ok i) s = let b = ap length s.is ∙ length-between (below order L q) (above order L q) s.pair in omega (arith, b, count-found L s.pair s.found)
  len-cut L (Err i) s = let b : length L ≡ length (below order L q ++ above order L q) = ap length s.is in omega (arith, b, count-missing L s.missing)

  index-by : (M : List (K × V)) (n : ℕ) (w : Option V) → value_at order M q ≡ w → place order M q ≡ n → index_of order M q ≡ (if is_some w then Ok n else Err n)
  index-by M n w f p = by (at order M q) refl
    where
      by : (a : Option (K × V)) → at order M q ≡ a → index_of order M q ≡ (if is_some w then Ok n else Err n)
      by None e = let g : None ≡ w = sym (ap (option_map (λ x. x.1)) e) ∙ f in rw e (rw (← g) (ap Err p))
      by (Some x) e = let g : Some x.1 ≡ w = sym (ap (option_map (λ x. x.1)) e) ∙ f in rw e (rw (← g) (ap Ok p))

  place-cut : (L : List (K × V)) → place order (cut order L q) q ≡ place order L q
  place-cut L = ap length
      (filter-append (λ p. is_lt (order p.0 q)) (below order L q) (above order L q) ∙ ap (λ M. M ++ below order (above order L q) q) (below-below order q L)
      ∙ ap (λ M. below order L q ++ M) (below-above order q L) ∙ append-nil (below order L q))

  place-between : (L : List (K × V)) (x : K × V) → order x.0 q ≡ Equal → place order (below order L q ++ x ∷ above order L q) q ≡ place order L q
  place-between L x e =
      let none : below order (x ∷ above order L q) q ≡ [] = rw e (below-above order q L) in
      ap length (filter-append (λ p. is_lt (order p.0 q)) (below order L q) (x ∷ above order L q) ∙ ap (λ M. M ++ below order (x ∷ above order L q) q)
      (below-below order q L) ∙ ap (λ M. below order L q ++ M) none ∙ append-nil (below order L q))

  pub finds_cut : (L : List (K × V)) (r : Result ℕ ℕ) → Splits order L q r → Finds order q None L (cut order L q)
  finds_cut L r s = record { found = value_at-cut order q L; others = stay (others-cut L r s) }

  pub places_cut : (L : List (K × V)) (r : Result ℕ ℕ) → Splits order L q r → Places order q None L (cut order L q)
  places_cut L r s = record { index = index-by (cut order L q) (place order L q) None (value_at-cut order q L) (place-cut L); len = len-cut L r s }

  pub finds_write : (L : List (K × V)) (i : ℕ) → IsFoundAt order L q i → (v : V) → Finds order q (Some v) L (write order L q v)
  finds_write L i s v =
      let x : K × V = (s.pair.0, v) in
      let e : write order L q v ≡ below order L q ++ x ∷ above order L q =
      ap (λ o. option_map_or (λ p. below order L q ++ (p.0, v) ∷ above order L q) o L) s.found in record {
        found = value_at-write order q L v (subst (λ o. IsSome o) (sym s.found) refl);
        others = stay (λ test apart. ap (find test) e ∙ others-between L x s.equal (Ok i) s test apart);
      }

-- in a part whose keys pass a test that equal keys pass alike
module _ {K V : Type 0} {cmp : K → K → Ordering} (keep : K → Bool) (alike : (x y : K) → cmp x y ≡ Equal → keep x ≡ keep y) (L M : List (K × V))
    (part : KeepsPart (λ p. keep p.0) L M) (k : K) where
  pub value_at-part : keep k ≡ true → value_at cmp M k ≡ value_at cmp L k
  value_at-part e = ap (option_map (λ p. p.1)) (part.stays.found (λ p. is_eq (cmp p.0 k)) (λ p t. alike p.0 k (equal_from_is_eq _ t) ∙ e))

  pub value_at-no_part : keep k ≡ false → value_at cmp M k ≡ None
  value_at-no_part e = ap (option_map (λ p. p.1)) (part.gone (λ p. is_eq (cmp p.0 k)) (λ p t. alike p.0 k (equal_from_is_eq _ t) ∙ e))

module _ {K Q V : Type 0} {cmp : K → K → Ordering} {order : K → Q → Ordering} (respects : Respects cmp order) (q : Q) where
  -- of a query that changes no other one's pair
  pub keys_stay : (L M : List (K × V)) → Stays (λ test. (p : K × V) → order p.0 q ≡ Equal → test p ≡ false) L M → KeysStay cmp order q L M
  keys_stay L M others k n = ap (option_map (λ p. p.1)) (others.found (λ p. is_eq (cmp p.0 k))
      (λ p e. not_is_eq (cmp p.0 k) (λ t. let same : order p.0 q ≡ order k q = respects q p.0 k t in absurd (cc))))

module _ {K V : Type 0} {cmp : K → K → Ordering} (o : IsTotalOrder cmp) (L : List (K × V)) (k : K) (v : V) where
  each_by : (q : K) (r : Ordering) → cmp q k ≡ r → value_at cmp (put cmp L k v) q ≡ (if is_eq r then Some v else value_at cmp L q)
  each_by q Equal e = value_at_equal o (put cmp L k v) k q (tied_back o q k e) ∙ value_at-put o k L v
  each_by q Less e = value_at-put_other o L k q (λ h. let d : Less ≡ Equal = sym e ∙ h in cc) v
  each_by q Greater e = value_at-put_other o L k q (λ h. let d : Greater ≡ Equal = sym e ∙ h in cc) v

  finds_put : (r : Result ℕ ℕ) → Splits cmp L k r → Finds cmp k (Some v) L (put cmp L k v)
  finds_put r s = record {
    found = value_at-put o k L v;
    others = stay (others-between cmp k L (key_or (at cmp L k) k, v) (key_or_equal o k L) r s);
  }

  pub updates_put : (r : Result ℕ ℕ) → Splits cmp L k r → Updates cmp k (Some v) L (put cmp L k v)
  updates_put r s = record { finds = finds_put r s; each = λ q. each_by q (cmp q k) refl }

  pub places_put : (r : Result ℕ ℕ) → Splits cmp L k r → Places cmp k (Some v) L (put cmp L k v)
  places_put r s =
      let x : K × V = (key_or (at cmp L k) k, v) in record {
        index = index-by cmp k (put cmp L k v) (place cmp L k) (Some v) (value_at-put o k L v) (place-between cmp k L x (key_or_equal o k L));
        len = len-between cmp k L x r s;
      }

  -- a pair above all others
  splits_push : AllBelow cmp L k → Splits cmp L k (Err (length L)) × (put cmp L k v ≡ L ++ (k, v) ∷ [])
  splits_push b =
      let less = each (λ (p : K × V). cmp p.0 k ≡ Less) L b in
      let low : below cmp L k ≡ L = filter_all (λ (p : K × V). is_lt (cmp p.0 k)) L (λ x i. ap is_lt (less x i)) in
      let high : above cmp L k ≡ [] = filter_none (λ (p : K × V). is_gt (cmp p.0 k)) L (λ x i. ap is_gt (less x i)) in
      let none : at cmp L k ≡ None = none_found (λ (p : K × V). is_eq (cmp p.0 k)) L (λ x i. ap is_eq (less x i)) in (
        record { is = sym (rw (low, high) (append-nil L)); place = ap length (sym low); missing = none },
        rw (low, high, none) refl,
      )

  pub updates_push : AllBelow cmp L k → Updates cmp k (Some v) L (L ++ (k, v) ∷ [])
  updates_push b = let s = splits_push b in subst (Updates cmp k (Some v) L) s.1 (updates_put (Err (length L)) s.0)

  pub places_push : AllBelow cmp L k → Places cmp k (Some v) L (L ++ (k, v) ∷ [])
  places_push b = let s = splits_push b in subst (Places cmp k (Some v) L) s.1 (places_put (Err (length L)) s.0)

-- ---- at an index of an ascending list
module _ {K V : Type 0} {cmp : K → K → Ordering} (o : IsTotalOrder cmp) (L : List (K × V)) (r : Rising cmp L) (i : ℕ) (p : K × V)
    (there : slice_get L i ≡ Some p) where
  stands : IsFoundAt cmp L p.0 i
  stands = found_at (key_one_side o) L p.0 i r (slice_get_within L i p there) (λ d. rw (get_or_from_slice_get L i p d there) (tied_itself o p.0))

  pub updates_set : (v : V) → Updates cmp p.0 (Some v) L (set_value L i v)
  updates_set v = subst (Updates cmp p.0 (Some v) L) (sym (found_set_value cmp L p.0 i stands v)) (updates_put o L p.0 v (Ok i) stands)

  pub places_remove : Places cmp p.0 None L (remove L i)
  places_remove = subst (Places cmp p.0 None L) (sym (found_remove cmp L p.0 i stands)) (places_cut cmp p.0 L (Ok i) stands)
