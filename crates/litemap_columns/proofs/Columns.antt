-- Two lists of one length, one of keys and one of values: what is done to both is done to the pairs.
--     length-zip_same, within-zip, within-columns, within-keys, within-values      as many pairs as keys and as values
--     zip-read, columns-read, zip-key, zip-none      the pair at an index, and past the end
--     zip-append, zip-joined, zip-insert, zip-remove, zip-set, zip-set_value, zip-take      after a change of both, or of the values
--     zip-swap      after a swap in both
use Rattle.std.proofs.Common.{◌≡◌, ℕ, zero, suc, ◌<◌, ◌≤◌, List, [], ◌∷◌, ◌++◌, length, take, slice_get, slice_set, swap, get_or, Some, None, Vec, vec_len}
use Rattle.std.proofs.Common.{refl, ap, ◌∙◌, arith}
use Rattle.std.specs.Option.{option_map_or}
use Rattle.std.specs.List.{insert, remove, zip}
use Rattle.std.proofs.lemmas.List.Edits.{swap_is}
use Rattle.std.proofs.lemmas.Slice.Zip.{get_or-zip}
use Rattle.litemap_store.specs.Pairs.{set_value}

pub same_length : {K V Y Z : Type 0} (keys : Vec K Y) (values : Vec V Z) → vec_len keys ≡ vec_len values → length keys.items ≡ length values.items
same_length keys values h = omega (arith, keys.ok.0, values.ok.0)

module _ {K V : Type 0} where
  set_value-cons : (p : K × V) (L : List (K × V)) (i : ℕ) (v : V) → p ∷ set_value L i v ≡ set_value (p ∷ L) (suc i) v
  set_value-cons p L i v =
      elim (slice_get L i) as (λ o. p ∷ option_map_or (λ q. slice_set L i (q.0, v)) o L ≡ option_map_or (λ q. p ∷ slice_set L i (q.0, v)) o (p ∷ L))
      [ None ↦ refl | Some q ↦ refl ]

  pub length-zip_same : (ks : List K) (vs : List V) → length ks ≡ length vs → length (zip ks vs) ≡ length ks
  length-zip_same [] vs h = refl
  length-zip_same (k ∷ ks) [] h = absurd (omega arith)
  length-zip_same (k ∷ ks) (v ∷ vs) h = ap suc (length-zip_same ks vs (omega arith))

  pub within-zip : (ks : List K) (vs : List V) (i : ℕ) → length ks ≡ length vs → i < length (zip ks vs) → i < length ks
  within-zip ks vs i h u = let e : length (zip ks vs) ≡ length ks = length-zip_same ks vs h in omega arith

  -- the pair at an index is the key and the value there
  pub zip-read : (ks : List K) (vs : List V) (i : ℕ) (k : K) (v : V) → length ks ≡ length vs → i < length ks → k ≡ get_or ks i k → v ≡ get_or vs i v
      → slice_get (zip ks vs) i ≡ Some (k, v)
  zip-read [] vs i k v h u a b = absurd (omega arith)
  zip-read (j ∷ ks) [] i k v h u a b = absurd (omega arith)
  zip-read (j ∷ ks) (w ∷ vs) zero k v h u a b = cc
  zip-read (j ∷ ks) (w ∷ vs) (suc i) k v h u a b = zip-read ks vs i k v (omega arith) (omega arith) a b

  -- both in two vectors of one length
  module _ {Y Z : Type 0} (keys : Vec K Y) (values : Vec V Z) (i : ℕ) (same : vec_len keys ≡ vec_len values)
      (inside : i < length (zip keys.items values.items)) where
    pub within-columns : i < length keys.items
    within-columns = within-zip keys.items values.items i (same_length keys values same) inside

    pub within-keys : i < vec_len keys
    within-keys = omega (arith, keys.ok.0, within-columns)

    pub within-values : i < vec_len values
    within-values = omega (arith, keys.ok.0, within-columns, same)

    pub columns-read : (k : K) (v : V) → k ≡ get_or keys.items i k → v ≡ get_or values.items i v → slice_get (zip keys.items values.items) i ≡ Some (k, v)
    columns-read k v = zip-read keys.items values.items i k v (same_length keys values same) within-columns

  -- there is a value beside the key at an index
  pub zip-key : (ks : List K) (vs : List V) (i : ℕ) (d : K) → length ks ≡ length vs → i < length ks
      → (v : V) × (slice_get (zip ks vs) i ≡ Some (get_or ks i d, v))
  zip-key [] vs i d h u = absurd (omega arith)
  zip-key (j ∷ ks) [] i d h u = absurd (omega arith)
  zip-key (j ∷ ks) (w ∷ vs) zero d h u = (w, refl)
  zip-key (j ∷ ks) (w ∷ vs) (suc i) d h u = zip-key ks vs i d (omega arith) (omega arith)

  pub zip-none : (ks : List K) (vs : List V) (i : ℕ) → length ks ≤ i → slice_get (zip ks vs) i ≡ None
  zip-none [] vs i h = refl
  zip-none (j ∷ ks) [] i h = refl
  zip-none (j ∷ ks) (w ∷ vs) zero h = absurd (omega arith)
  zip-none (j ∷ ks) (w ∷ vs) (suc i) h = zip-none ks vs i (omega arith)

  pub zip-append : (ks : List K) (vs : List V) (k : K) (v : V) → length ks ≡ length vs → zip (ks ++ k ∷ []) (vs ++ v ∷ []) ≡ zip ks vs ++ (k, v) ∷ []
  zip-append [] [] k v h = refl
  zip-append [] (w ∷ vs) k v h = absurd (omega arith)
  zip-append (j ∷ ks) [] k v h = absurd (omega arith)
  zip-append (j ∷ ks) (w ∷ vs) k v h = ap (λ L. (j, w) ∷ L) (zip-append ks vs k v (omega arith))

  pub zip-joined : (ks js : List K) (vs ws : List V) → length ks ≡ length vs → zip (ks ++ js) (vs ++ ws) ≡ zip ks vs ++ zip js ws
  zip-joined [] js [] ws h = refl
  zip-joined [] js (v ∷ vs) ws h = absurd (omega arith)
  zip-joined (k ∷ ks) js [] ws h = absurd (omega arith)
  zip-joined (k ∷ ks) js (v ∷ vs) ws h = ap (λ L. (k, v) ∷ L) (zip-joined ks js vs ws (omega arith))

  pub zip-insert : (ks : List K) (vs : List V) (i : ℕ) (k : K) (v : V) → i ≤ length ks → length ks ≡ length vs
      → zip (insert ks i k) (insert vs i v) ≡ insert (zip ks vs) i (k, v)
  zip-insert [] [] zero k v u h = refl
  zip-insert [] [] (suc i) k v u h = absurd (omega arith)
  zip-insert [] (w ∷ vs) i k v u h = absurd (omega arith)
  zip-insert (j ∷ ks) [] i k v u h = absurd (omega arith)
  zip-insert (j ∷ ks) (w ∷ vs) zero k v u h = refl
  zip-insert (j ∷ ks) (w ∷ vs) (suc i) k v u h = ap (λ L. (j, w) ∷ L) (zip-insert ks vs i k v (omega arith) (omega arith))

  pub zip-remove : (ks : List K) (vs : List V) (i : ℕ) → length ks ≡ length vs → zip (remove ks i) (remove vs i) ≡ remove (zip ks vs) i
  zip-remove [] [] zero h = refl
  zip-remove [] [] (suc i) h = refl
  zip-remove [] (w ∷ vs) i h = absurd (omega arith)
  zip-remove (j ∷ ks) [] i h = absurd (omega arith)
  zip-remove (j ∷ ks) (w ∷ vs) zero h = refl
  zip-remove (j ∷ ks) (w ∷ vs) (suc i) h = ap (λ L. (j, w) ∷ L) (zip-remove ks vs i (omega arith))

  pub zip-set : (ks : List K) (vs : List V) (i : ℕ) (k : K) (v : V) → zip (slice_set ks i k) (slice_set vs i v) ≡ slice_set (zip ks vs) i (k, v)
  zip-set [] vs i k v = refl
  zip-set (j ∷ ks) [] zero k v = refl
  zip-set (j ∷ ks) [] (suc i) k v = refl
  zip-set (j ∷ ks) (w ∷ vs) zero k v = refl
  zip-set (j ∷ ks) (w ∷ vs) (suc i) k v = ap (λ L. (j, w) ∷ L) (zip-set ks vs i k v)

  -- another value at an index that has a key
  pub zip-set_value : (ks : List K) (vs : List V) (i : ℕ) (v : V) → zip ks (slice_set vs i v) ≡ set_value (zip ks vs) i v
  zip-set_value [] vs i v = refl
  zip-set_value (j ∷ ks) [] i v = refl
  zip-set_value (j ∷ ks) (w ∷ vs) zero v = refl
  zip-set_value (j ∷ ks) (w ∷ vs) (suc i) v = ap (λ L. (j, w) ∷ L) (zip-set_value ks vs i v) ∙ set_value-cons (j, w) (zip ks vs) i v

  pub zip-take : (ks : List K) (vs : List V) (n : ℕ) → zip (take n ks) (take n vs) ≡ take n (zip ks vs)
  zip-take ks vs zero = refl
  zip-take [] vs (suc n) = refl
  zip-take (j ∷ ks) [] (suc n) = refl
  zip-take (j ∷ ks) (w ∷ vs) (suc n) = ap (λ L. (j, w) ∷ L) (zip-take ks vs n)

  -- two keys swapped, and their values
  pub zip-swap : (ks : List K) (vs : List V) (k i : ℕ) → length ks ≡ length vs → k < length ks → i < length ks
      → zip (swap ks k i) (swap vs k i) ≡ swap (zip ks vs) k i
  zip-swap [] vs k i h u w = absurd (omega arith)
  zip-swap (j ∷ js) [] k i h u w = absurd (omega arith)
  zip-swap (j ∷ js) (x ∷ xs) k i h u w =
      let ks = j ∷ js in
      let vs = x ∷ xs in
      let d : K × V = (j, x) in
      let all : length (zip ks vs) ≡ length ks = length-zip_same ks vs h in
      let at : get_or (zip ks vs) i d ≡ (get_or ks i d.0, get_or vs i d.1) = get_or-zip ks vs i d w (omega arith) in
      let front : get_or (zip ks vs) k d ≡ (get_or ks k d.0, get_or vs k d.1) = get_or-zip ks vs k d u (omega arith) in
      let once : zip (slice_set ks k (get_or ks i d.0)) (slice_set vs k (get_or vs i d.1)) ≡ slice_set (zip ks vs) k (get_or ks i d.0, get_or vs i d.1) =
      zip-set ks vs k _ _ in
      rw (
        ← swap_is ks k i d.0 u w,
        ← swap_is vs k i d.1 (omega arith) (omega arith),
        ← swap_is (zip ks vs) k i d (omega arith) (omega arith),
        at,
        front,
        zip-set,
        once,
      ) refl
