-- The sorted list of strings by their bytes: each word of `Pairs` gives the bytes of what it gives for the strings.
use Rattle.std.proofs.Common.{◌≡◌, ◌++◌, ◌∷◌, ℕ, Bool, true, false, List, [], length, map, Some, None, Ok, Err, IsSome, IsNone, String, cond, filter}
use Rattle.std.proofs.Common.{find, is_some, is_lt, is_eq, is_gt, option_map, string_bytes, string_cmp, refl, sym}
use Rattle.std.proofs.lemmas.List.{length-map, map-append}
use Rattle.litemap_store.specs.Pairs.{above, at, below, cut, index_of, key_or, put, value_at}
use Rattle.litemap_store.specs.Queries.{by_string}
use Rattle.names_core.specs.Reply.{pair_bytes}
use Rattle.litemap_store.specs.Queries.{bytes_cmp}

module _ {A B : Type 0} (v : A → B) (q : B → Bool) where
  filter-map : (xs : List A) → filter q (map v xs) ≡ map v (filter (λ x. q (v x)) xs)
  filter-map [] = refl
  filter-map (x ∷ xs) =
      rw (filter-map xs) (elim (q (v x)) as
      (λ b. cond b (v x ∷ map v (filter (λ x. q (v x)) xs)) (map v (filter (λ x. q (v x)) xs))
      ≡ map v (cond b (x ∷ filter (λ x. q (v x)) xs) (filter (λ x. q (v x)) xs))) [ true ↦ refl | false ↦ refl ])

  find-map : (xs : List A) → find q (map v xs) ≡ option_map v (find (λ x. q (v x)) xs)
  find-map [] = refl
  find-map (x ∷ xs) = rw (find-map xs)
      (elim (q (v x)) as (λ b. cond b (Some (v x)) (option_map v (find (λ x. q (v x)) xs)) ≡ option_map v (cond b (Some x) (find (λ x. q (v x)) xs)))
      [ true ↦ refl | false ↦ refl ])

module _ {A : Type 0} (L : List (String A × String A)) (k : List ℕ) where
  below-bytes : below bytes_cmp (map pair_bytes L) k ≡ map pair_bytes (below by_string L k)
  below-bytes = filter-map pair_bytes (λ p. is_lt (bytes_cmp p.0 k)) L

  above-bytes : above bytes_cmp (map pair_bytes L) k ≡ map pair_bytes (above by_string L k)
  above-bytes = filter-map pair_bytes (λ p. is_gt (bytes_cmp p.0 k)) L

  pub at-bytes : at bytes_cmp (map pair_bytes L) k ≡ option_map pair_bytes (at by_string L k)
  at-bytes = find-map pair_bytes (λ p. is_eq (bytes_cmp p.0 k)) L

  pub value-bytes : value_at bytes_cmp (map pair_bytes L) k ≡ option_map string_bytes (value_at by_string L k)
  value-bytes = rw at-bytes
      (elim (at by_string L k) as (λ o. option_map (λ p. p.1) (option_map pair_bytes o) ≡ option_map string_bytes (option_map (λ p. p.1) o))
      [ None ↦ refl | Some p ↦ refl ])

  pub index-bytes : index_of bytes_cmp (map pair_bytes L) k ≡ index_of by_string L k
  index-bytes =
      rw (at-bytes, below-bytes, length-map (below by_string L k) pair_bytes)
      (elim (at by_string L k) as (λ o. cond (is_some (option_map pair_bytes o)) (Ok (length (below by_string L k))) (Err (length (below by_string L k)))
      ≡ cond (is_some o) (Ok (length (below by_string L k))) (Err (length (below by_string L k)))) [ None ↦ refl | Some p ↦ refl ])

  pub cut-bytes : cut bytes_cmp (map pair_bytes L) k ≡ map pair_bytes (cut by_string L k)
  cut-bytes = rw (below-bytes, above-bytes) (sym (map-append pair_bytes (below by_string L k) (above by_string L k)))

  -- a key that is there by its bytes is there, and one that is not there by them is not there
  pub there : IsSome (at bytes_cmp (map pair_bytes L) k) → IsSome (at by_string L k)
  there h = (elim (at by_string L k) as (λ o. IsSome (option_map pair_bytes o) → IsSome o) [ None ↦ λ h. h | Some p ↦ λ h. h ]) (rw at-bytes at h)

  pub absent : IsNone (at bytes_cmp (map pair_bytes L) k) → IsNone (at by_string L k)
  absent h = (elim (at by_string L k) as (λ o. IsNone (option_map pair_bytes o) → IsNone o) [ None ↦ λ h. h | Some p ↦ λ h. h ]) (rw at-bytes at h)

pub put-bytes : {A : Type 0} (L : List (String A × String A)) (k v : String A) → put bytes_cmp (map pair_bytes L) (string_bytes k) (string_bytes v)
    ≡ map pair_bytes (put string_cmp L k v)
put-bytes L k v =
    rw (below-bytes L (string_bytes k), above-bytes L (string_bytes k), at-bytes L (string_bytes k), map-append)
    (elim (at by_string L (string_bytes k)) as
    (λ o. map pair_bytes (below by_string L (string_bytes k))
    ++ ((key_or (option_map pair_bytes o) (string_bytes k), string_bytes v) ∷ map pair_bytes (above by_string L (string_bytes k)))
    ≡ map pair_bytes (below by_string L (string_bytes k)) ++ (pair_bytes (key_or o k, v) ∷ map pair_bytes (above by_string L (string_bytes k))))
    [ None ↦ refl | Some p ↦ refl ])

pub ruleset in_bytes = (value-bytes, index-bytes, cut-bytes, put-bytes, absent, there)
