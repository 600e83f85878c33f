-- Strings and bytes as keys: what lookups find after a put, a write, a cut and a merge, and what clones of strings are. A
-- caller's function takes these by an attribute, as `#[tactic(auto, using(litemap::proofs::Texts::text_keys))]`.
--     text_keys      for `String` keys, looked up by strings
--     texts      fewer for lookups by strings, with which the search gets further: for several changes in one body, or an `entry`
--     byte_keys      for `Vec<u8>` keys, looked up by bytes
--     key_is_text      a `String` key finds what its string finds;  by_bytes_total      the law of the order of `&str` and `&[u8]` keys, for counts
--     text_lists      what is found in a map of a list, and after more pairs, looked up by strings
--     text_combined      what `extend_with` leaves, looked up by strings
--     text_clones      the condition of `try_clone` and of the conversions, for `String` keys
use Rattle.litemap.proofs.Common.{◌≡◌, ◌≢◌, ◌∷◌, ◌++◌, List, Option, Some, None, option_map, IsSome, String, Vec, Bor, ℕ, cond, is_some}
use Rattle.litemap.proofs.Common.{slice_get, slice_set, refl, ap, sym, ◌∙◌, is_eq, nat_cmp, Ordering, Less, Equal, Greater, IsTotalOrder, slice_cmp}
use Rattle.litemap.proofs.Common.{Rising, nat_list_cmp_total, on_texts, option_or, reverse, string_bytes, string_cmp, Merge, left, above, at}
use Rattle.litemap.proofs.Common.{below, cut, key_or, put, value_at, write, value_at-cut}
use Rattle.litemap.proofs.Common.{value_at-put, value_at-write, value_at-write_apart, value_in-set}
use Rattle.litemap.proofs.Common.{value_at-between_apart, value_at-cut_apart, value_at-set}
use Rattle.litemap.proofs.Common.{Bool, true, false, inl, inr, key_alike, key_same, value_at-left, value_at-merged, key_or_equal}
use Rattle.std.proofs.Common.{◌⊎◌}
use Rattle.std.proofs.lemmas.Cmp.{tied_itself}
use Rattle.std.proofs.lemmas.Map.Lookups.{exact_bytes}
use Rattle.std.proofs.lemmas.Map.Text.{is_eq-slice_cmp}
use Rattle.std.specs.Cmp.Lexicographic.{bytes_decides, nat_list_eq_equiv}
use Rattle.std.specs.Str.{bytes_eq}
use Rattle.std.specs.String.{string_cmp_total}
use Rattle.litemap_store.specs.Last.{Last}
use Rattle.litemap_store.proofs.Callers.LastLookups.{value_at-last, value_at-last_of_more, value_at-last_of_rising}
use Rattle.litemap_store.specs.Queries.{OneSide, by_slice, by_string, key_one_side}
use Rattle.litemap.specs.ByBytes.{by_bytes}
use Rattle.litemap.specs.Combined.{combined, found_with}
use Rattle.litemap.proofs.Combining.{value_at-combined}
use Rattle.litemap.proofs.Keys.{write_same}

-- the law of their order
pub by_bytes_total : IsTotalOrder by_bytes
by_bytes_total = on_texts (λ (a : Bor (List ℕ)). a.now)

nat_list_cmp_itself : (t : List ℕ) → slice_cmp nat_cmp t t ≡ Equal
nat_list_cmp_itself t = tied_itself nat_list_cmp_total t

differs : (t u : List ℕ) → u ≢ t → slice_cmp nat_cmp u t ≢ Equal
differs t u n e = n (exact_bytes u t e)

-- ---- keys that are seen as bytes, looked up by bytes
module _ {K : Type 0} (bytes : K → List ℕ) where
  abbrev by : K → List ℕ → Ordering
  by key text = slice_cmp nat_cmp (bytes key) text

  turned : (t u : List ℕ) (x : K) → by x u ≡ Equal → by x t ≡ slice_cmp nat_cmp u t
  turned t u x e = nat_list_cmp_total.congr (bytes x) u t e

  write_others : {V : Type 0} (L : List (K × V)) (t u : List ℕ) (v : V) → u ≢ t → value_at by (write by L t v) u ≡ value_at by L u
  write_others L t u v n = value_at-write_apart by t by u (slice_cmp nat_cmp u t) (differs t u n) (turned t u) L v

  cut_others : {V : Type 0} (L : List (K × V)) (t u : List ℕ) → u ≢ t → value_at by (cut by L t) u ≡ value_at by L u
  cut_others L t u n = value_at-cut_apart by t by u (slice_cmp nat_cmp u t) (differs t u n) (turned t u) L

pub text_one_side : {Z : Type 0} → OneSide (string_cmp {Z = Z}) by_string
text_one_side t x y = key_one_side nat_list_cmp_total t (string_bytes x) (string_bytes y)

-- ---- strings that a string finds
module _ {Z : Type 0} (t : List ℕ) (x y : String Z) where
  pub same_bytes : by_string x t ≡ Equal → by_string y t ≡ Equal → string_cmp x y ≡ Equal
  same_bytes = key_same nat_list_cmp_total t (string_bytes x) (string_bytes y)

  pub alike_bytes : string_cmp x y ≡ Equal → by_string x t ≡ Equal → by_string y t ≡ Equal
  alike_bytes = key_alike nat_list_cmp_total t (string_bytes x) (string_bytes y)

module _ {V Z : Type 0} where
  -- ---- `String`, looked up by strings

  pub key_is_text : (L : List (String Z × V)) (k : String Z) → value_at string_cmp L k ≡ value_at by_string L (string_bytes k)
  key_is_text L k = refl

  pub text_put_found : (L : List (String Z × V)) (k : String Z) (v : V) → value_at by_string (put string_cmp L k v) (string_bytes k) ≡ Some v
  text_put_found L k v = value_at-put string_cmp_total k L v

  pub text_put_others : (L : List (String Z × V)) (k : String Z) (u : List ℕ) (v : V) → u ≢ string_bytes k → value_at by_string (put string_cmp L k v) u
      ≡ value_at by_string L u
  text_put_others L k u v n =
      value_at-between_apart string_cmp k by_string u (slice_cmp nat_cmp u (string_bytes k)) (differs (string_bytes k) u n)
      (turned (λ x. string_bytes x) (string_bytes k) u) L
      (key_or (at string_cmp L k) k, v) (key_or_equal string_cmp_total k L)

  -- the same of all strings in one equation
  pub text_put : (L : List (String Z × V)) (k : String Z) (u : List ℕ) (v : V) → value_at by_string (put string_cmp L k v) u
      ≡ cond (is_eq (slice_cmp nat_cmp u (string_bytes k))) (Some v) (value_at by_string L u)
  text_put L k u v = by (slice_cmp nat_cmp u (string_bytes k)) refl
    where
      by : (r : Ordering) → slice_cmp nat_cmp u (string_bytes k) ≡ r → value_at by_string (put string_cmp L k v) u
          ≡ cond (is_eq r) (Some v) (value_at by_string L u)
      by Equal e = let s : u ≡ string_bytes k = exact_bytes u (string_bytes k) e in rw s (text_put_found L k v)
      by Less e = text_put_others L k u v
          (λ s. let t : Less ≡ Equal = sym e ∙ ap (λ w. slice_cmp nat_cmp w (string_bytes k)) s ∙ nat_list_cmp_itself (string_bytes k) in cc)
      by Greater e = text_put_others L k u v
          (λ s. let t : Greater ≡ Equal = sym e ∙ ap (λ w. slice_cmp nat_cmp w (string_bytes k)) s ∙ nat_list_cmp_itself (string_bytes k) in cc)

  -- the same by cases, with the test that std's words have, either way round
  pub text_put_cases : (L : List (String Z × V)) (k : String Z) (v : V) (u : List ℕ)
      → (value_at by_string (put string_cmp L k v) u ≡ value_at by_string (put string_cmp L k v) u)
      × (((bytes_eq u (string_bytes k) ≡ true) × (bytes_eq (string_bytes k) u ≡ true) × (u ≡ string_bytes k)
      × (value_at by_string (put string_cmp L k v) u ≡ Some v))
      ⊎ ((bytes_eq u (string_bytes k) ≡ false) × (bytes_eq (string_bytes k) u ≡ false)
      × (value_at by_string (put string_cmp L k v) u ≡ value_at by_string L u)))
  text_put_cases L k v u = (refl, by (bytes_eq u (string_bytes k)) refl)
    where
      back : bytes_eq (string_bytes k) u ≡ bytes_eq u (string_bytes k)
      back = sym (nat_list_eq_equiv.symm u (string_bytes k))

      found : value_at by_string (put string_cmp L k v) u ≡ cond (bytes_eq u (string_bytes k)) (Some v) (value_at by_string L u)
      found = text_put L k u v ∙ ap (λ b. cond b (Some v) (value_at by_string L u)) (is_eq-slice_cmp u (string_bytes k))

      by : (b : Bool) → bytes_eq u (string_bytes k) ≡ b
          → ((bytes_eq u (string_bytes k) ≡ true) × (bytes_eq (string_bytes k) u ≡ true) × (u ≡ string_bytes k)
          × (value_at by_string (put string_cmp L k v) u ≡ Some v))
          ⊎ ((bytes_eq u (string_bytes k) ≡ false) × (bytes_eq (string_bytes k) u ≡ false)
          × (value_at by_string (put string_cmp L k v) u ≡ value_at by_string L u))
      by true e = inl (e, back ∙ e, (bytes_decides u (string_bytes k)).0 e, found ∙ ap (λ b. cond b (Some v) (value_at by_string L u)) e)
      by false e = inr (e, back ∙ e, found ∙ ap (λ b. cond b (Some v) (value_at by_string L u)) e)

  pub text_write_found : (L : List (String Z × V)) (t : List ℕ) (v : V) → IsSome (at by_string L t) → value_at by_string (write by_string L t v) t ≡ Some v
  text_write_found L t v there = value_at-write by_string t L v there

  pub text_write_others : (L : List (String Z × V)) (t u : List ℕ) (v : V) → u ≢ t → value_at by_string (write by_string L t v) u ≡ value_at by_string L u
  text_write_others L t u v n = write_others (λ k. string_bytes k) L t u v n

  pub text_write_same : (L : List (String Z × V)) (t : List ℕ) (v : V) → Rising string_cmp L → value_at by_string L t ≡ Some v → write by_string L t v ≡ L
  text_write_same L t v r e = write_same text_one_side L t r v e

  -- what a write at an index leaves if a pair is there
  pub text_set_others : (L : List (String Z × V)) (i : ℕ) (u : List ℕ) (p : String Z × V) (v : V) → slice_get L i ≡ Some p → string_bytes p.0 ≢ u
      → value_at by_string (slice_set L i (p.0, v)) u ≡ value_at by_string L u
  text_set_others L i u p v is n = value_at-set by_string u L i p v is (λ e. n (exact_bytes (string_bytes p.0) u e))

  pub text_merged : (A B M : List (String Z × V)) (t : List ℕ) → Merge string_cmp A B M
      → value_at by_string M t ≡ option_or (value_at by_string B t) (value_at by_string A t)
  text_merged A B M t merge = value_at-merged string_cmp string_cmp_total by_string t (same_bytes t) (alike_bytes t) A B M merge

  pub text_left : (A B : List (String Z × V)) (t : List ℕ) → value_at by_string (left string_cmp A B) t
      ≡ cond (is_some (at by_string B t)) (value_at by_string A t) None
  text_left A B t = value_at-left string_cmp string_cmp_total by_string t (same_bytes t) (alike_bytes t) A B

  pub text_list_last : (J M : List (String Z × V)) (t : List ℕ) → Last string_cmp J M → value_at by_string M t ≡ value_at by_string (reverse J) t
  text_list_last J M t last = value_at-last string_cmp string_cmp_total by_string t (same_bytes t) (alike_bytes t) J M last

  pub text_more_last : (L J M : List (String Z × V)) (t : List ℕ) → Last string_cmp (L ++ J) M → Rising string_cmp L
      → value_at by_string M t ≡ option_or (value_at by_string (reverse J) t) (value_at by_string L t)
  text_more_last L J M t last r = value_at-last_of_more string_cmp string_cmp_total by_string t (same_bytes t) (alike_bytes t) L J M last r

  pub text_more_rising : (L J M : List (String Z × V)) (t : List ℕ) → Last string_cmp (L ++ J) M → Rising string_cmp L → Rising string_cmp J
      → value_at by_string M t ≡ option_or (value_at by_string J t) (value_at by_string L t)
  text_more_rising L J M t last r s = value_at-last_of_rising string_cmp string_cmp_total by_string t (same_bytes t) (alike_bytes t) L J M last r s

  pub text_combined : (combine : String Z → V → V → V) (A B M : List (String Z × V)) (t : List ℕ) → Merge string_cmp A (combined string_cmp combine A B) M
      → value_at by_string M t ≡ found_with combine (value_at by_string A t) (at by_string B t)
  text_combined combine A B M t merge = value_at-combined string_cmp string_cmp_total by_string t (same_bytes t) (alike_bytes t) combine A B M merge

  pub text_cut_gone : (L : List (String Z × V)) (t : List ℕ) → value_at by_string (cut by_string L t) t ≡ None
  text_cut_gone L t = value_at-cut by_string t L

  pub text_cut_others : (L : List (String Z × V)) (t u : List ℕ) → u ≢ t → value_at by_string (cut by_string L t) u ≡ value_at by_string L u
  text_cut_others L t u n = cut_others (λ k. string_bytes k) L t u n

  -- ---- `Vec<u8>`, looked up by bytes

  pub byte_write_found : (L : List (Vec ℕ Z × V)) (t : List ℕ) (v : V) → IsSome (at (by_slice nat_cmp) L t)
      → value_at (by_slice nat_cmp) (write (by_slice nat_cmp) L t v) t ≡ Some v
  byte_write_found L t v there = value_at-write (by_slice nat_cmp) t L v there

  pub byte_write_others : (L : List (Vec ℕ Z × V)) (t u : List ℕ) (v : V) → u ≢ t → value_at (by_slice nat_cmp) (write (by_slice nat_cmp) L t v) u
      ≡ value_at (by_slice nat_cmp) L u
  byte_write_others L t u v n = write_others (λ k. k.items) L t u v n

  pub byte_cut_gone : (L : List (Vec ℕ Z × V)) (t : List ℕ) → value_at (by_slice nat_cmp) (cut (by_slice nat_cmp) L t) t ≡ None
  byte_cut_gone L t = value_at-cut (by_slice nat_cmp) t L

  pub byte_cut_others : (L : List (Vec ℕ Z × V)) (t u : List ℕ) → u ≢ t → value_at (by_slice nat_cmp) (cut (by_slice nat_cmp) L t) u
      ≡ value_at (by_slice nat_cmp) L u
  byte_cut_others L t u n = cut_others (λ k. k.items) L t u n

pub ruleset text_keys = (
  text_put_found,
  text_put,
  text_put_others,
  text_write_found,
  text_write_others,
  text_set_others,
  text_cut_gone,
  text_cut_others,
  text_merged,
  text_left,
  value_in-set,
)

pub ruleset texts = (
  text_put_found,
  text_put_others,
  text_write_found,
  text_write_others,
  text_write_same,
  text_cut_gone,
  text_cut_others,
  text_merged,
  text_left,
  key_is_text,
)

pub ruleset text_lists = (text_list_last, text_more_last, text_more_rising)

pub ruleset byte_keys = (byte_write_found, byte_write_others, byte_cut_gone, byte_cut_others, value_in-set)

-- a clone of a string has its bytes
pub text_clone_equal : {Z : Type 0} (text clone : String Z) → string_bytes clone ≡ string_bytes text → string_cmp text clone ≡ Equal
text_clone_equal text clone e = rw e (tied_itself string_cmp_total text)

pub ruleset text_clones = (text_clone_equal)
