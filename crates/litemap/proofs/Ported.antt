-- For code written for std's maps, whose clauses compare whole lists, name std's sorted list of keys, or look up by an equality. Such a
-- crate names this set atop its root, beside that of `All`.
--     equal_lists      `==` of two maps decides whether their lists are equal, if `==` does so of keys and of values
--     keys_sorted      number keys as std's sorted list;  found_contained      the pair that a query finds is in the list
--     key_set_there      what the key of the pair at an index finds, after a write there
--     number_new_sum      the sum after a new number was put;  key_found      what an equality of keys of any type finds
use Rattle.std.proofs.Common.{◌≡◌, ◌∙◌, ◌&&◌, ◌+◌, ◌∷◌, [], ℕ, Bool, Bor, Contains, IfSome, List, None, Option, Ordering, Some, ap, arith, nat_cmp, nat_eq}
use Rattle.std.proofs.Common.{option_map, refl, slice_get, slice_set, suc, sum, sym, unwrap_or, zero}
use Rattle.std.specs.Cmp.{IsTotalOrder, first_so, nat_cmp_total, second_so, unsigned_Decides}
use Rattle.std.specs.List.Sorted.{IsSorted}
use Rattle.std.specs.Map.{keys_of, lookup, values_of}
use Rattle.std.specs.Map.Iter.{deref_pair}
use Rattle.std.specs.Prelude.{Decides}
use Rattle.std.proofs.lemmas.Map.Keys.{Less-from_sorted}
use Rattle.std.proofs.lemmas.Slice.Eq.{slice_eq-Decides}
use Rattle.litemap_store.specs.Pairs.{Rising, at, put, set_value, value_at}
use Rattle.litemap_store.proofs.Search.Splitting.{Rising-set_value, at_in}
use Rattle.litemap.specs.Comparisons.{equal_pairs}
use Rattle.litemap.proofs.Hashed.{key_found, number_found}
use Rattle.litemap.proofs.Keys.{key_index_found}
use Rattle.litemap.proofs.StdMaps.{Contains-from_In, sorted_from_Rising}
use Rattle.litemap.proofs.Sums.{key_put_sum}

module _ {K V : Type 0} {E : K → K → Bool} {F : V → V → Bool} (keys : (x y : K) → Decides (E x y) (x ≡ y))
    (values : (x y : V) → Decides (F x y) (x ≡ y)) where
  equal_pair : (p q : K × V) → Decides (E p.0 q.0 && F p.1 q.1) (p ≡ q)
  equal_pair p q = (
    (λ e i. ((keys p.0 q.0).0 (first_so _ (F p.1 q.1) e) i, (values p.1 q.1).0 (second_so (E p.0 q.0) _ e) i)),
    λ e i. (keys p.0 q.0).1 (ap (λ u. u.0) e) i && (values p.1 q.1).1 (ap (λ u. u.1) e) i,
  )

  pub equal_lists : (A B : List (K × V)) (b : Bool) → b ≡ equal_pairs E F A B → Decides b (A ≡ B)
  equal_lists A B b e = slice_eq-Decides equal_pair A B b e

pub keys_sorted : {V : Type 0} (L : List (ℕ × V)) → Rising nat_cmp L → IsSorted nat_cmp (keys_of L)
keys_sorted L r = λ k d l h.
    let e = Less-from_sorted nat_cmp (keys_of L) k (k + 1) d (sorted_from_Rising nat_cmp L r) (omega arith) h in
    grind (arith, e)

pub found_contained : {K Q V : Type 0} (order : K → Q → Ordering) (L : List (K × V)) (q : Q) (r : Option (K × V)) → r ≡ at order L q
    → IfSome r (Contains L)
found_contained order L q None e = tt
found_contained order L q (Some p) e = Contains-from_In L p (at_in order L q p (sym e)).0

set_there : {X : Type 0} (L : List X) (i : ℕ) (p q : X) → slice_get L i ≡ Some p → slice_get (slice_set L i q) i ≡ Some q
set_there [] i p q e = absurd (cc)
set_there (x ∷ L) zero p q e = refl
set_there (x ∷ L) (suc i) p q e = set_there L i p q e

pub key_set_there : {K V : Type 0} {cmp : K → K → Ordering} (L : List (K × V)) (i : ℕ) (r : Option (Bor K × Bor V)) (p : Bor K × Bor V) (v : V)
    → IsTotalOrder cmp → Rising cmp L → option_map deref_pair r ≡ slice_get L i → r ≡ Some p → value_at cmp (set_value L i v) p.0.now ≡ Some v
key_set_there {cmp = cmp} L i r p v o rising e is =
    let f : slice_get L i ≡ Some (deref_pair p) = sym e ∙ ap (option_map deref_pair) is in
    let g : slice_get (set_value L i v) i ≡ Some (p.0.now, v) = rw f (set_there L i (deref_pair p) (p.0.now, v) f) in
    key_index_found (set_value L i v) i p.0.now v o (Rising-set_value cmp L i v rising) g

pub number_new_sum : (L M : List (ℕ × ℕ)) (k v : ℕ) → Rising nat_cmp L → M ≡ put nat_cmp L k v → lookup (nat_eq k) L ≡ None
    → sum (values_of M) ≡ sum (values_of L) + v
number_new_sum L M k v r e n =
    let new : unwrap_or (value_at nat_cmp L k) 0 ≡ 0 = ap (λ a. unwrap_or a 0) (sym (number_found L k) ∙ n) in
    omega (arith, new, key_put_sum L M k v nat_cmp_total r e)

pub ruleset ported = (equal_lists, unsigned_Decides, keys_sorted, found_contained, key_set_there, number_new_sum, key_found)
