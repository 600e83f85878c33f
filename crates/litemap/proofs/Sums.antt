-- Sums of values that are numbers, after a change of an ascending list. A premise has the list M that is left.
--     key_put_sum, key_cut_sum, key_write_sum      by keys;  text_cut_sum, text_write_sum      by strings
--     found_below_sum      a value that is found is at most the sum
--     signed_sums      the same of signed numbers, with `int_sum`, and that such a number is what its bits are
use Rattle.litemap.proofs.Common.{◌≡◌, ◌∙◌, ◌∷◌, ◌+◌, ◌++◌, ◌≤◌, ℕ, ℤ, [], List, Option, None, Some, String, true, false, ap, arith, cond, fold, is_eq}
use Rattle.litemap.proofs.Common.{option_map, option_map_or, refl, sym, unwrap_or}
use Rattle.litemap.proofs.Common.{Ordering, IsTotalOrder, Rising, above, at, below, cut, key_or, put, value_at, write}
use Rattle.litemap.proofs.Common.{string_cmp}
use Rattle.std.proofs.Common.{◌+ℤ◌, add_assoc, add_comm, pos, sum, zero-add}
use Rattle.std.proofs.Math.IntN.{+ℤ_assoc, +ℤ_comm, +ℤ_idl}
use Rattle.std.specs.Map.{values_of}
use Rattle.std.proofs.lemmas.Int.{ints, to_z-of_z}
use Rattle.std.proofs.lemmas.List.Sums.{sum_by-cons}
use Rattle.litemap_store.specs.Queries.{OneSide, by_string, key_one_side}
use Rattle.litemap_store.proofs.Names.{cons_option}
use Rattle.litemap_store.proofs.Search.Splitting.{parted}
use Rattle.litemap.specs.Words.{int_sum}
use Rattle.litemap.proofs.Texts.{text_one_side}

-- the laws of an addition
record IsAddition {V : Type 0} (add : V → V → V) (none : V) : Type 0 where
  assoc : (a b c : V) → add (add a b) c ≡ add a (add b c)
  comm : (a b : V) → add a b ≡ add b a
  none_left : (a : V) → add none a ≡ a

natural : IsAddition ◌+◌ 0
natural = record { assoc = add_assoc; comm = add_comm; none_left = zero-add }

signed : IsAddition ◌+ℤ◌ (pos 0)
signed = record { assoc = +ℤ_assoc; comm = +ℤ_comm; none_left = +ℤ_idl }

module _ {V : Type 0} {◌⊕◌ : V → V → V} {none : V} (laws : IsAddition ◌⊕◌ none) where
  infixl 20 ◌⊕◌
  fold_from : (a : V) (L : List V) → fold ◌⊕◌ a L ≡ a ⊕ fold ◌⊕◌ none L
  fold_from a [] = sym (laws.none_left a) ∙ laws.comm none a
  fold_from a (x ∷ L) =
      let rest = fold ◌⊕◌ none L in
      fold_from (a ⊕ x) L ∙ laws.assoc a x rest
      ∙ ap (λ r. a ⊕ r) (ap (λ y. y ⊕ rest) (sym (laws.none_left x)) ∙ sym (fold_from (none ⊕ x) L))

  swapped : (a b c : V) → (a ⊕ b) ⊕ c ≡ (a ⊕ c) ⊕ b
  swapped a b c = laws.assoc a b c ∙ ap (λ r. a ⊕ r) (laws.comm b c) ∙ sym (laws.assoc a c b)

  module _ {K : Type 0} where
    abbrev total : List (K × V) → V
    total L = fold ◌⊕◌ none (values_of L)

    -- the number that is found, or none
    abbrev number : Option (K × V) → V
    number o = unwrap_or (option_map (λ p. p.1) o) none

    total-cons : (p : K × V) (L : List (K × V)) → total (p ∷ L) ≡ p.1 ⊕ total L
    total-cons p L = fold_from (none ⊕ p.1) (values_of L) ∙ ap (λ x. x ⊕ total L) (laws.none_left p.1)

    total-append : (A B : List (K × V)) → total (A ++ B) ≡ total A ⊕ total B
    total-append [] B = sym (laws.none_left (total B))
    total-append (p ∷ A) B =
        total-cons p (A ++ B) ∙ ap (λ r. p.1 ⊕ r) (total-append A B) ∙ sym (laws.assoc p.1 (total A) (total B))
        ∙ ap (λ x. x ⊕ total B) (sym (total-cons p A))

    total-parts : (A B : List (K × V)) (o : Option (K × V)) → total (A ++ cons_option o B) ≡ total (A ++ B) ⊕ number o
    total-parts A B None = sym (laws.none_left (total (A ++ B))) ∙ laws.comm none (total (A ++ B))
    total-parts A B (Some p) =
        total-append A (p ∷ B) ∙ ap (λ r. total A ⊕ r) (total-cons p B ∙ laws.comm p.1 (total B)) ∙ sym (laws.assoc (total A) (total B) p.1)
        ∙ ap (λ x. x ⊕ p.1) (sym (total-append A B))

    module _ {Q : Type 0} {cmp : K → K → Ordering} {order : K → Q → Ordering} (one : OneSide cmp order) (L : List (K × V)) (q : Q) (r : Rising cmp L) where
      total-cut : total (cut order L q) ⊕ number (at order L q) ≡ total L
      total-cut = sym (ap total (parted one L q r) ∙ total-parts (below order L q) (above order L q) (at order L q))

      total-over : (p : K × V) → total (below order L q ++ p ∷ above order L q) ⊕ number (at order L q) ≡ total L ⊕ p.1
      total-over p =
          ap (λ x. x ⊕ number (at order L q)) (total-parts (below order L q) (above order L q) (Some p))
          ∙ swapped (total (cut order L q)) p.1 (number (at order L q)) ∙ ap (λ x. x ⊕ p.1) total-cut

      total-write : (v w : V) → value_at order L q ≡ Some w → total (write order L q v) ⊕ w ≡ total L ⊕ v
      total-write v w e = by (at order L q) refl
        where
          by : (a : Option (K × V)) → at order L q ≡ a → total (option_map_or (λ p. below order L q ++ (p.0, v) ∷ above order L q) (at order L q) L) ⊕ w
              ≡ total L ⊕ v
          by None f = let g : None ≡ Some w = sym (ap (option_map (λ p. p.1)) f) ∙ e in absurd (cc)
          by (Some p) f =
              let g : number (at order L q) ≡ w = ap (λ o. unwrap_or o none) e in
              rw f (ap (λ x. total (below order L q ++ (p.0, v) ∷ above order L q) ⊕ x) (sym g) ∙ total-over (p.0, v))

module _ {K : Type 0} {cmp : K → K → Ordering} where
  pub key_put_sum : (L M : List (K × ℕ)) (k : K) (v : ℕ) → IsTotalOrder cmp → Rising cmp L → M ≡ put cmp L k v
      → sum (values_of M) + unwrap_or (value_at cmp L k) 0 ≡ sum (values_of L) + v
  key_put_sum L M k v o r e = rw e (total-over natural (key_one_side o) L k r (key_or (at cmp L k) k, v))

  pub key_cut_sum : (L M : List (K × ℕ)) (k : K) → IsTotalOrder cmp → Rising cmp L → M ≡ cut cmp L k
      → sum (values_of M) + unwrap_or (value_at cmp L k) 0 ≡ sum (values_of L)
  key_cut_sum L M k o r e = rw e (total-cut natural (key_one_side o) L k r)

  pub key_write_sum : (L M : List (K × ℕ)) (k : K) (v w : ℕ) → IsTotalOrder cmp → Rising cmp L → M ≡ write cmp L k v → value_at cmp L k ≡ Some w
      → sum (values_of M) + w ≡ sum (values_of L) + v
  key_write_sum L M k v w o r e f = rw e (total-write natural (key_one_side o) L k r v w f)

  -- ---- of signed numbers
  pub signed_put_sum : (L M : List (K × ℤ)) (k : K) (v : ℤ) → IsTotalOrder cmp → Rising cmp L → M ≡ put cmp L k v
      → int_sum (values_of M) +ℤ unwrap_or (value_at cmp L k) (pos 0) ≡ int_sum (values_of L) +ℤ v
  signed_put_sum L M k v o r e = rw e (total-over signed (key_one_side o) L k r (key_or (at cmp L k) k, v))

  pub signed_cut_sum : (L M : List (K × ℤ)) (k : K) → IsTotalOrder cmp → Rising cmp L → M ≡ cut cmp L k
      → int_sum (values_of M) +ℤ unwrap_or (value_at cmp L k) (pos 0) ≡ int_sum (values_of L)
  signed_cut_sum L M k o r e = rw e (total-cut signed (key_one_side o) L k r)

  pub signed_write_sum : (L M : List (K × ℤ)) (k : K) (v w : ℤ) → IsTotalOrder cmp → Rising cmp L → M ≡ write cmp L k v → value_at cmp L k ≡ Some w
      → int_sum (values_of M) +ℤ w ≡ int_sum (values_of L) +ℤ v
  signed_write_sum L M k v w o r e f = rw e (total-write signed (key_one_side o) L k r v w f)

module _ {Z : Type 0} where
  pub text_cut_sum : (L M : List (String Z × ℕ)) (t : List ℕ) → Rising string_cmp L → M ≡ cut by_string L t
      → sum (values_of M) + unwrap_or (value_at by_string L t) 0 ≡ sum (values_of L)
  text_cut_sum L M t r e = rw e (total-cut natural text_one_side L t r)

  pub text_write_sum : (L M : List (String Z × ℕ)) (t : List ℕ) (v w : ℕ) → Rising string_cmp L → M ≡ write by_string L t v → value_at by_string L t ≡ Some w
      → sum (values_of M) + w ≡ sum (values_of L) + v
  text_write_sum L M t v w r e f = rw e (total-write natural text_one_side L t r v w f)

-- a value that is found is at most the sum
pub found_below_sum : {K Q : Type 0} (order : K → Q → Ordering) (L : List (K × ℕ)) (q : Q) (v : ℕ) → value_at order L q ≡ Some v → v ≤ sum (values_of L)
found_below_sum order [] q v e = absurd (cc)
found_below_sum {K} order (p ∷ L) q v e = by (is_eq (order p.0 q)) e (found_below_sum order L q v)
  where
    more : sum (values_of (p ∷ L)) ≡ p.1 + sum (values_of L)
    more = sum_by-cons (λ (n : ℕ). n) p.1 (values_of L)

    by : (c : _) → option_map (λ x. x.1) (cond c (Some p) (at order L q)) ≡ Some v → (value_at order L q ≡ Some v → v ≤ sum (values_of L))
        → v ≤ sum (values_of (p ∷ L))
    by true f rest = let g : p.1 ≡ v = ap (λ o. unwrap_or o 0) f in omega (arith, g, more)
    by false f rest = omega (arith, rest f, more)

pub ruleset sums = (key_put_sum, key_cut_sum, key_write_sum, text_cut_sum, text_write_sum, found_below_sum)

pub ruleset signed_sums = (signed_put_sum, signed_cut_sum, signed_write_sum, ints, to_z-of_z)
