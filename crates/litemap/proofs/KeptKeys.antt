-- The keys after a change of one pair.
--     keys_of-set_value      after a write at an index, which keeps them;  keys_of-cut      after a removal
--     remove_key_number      std's `remove_key` by equality of numbers
--     among_in      the value at an index is one of the map's
use Rattle.litemap.proofs.Common.{◌≡◌, ◌∙◌, ◌∷◌, [], ℕ, Bool, List, None, Option, Ordering, Rising, Some, ap, arith, cond, cut, is_eq, keys_of}
use Rattle.litemap.proofs.Common.{nat_cmp, option_map_or, refl, rules, set_value, slice_get, slice_set, suc, sym, value_in, zero, true, false}
use Rattle.std.proofs.Common.{IfSome, nat_eq}
use Rattle.std.specs.List.{IsAmong}
use Rattle.std.specs.Map.{remove_entry, values_of}
use Rattle.std.specs.Set.{remove_key}
use Rattle.litemap_store.specs.Queries.{OneSide}
use Rattle.litemap.proofs.StdMaps.{cut-remove_entry}

module _ {K V : Type 0} where
  slice_set-keys : (L : List (K × V)) (i : ℕ) (p q : K × V) → slice_get L i ≡ Some p → q.0 ≡ p.0 → keys_of (slice_set L i q) ≡ keys_of L
  slice_set-keys [] i p q e h = refl
  slice_set-keys (x ∷ L) zero p q e h = let f : x ≡ p = cc in ap (λ k. k ∷ keys_of L) (h ∙ sym (ap (λ y. y.0) f))
  slice_set-keys (x ∷ L) (suc i) p q e h = ap (λ M. x.0 ∷ M) (slice_set-keys L i p q e h)

  pub keys_of-set_value : (L : List (K × V)) (i : ℕ) (v : V) → keys_of (set_value L i v) ≡ keys_of L
  keys_of-set_value L i v = by (slice_get L i) refl
    where
      by : (o : Option (K × V)) → slice_get L i ≡ o → keys_of (option_map_or (λ p. slice_set L i (p.0, v)) o L) ≡ keys_of L
      by None e = refl
      by (Some p) e = slice_set-keys L i p (p.0, v) e refl

  keys_of-remove_entry : (test : K → Bool) (L : List (K × V)) → keys_of (remove_entry test L) ≡ remove_key test (keys_of L)
  keys_of-remove_entry test [] = refl
  keys_of-remove_entry test (p ∷ L) =
      elim (test p.0) as (λ b. keys_of (cond b L (p ∷ remove_entry test L)) ≡ cond b (keys_of L) (p.0 ∷ remove_key test (keys_of L)))
      [ true ↦ refl | false ↦ ap (λ M. p.0 ∷ M) (keys_of-remove_entry test L) ]

  pub among_in : (L : List (K × V)) (i : ℕ) → IfSome (value_in L i) (IsAmong (values_of L))
  among_in [] i = tt
  among_in (p ∷ L) zero = (0, (omega arith, refl))
  among_in (p ∷ L) (suc i) = later (value_in L i) (among_in L i)
    where
      later : (o : Option V) → IfSome o (IsAmong (values_of L)) → IfSome o (IsAmong (values_of (p ∷ L)))
      later None h = tt
      later (Some v) h = (suc h.0, (omega (arith, h.1.0), h.1.1))

pub keys_of-cut : {K Q V : Type 0} {cmp : K → K → Ordering} {order : K → Q → Ordering} → OneSide cmp order → (q : Q) (L : List (K × V)) → Rising cmp L
    → keys_of (cut order L q) ≡ remove_key (λ k. is_eq (order k q)) (keys_of L)
keys_of-cut {order = order} one q L r = ap keys_of (cut-remove_entry one L q r) ∙ keys_of-remove_entry (λ k. is_eq (order k q)) L

same_test : (k q : ℕ) → is_eq (nat_cmp k q) ≡ nat_eq q k
same_test k q = search rules

-- std's `remove_key` by equality of numbers
pub remove_key_number : (q : ℕ) (ks : List ℕ) → remove_key (λ k. is_eq (nat_cmp k q)) ks ≡ remove_key (nat_eq q) ks
remove_key_number q [] = refl
remove_key_number q (k ∷ ks) = rw (same_test k q) (ap (λ M. cond (nat_eq q k) ks (k ∷ M)) (remove_key_number q ks))
