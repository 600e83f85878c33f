-- For callers with a loop.
--     text_counts      counts and sums for each string: what lookups find once a string has been put, and std's lemmas on the list so
--                      far. The invariant says it of all strings, with `bytes_eq` as the test
--     text_groups      lists at strings, by a call that says what one string finds, and that all others stay
--     number_sums      the number that a key finds, as a sum over the list: in a loop over one map that changes another
use Rattle.std.proofs.Common.{◌⊎◌, Bool, [], bytes_eq, if◌then◌else◌, nat_eq, sum_by}
use Rattle.std.proofs.lemmas.Grind.{take_at_read}
use Rattle.std.proofs.lemmas.List.{append-nil, map-append}
use Rattle.std.proofs.lemmas.List.Elements.{filter-append}
use Rattle.std.proofs.lemmas.List.Sums.{count_by-le-length, fold_more, fold_push, sum_by-cons, sum_by_from, sum_by_more_le, sum_by_more_le_part}
use Rattle.std.proofs.lemmas.Map.Lookups.{exact_unsigned}
use Rattle.std.specs.Cmp.Lexicographic.{bytes_decides}
use Rattle.litemap.proofs.Common.{◌≡◌, ◌≢◌, ◌∙◌, ◌+◌, ◌∷◌, ℕ, List, None, Some, Ordering, Less, Equal, Greater, Rising, ap, arith, false, inl, inr, is_eq}
use Rattle.litemap.proofs.Common.{nat_cmp, nat_cmp_total, refl, rules, subst, sym, tied_itself, true, unwrap_or, value_at}
use Rattle.litemap.proofs.Keys.{key_first_only}
use Rattle.litemap.proofs.Texts.{text_put_cases}

pub ruleset text_counts = (text_put_cases, fold_more, fold_push, sum_by_more_le, sum_by_more_le_part, count_by-le-length)

-- two strings are one, or they differ
pub text_cases : (t u : List ℕ) → (bytes_eq t u ≡ bytes_eq t u) × (((bytes_eq t u ≡ true) × (t ≡ u)) ⊎ ((bytes_eq t u ≡ false) × (t ≢ u)))
text_cases t u = (refl, by (bytes_eq t u) refl)
  where
    by : (b : Bool) → bytes_eq t u ≡ b → ((bytes_eq t u ≡ true) × (t ≡ u)) ⊎ ((bytes_eq t u ≡ false) × (t ≢ u))
    by true e = inl (e, (bytes_decides t u).0 e)
    by false e = inr (e, λ s. let y : bytes_eq t u ≡ true = (bytes_decides t u).1 s in absurd (cc))

pub ruleset text_groups = (text_cases, take_at_read, filter-append, map-append, append-nil)

same_test : (k q : ℕ) → is_eq (nat_cmp k q) ≡ nat_eq q k
same_test k q = search rules

-- L is the list with p in front of M
module _ {V : Type 0} (L M : List (ℕ × V)) (p : ℕ × V) (q : ℕ) where
  abbrev ByFirst : Type 0
  ByFirst =
      ((q ≡ p.0) × (nat_eq q p.0 ≡ true) × (value_at nat_cmp M q ≡ None) × (value_at nat_cmp L q ≡ Some p.1))
      ⊎ ((q ≢ p.0) × (nat_eq q p.0 ≡ false) × (value_at nat_cmp M q ≡ value_at nat_cmp L q))

  number_first : L ≡ p ∷ M → Rising nat_cmp L → ByFirst
  number_first e r = by (nat_cmp p.0 q) refl (same_test p.0 q) (subst (Rising nat_cmp) e r) (ap (λ x. value_at nat_cmp x q) e)
    where
      apart : (c : Ordering) → nat_cmp p.0 q ≡ c → c ≢ Equal → q ≢ p.0
      apart c t n f = n (sym t ∙ ap (λ x. nat_cmp x q) (sym f) ∙ tied_itself nat_cmp_total q)

      by : (c : Ordering) → nat_cmp p.0 q ≡ c → is_eq (nat_cmp p.0 q) ≡ nat_eq q p.0 → Rising nat_cmp (p ∷ M)
          → value_at nat_cmp L q ≡ value_at nat_cmp (p ∷ M) q → ByFirst
      by Equal c s r v =
          let same : p.0 ≡ q = exact_unsigned p.0 q c in
          let none : value_at nat_cmp M p.0 ≡ None = key_first_only M p.0 nat_cmp_total r.0 in
          let first : value_at nat_cmp (p ∷ M) q ≡ Some p.1 = rw c refl in
          inl (sym same, sym s ∙ ap is_eq c, ap (λ x. value_at nat_cmp M x) (sym same) ∙ none, v ∙ first)
      by Less c s r v =
          let later : value_at nat_cmp (p ∷ M) q ≡ value_at nat_cmp M q = rw c refl in
          inr (apart Less c (λ f. absurd (cc)), sym s ∙ ap is_eq c, sym (v ∙ later))
      by Greater c s r v =
          let later : value_at nat_cmp (p ∷ M) q ≡ value_at nat_cmp M q = rw c refl in
          inr (apart Greater c (λ f. absurd (cc)), sym s ∙ ap is_eq c, sym (v ∙ later))

number_first_sum : (L M : List (ℕ × ℕ)) (p : ℕ × ℕ) (q : ℕ) → L ≡ p ∷ M → Rising nat_cmp L
    → unwrap_or (value_at nat_cmp L q) 0 ≡ unwrap_or (value_at nat_cmp M q) 0 + (if nat_eq q p.0 then p.1 else 0)
number_first_sum L M p q e r = by (number_first L M p q e r)
  where
    by : ByFirst L M p q → unwrap_or (value_at nat_cmp L q) 0 ≡ unwrap_or (value_at nat_cmp M q) 0 + (if nat_eq q p.0 then p.1 else 0)
    by (inl (a, b, c, d)) = rw (b, c, d) (omega arith)
    by (inr (a, b, c)) = rw (b, c) (omega arith)

pub found_sum : (L : List (ℕ × ℕ)) (q : ℕ) → Rising nat_cmp L
    → unwrap_or (value_at nat_cmp L q) 0 ≡ sum_by (λ p. if nat_eq q p.0 then p.1 else 0) L
found_sum [] q r = refl
found_sum (p ∷ L) q r =
    omega (arith, number_first_sum (p ∷ L) L p q refl r, found_sum L q r.1, sum_by-cons (λ (x : ℕ × ℕ). if nat_eq q x.0 then x.1 else 0) p L)

pub ruleset number_sums = (found_sum, sum_by_from)
