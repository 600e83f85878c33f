-- The decimal digits of numbers, compared as strings.
use Rattle.std.proofs.Common.{◌≡◌, ℕ, zero, suc, ◌+◌, ◌-◌, ◌*◌, ◌/◌, ◌%◌, ◌^◌, ◌<◌, ◌≤◌, List, [], ◌∷◌, ◌++◌, length, decimal, nat_cmp, true, Ordering, Less}
use Rattle.std.proofs.Common.{Equal, Greater, Option, None, Some, IfNone, IfSome, unwrap_or, refl, sym, ap, ◌∙◌, arith}
use Rattle.std.proofs.Math.Nat.{add-mul, mul-le-mul_right, mul_assoc, mul_comm, mul-one, one-le-pow, one-mul, pow-suc, pow-zero}
use Rattle.std.proofs.lemmas.Cmp.{by_ranked, ranked}
use Rattle.std.proofs.lemmas.Fmt.{decimal_by_steps, decimal_digit, length-decimal-le}
use Rattle.std.proofs.lemmas.List.{length-append}
use Rattle.std.specs.Cmp.{nat_cmp_is}
use Rattle.std.specs.Cmp.Lexicographic.{slice_cmp}
use Rattle.std.specs.Ordering.{MatchOrdering, is_ne, ordering_then}
use Rattle.litemap_json.specs.Digits.{first_digits}

abbrev AreDigits : List ℕ → Type 0
AreDigits [] = Unit {0}
AreDigits (c ∷ s) = (48 ≤ c) × (c ≤ 57) × AreDigits s

-- the number of digits that zeros fill up to this many
abbrev filled : List ℕ → ℕ → ℕ
filled [] m = 0
filled (c ∷ s) zero = 0
filled (c ∷ s) (suc k) = (c - 48) * 10 ^ k + filled s k

below : (a b t p q : ℕ) → a < b → p < t → a * t + p < b * t + q
below a b t p q h l =
    let more : (a + 1) * t ≤ b * t = mul-le-mul_right t (omega (arith, h)) in
    omega (arith, more, l, add-mul a 1 t, one-mul t)

filled-below : (s : List ℕ) (m : ℕ) → AreDigits s → length s ≤ m → filled s m < 10 ^ m
filled-below [] m d l = let some = one-le-pow m 10 (omega arith) in omega (arith, some)
filled-below (c ∷ s) zero d l = absurd (omega (arith, l))
filled-below (c ∷ s) (suc k) d l =
    let rest = filled-below s k d.2 (omega (arith, l)) in
    let all = below (c - 48) 10 (10 ^ k) (filled s k) 0 (omega (arith, d.0, d.1)) rest in
    omega (arith, all, pow-suc 10 k)

shifted : (c p q a b : ℕ) → a ≡ c + p → b ≡ c + q → nat_cmp a b ≡ nat_cmp p q
shifted c p q a b e f = sym (nat_cmp_is a b (nat_cmp p q) (go (nat_cmp p q) (ranked p q (nat_cmp p q) refl)))
  where
    go : (o : Ordering) → MatchOrdering o (p < q) (p ≡ q) (q < p) → MatchOrdering o (a < b) (a ≡ b) (b < a)
    go Less h = omega (arith, h, e, f)
    go Equal h = omega (arith, h, e, f)
    go Greater h = omega (arith, h, e, f)

-- Filled up they compare as numbers. If these are equal, the shorter ones come first.
order : (s t : List ℕ) (m : ℕ) → AreDigits s → AreDigits t → length s ≤ m → length t ≤ m
    → slice_cmp nat_cmp s t ≡ ordering_then (nat_cmp (filled s m) (filled t m)) (nat_cmp (length s) (length t))
order [] [] m d e k l = refl
order [] (y ∷ t) m d e k l = first (filled (y ∷ t) m)
  where
    first : (x : ℕ) → Less ≡ ordering_then (nat_cmp 0 x) (nat_cmp 0 (suc (length t)))
    first zero = let less : nat_cmp 0 (suc (length t)) ≡ Less = sym (nat_cmp_is 0 (suc (length t)) Less (omega arith)) in rw less refl
    first (suc x) = let less : nat_cmp 0 (suc x) ≡ Less = sym (nat_cmp_is 0 (suc x) Less (omega arith)) in rw less refl
order (x ∷ s) [] m d e k l = first (filled (x ∷ s) m)
  where
    first : (y : ℕ) → Greater ≡ ordering_then (nat_cmp y 0) (nat_cmp (suc (length s)) 0)
    first zero = let more : nat_cmp (suc (length s)) 0 ≡ Greater = sym (nat_cmp_is (suc (length s)) 0 Greater (omega arith)) in rw more refl
    first (suc y) = let more : nat_cmp (suc y) 0 ≡ Greater = sym (nat_cmp_is (suc y) 0 Greater (omega arith)) in rw more refl
order (x ∷ s) (y ∷ t) zero d e k l = absurd (omega (arith, k))
order (x ∷ s) (y ∷ t) (suc k) d e a b =
    let p = filled s k in
    let q = filled t k in
    let left = (x - 48) * 10 ^ k + p in
    let right = (y - 48) * 10 ^ k + q in
    by_ranked (x < y) (x ≡ y) (y < x) (nat_cmp x y) (ranked x y (nat_cmp x y) refl)
    (λ is h. let less : nat_cmp left right ≡ Less = sym
    (nat_cmp_is left right Less (below (x - 48) (y - 48) (10 ^ k) p q (omega (arith, h, d.0)) (filled-below s k d.2 (omega (arith, a))))) in
    rw (is, less) refl)
    (λ is h. let same : nat_cmp left right ≡ nat_cmp p q = shifted ((x - 48) * 10 ^ k) p q left right refl (ap (λ z. (z - 48) * 10 ^ k + q) (sym h)) in
    let long : nat_cmp (suc (length s)) (suc (length t)) ≡ nat_cmp (length s) (length t) =
    shifted 1 (length s) (length t) (suc (length s)) (suc (length t)) (omega arith) (omega arith) in
    rw (is, same, long) (order s t k d.2 e.2 (omega (arith, a)) (omega (arith, b))))
    (λ is h. let more : nat_cmp left right ≡ Greater = sym
    (nat_cmp_is left right Greater (below (y - 48) (x - 48) (10 ^ k) q p (omega (arith, h, e.0)) (filled-below t k e.2 (omega (arith, b))))) in
    rw (is, more) refl)

filled-append : (s : List ℕ) (c m : ℕ) → length s < m → filled (s ++ c ∷ []) m ≡ filled s m + (c - 48) * 10 ^ (m - length s - 1)
filled-append s c zero l = absurd (omega (arith, l))
filled-append [] c (suc k) l = let e : suc k - 0 - 1 ≡ k = omega arith in rw e (omega arith)
filled-append (x ∷ s) c (suc k) l =
    let e : suc k - suc (length s) - 1 ≡ k - length s - 1 = omega arith in
    rw e (omega (arith, filled-append s c k (omega (arith, l))))

-- what is known of the digits of a number
record DigitsOf (n : ℕ) (ds : List ℕ) : Type 0 where
  digits : AreDigits ds
  value : (m : ℕ) → length ds ≤ m → filled ds m ≡ n * 10 ^ (m - length ds)
  long : (d : ℕ) → 10 ^ d ≤ n → n < 10 * 10 ^ d → length ds ≡ d + 1

one : (n : ℕ) → n < 10 → DigitsOf n ((48 + n) ∷ [])
one n h = record { digits = (omega arith, omega (arith, h), tt); value = by_value; long = by_long }
  where
    by_value : (m : ℕ) → 1 ≤ m → filled ((48 + n) ∷ []) m ≡ n * 10 ^ (m - 1)
    by_value zero l = absurd (omega (arith, l))
    by_value (suc k) l =
        let e : 48 + n - 48 ≡ n = omega arith in
        let f : suc k - 1 ≡ k = omega arith in
        rw (e, f) (omega arith)

    by_long : (d : ℕ) → 10 ^ d ≤ n → n < 10 * 10 ^ d → 1 ≡ d + 1
    by_long zero l u = refl
    by_long (suc d) l u = absurd (omega (arith, l, h, pow-suc 10 d, one-le-pow d 10 (omega arith)))

more : (n : ℕ) (ds : List ℕ) → 10 ≤ n → DigitsOf (n / 10) ds → DigitsOf n (ds ++ (48 + n % 10) ∷ [])
more n ds h of = record { digits = by_digits ds of.digits; value = by_value; long = by_long }
  where
    by_digits : (s : List ℕ) → AreDigits s → AreDigits (s ++ (48 + n % 10) ∷ [])
    by_digits [] d = (omega arith, omega arith, tt)
    by_digits (c ∷ s) d = (d.0, d.1, by_digits s d.2)

    by_value : (m : ℕ) → length (ds ++ (48 + n % 10) ∷ []) ≤ m → filled (ds ++ (48 + n % 10) ∷ []) m ≡ n * 10 ^ (m - length (ds ++ (48 + n % 10) ∷ []))
    by_value m l =
        let long = length-append ds ((48 + n % 10) ∷ []) in
        let j = m - length ds - 1 in
        let e : m - length (ds ++ (48 + n % 10) ∷ []) ≡ j = omega (arith, long, l) in
        let f : m - length ds ≡ suc j = omega (arith, long, l) in
        let g : 48 + n % 10 - 48 ≡ n % 10 = omega arith in
        let front : filled ds m ≡ n / 10 * (10 ^ j * 10) =
        of.value m (omega (arith, long, l)) ∙ ap (λ i. n / 10 * 10 ^ i) f ∙ ap (λ t. n / 10 * t) (pow-suc 10 j) in
        let whole : n ≡ n / 10 * 10 + n % 10 = omega arith in
        filled-append ds (48 + n % 10) m (omega (arith, long, l)) ∙ rw (front, g, e) (parts (n / 10) (n % 10) n (10 ^ j) whole)
      where
        parts : (a b c t : ℕ) → c ≡ a * 10 + b → a * (t * 10) + b * t ≡ c * t
        parts a b c t e = ap (λ x. a * x + b * t) (mul_comm t 10) ∙ ap (λ x. x + b * t) (sym (mul_assoc a 10 t)) ∙ sym (add-mul (a * 10) b t)
            ∙ ap (λ x. x * t) (sym e)

    by_long : (d : ℕ) → 10 ^ d ≤ n → n < 10 * 10 ^ d → length (ds ++ (48 + n % 10) ∷ []) ≡ d + 1
    by_long zero l u = absurd (omega (arith, h, u, pow-zero 10))
    by_long (suc d) l u =
        let step = pow-suc 10 d in
        omega (arith, length-append ds ((48 + n % 10) ∷ []), of.long d (omega (arith, l, step)) (omega (arith, u, step)))

digits_of : (n : ℕ) → n < 2 ^ 64 → DigitsOf n (decimal n)
digits_of = decimal_by_steps DigitsOf one more

pub length-decimal : (n : ℕ) (d : Option ℕ) → n < 2 ^ 64 → IfNone d (n ≡ 0) → IfSome d (λ k. 10 ^ k ≤ n) → IfSome d (λ k. n < 10 * 10 ^ k)
    → length (decimal n) ≡ unwrap_or d 0 + 1
length-decimal n None small z l u = rw (z, decimal_digit 0 (omega arith)) refl
length-decimal n (Some k) small z l u = (digits_of n small).long k l u

-- zeros after the digits of n, to m digits
abbrev filled_to : ℕ → ℕ → ℕ
filled_to m n = n * 10 ^ (m - length (decimal n))

abbrev whole : ℕ → ℕ
whole n = filled_to 20 n

to_length : (m a b : ℕ) → a < 2 ^ 64 → b < 2 ^ 64 → length (decimal a) ≤ m → length (decimal b) ≤ m
    → slice_cmp nat_cmp (decimal a) (decimal b) ≡ ordering_then (nat_cmp (filled_to m a) (filled_to m b)) (nat_cmp (length (decimal a)) (length (decimal b)))
to_length m a b small_a small_b short_a short_b =
    let of_a = digits_of a small_a in
    let of_b = digits_of b small_b in
    order (decimal a) (decimal b) m of_a.digits of_b.digits short_a short_b ∙ rw (of_a.value m short_a, of_b.value m short_b) refl

to_20 : (a b : ℕ) → a < 2 ^ 64 → b < 2 ^ 64 → slice_cmp nat_cmp (decimal a) (decimal b) ≡ ordering_then (nat_cmp (whole a) (whole b))
    (nat_cmp (length (decimal a)) (length (decimal b)))
to_20 a b small_a small_b =
    to_length 20 a b small_a small_b (length-decimal-le 20 a (omega arith) (omega (arith, small_a)) small_a)
    (length-decimal-le 20 b (omega arith) (omega (arith, small_b)) small_b)

-- numbers with i and j digits after the first
pub slice_cmp-decimal : (a b i j : ℕ) → a < 2 ^ 64 → b < 2 ^ 64 → length (decimal a) ≡ i + 1 → length (decimal b) ≡ j + 1
    → slice_cmp nat_cmp (decimal a) (decimal b) ≡ ordering_then (nat_cmp (a * 10 ^ (j - i)) (b * 10 ^ (i - j))) (nat_cmp i j)
slice_cmp-decimal a b i j small_a small_b long_a long_b =
    let m = i + 1 + (j - i) in
    let x : m - length (decimal a) ≡ j - i = omega (arith, long_a) in
    let y : m - length (decimal b) ≡ i - j = omega (arith, long_b) in
    let lengths = shifted 1 i j (length (decimal a)) (length (decimal b)) (omega (arith, long_a)) (omega (arith, long_b)) in
    to_length m a b small_a small_b (omega (arith, long_a)) (omega (arith, long_b)) ∙ rw (x, y, lengths) refl

-- the first digits decide if they differ
pub slice_cmp-first : (a b : ℕ) (o : Ordering) → a < 2 ^ 64 → b < 2 ^ 64 → o ≡ nat_cmp (first_digits a) (first_digits b) → is_ne o ≡ true
    → o ≡ slice_cmp nat_cmp (decimal a) (decimal b)
slice_cmp-first a b o small_a small_b e apart = by o (ranked (first_digits a) (first_digits b) o e) apart
  where
    by : (o : Ordering) → MatchOrdering o (first_digits a < first_digits b) (first_digits a ≡ first_digits b) (first_digits b < first_digits a) → is_ne o ≡ true
        → o ≡ slice_cmp nat_cmp (decimal a) (decimal b)
    by Less h n = let less : nat_cmp (whole a) (whole b) ≡ Less =
        sym (nat_cmp_is (whole a) (whole b) Less (omega (arith, h))) in sym (to_20 a b small_a small_b ∙ rw less refl)
    by Equal h n = absurd cc
    by Greater h n = let more : nat_cmp (whole a) (whole b) ≡ Greater =
        sym (nat_cmp_is (whole a) (whole b) Greater (omega (arith, h))) in sym (to_20 a b small_a small_b ∙ rw more refl)

pub first_digits-all : (n i : ℕ) → length (decimal n) ≡ i + 1 → i ≡ 19 → n / 10 ≡ first_digits n
first_digits-all n i long e =
    let f : 20 - length (decimal n) ≡ 0 = omega (arith, long, e) in
    let whole_is : whole n ≡ n = ap (λ k. n * 10 ^ k) f ∙ ap (λ t. n * t) (pow-zero 10) ∙ mul-one n in
    ap (λ k. k / 10) (sym whole_is)

-- the first digits of a number of fewer than 20 digits, whose number is i after the first
pub first_digits-zeros : (n i : ℕ) → n < 2 ^ 64 → length (decimal n) ≡ i + 1 → i < 19 → (n * 10 ^ (18 - i) ≡ first_digits n) × (n * 10 ^ (18 - i) < 2 ^ 64)
first_digits-zeros n i small long few =
    let of = digits_of n small in
    let short : length (decimal n) ≤ 19 = omega (arith, long, few) in
    let e : 19 - length (decimal n) ≡ 18 - i = omega (arith, long) in
    let f : 20 - length (decimal n) ≡ suc (18 - i) = omega (arith, long, few) in
    let value : filled (decimal n) 19 ≡ n * 10 ^ (18 - i) = of.value 19 short ∙ ap (λ k. n * 10 ^ k) e in
    let bound = filled-below (decimal n) 19 of.digits short in
    let ten : whole n ≡ n * 10 ^ (18 - i) * 10 = ap (λ k. n * 10 ^ k) f ∙ ap (λ t. n * t) (pow-suc 10 (18 - i)) ∙ sym (mul_assoc n (10 ^ (18 - i)) 10) in
    (omega (arith, ten), omega (arith, value, bound))
