-- Whole numbers that 64 bits hold are made, and those that are printed are read back, in that one spelling.
use Rattle.std.proofs.Common.{◌≡◌, inl, inr, ℕ, suc, ◌^◌, if◌then◌else◌, ℤ, pos, negsuc, neg_ℤ, List, ◌∷◌, Bool, true, false, Some, None, Result, Ok, Err}
use Rattle.std.proofs.Common.{decimal, arith, refl, sym, ap, subst, ◌∙◌}
use Rattle.std.proofs.lemmas.Bool.{lt-ltb, both_ways}
use Rattle.std.proofs.lemmas.Bool.Decides.{Decides-int_eq}
use Rattle.std.proofs.lemmas.Fmt.{decimal_is_IsNumeral_wide}
use Rattle.std.proofs.lemmas.Int.{ints}
use Rattle.std.proofs.lemmas.Result.{Ok-from_Ok_iff}
use Rattle.std.proofs.lemmas.Slice.Eq.{bytes_eq-Decides}
use Rattle.std.proofs.lemmas.Str.Parse.{numerals_by_value, tells_digits, parse_signed_minus, parse_signed_digits}
use Rattle.std.specs.Int.{w64, w128, FitsUnsigned}
use Rattle.std.specs.Prelude.{FitsSigned, IsSome, MatchOption, Option}
use Rattle.std.specs.Ordering.{int_eq}
use Rattle.std.specs.Fmt.{signed_decimal}
use Rattle.std.specs.Str.{bytes_eq}
use Rattle.std.specs.Str.Parse.{signed_digits_value, without_leading_sign, IsNumeral, ParsesSigned}
use Rattle.litemap_json.specs.Item.{kept, signed_fits, whole_json, whole_key, whole_of_text}
use Rattle.litemap_json.specs.Widths.{IsHeld, fits_signed}

-- what 64 bits hold is held by 128 bits with a sign
pub held_by_128 : (z : ℤ) → IsHeld z → signed_fits 127 z ≡ true
held_by_128 (pos n) (inl h) = lt-ltb n (2 ^ 127) (omega (arith, ints, h.1))
held_by_128 (pos n) (inr h) = lt-ltb n (2 ^ 127) (omega (arith, ints, h.sfits))
held_by_128 (negsuc n) (inl h) = lt-ltb n (2 ^ 127) (omega (arith, ints, h.0))
held_by_128 (negsuc n) (inr h) = lt-ltb n (2 ^ 127) (omega (arith, ints, h.sfits))

-- what is made if 64 bits hold a number is made of each that is held
pub some_held : {X : Type 0} (made : Option X) (z : ℤ) (P : X → Type 0) → MatchOption made (¬ FitsUnsigned w64 z × ¬ FitsSigned w64 z) P → IsHeld z
    → IsSome made
some_held None z P m (inl h) = absurd (m.0 h)
some_held None z P m (inr h) = absurd (m.1 h)
some_held (Some x) z P m h = refl

-- if it fits, what is printed is read
parse_printed : {E : Type 0} (z : ℤ) (s : List ℕ) (r : Result ℤ E) → FitsSigned w128 z → s ≡ signed_decimal z → ParsesSigned w128 10 s r → r ≡ Ok z
parse_printed (pos n) s r fits is h =
    let k = decimal_is_IsNumeral_wide n (omega (arith, fits.sfits)) in
    let read = parse_signed_digits (numerals_by_value _ tells_digits) w128 (decimal n) r (subst (λ l. ParsesSigned w128 10 l r) is h) k.0.1 in
    Ok-from_Ok_iff r _ _ read (k.0.0, omega (arith, k.1, fits.sfits)) ∙ ap (λ m. Ok (pos m)) k.1
parse_printed (negsuc n) s r fits is h =
    let k = decimal_is_IsNumeral_wide (suc n) (omega (arith, fits.sfits)) in
    let read = parse_signed_minus (numerals_by_value _ tells_digits) w128 (45 ∷ decimal (suc n)) r (subst (λ l. ParsesSigned w128 10 l r) is h) refl in
    Ok-from_Ok_iff r _ _ read (k.0.1, k.0.0, omega (arith, k.1, fits.sfits)) ∙ ap (λ m. Ok (neg_ℤ (pos m))) k.1

-- what is printed spells its number
value_at : (t : Bool) (z : ℤ) → int_eq (signed_digits_value 10 (signed_decimal z)) z ≡ t → FitsSigned w128 z → signed_digits_value 10 (signed_decimal z) ≡ z
value_at true z e f = (Decides-int_eq _ z).0 e
value_at false z e f =
    let s = signed_decimal z in
    let read = signed_digits_value 10 s in
    let P : Type 0 = IsNumeral 10 (without_leading_sign s) × FitsSigned w128 read in
    let none : P → ⊥ = λ p.
    let given : Result ℤ ℕ = Ok read in
    let ok : given ≡ Ok z = parse_printed z s given f refl (p, refl) in
    let same : read ≡ z = cc in
    both_ways (int_eq read z) e ((Decides-int_eq read z).1 same) in
    let failed : Result ℤ ℕ = Err 0 in
    let bad : failed ≡ Ok z = parse_printed z s failed f refl none in
    absurd cc

pub whole_of_text-printed : (z : ℤ) → FitsSigned w128 z → whole_of_text (signed_decimal z) ≡ Some z
whole_of_text-printed z f =
    let value = value_at _ z refl f in
    let same : bytes_eq (signed_decimal z) (signed_decimal z) ≡ true = (bytes_eq-Decides (signed_decimal z) (signed_decimal z)).1 refl in
    rw (value, same)

-- a printed number that fits is read
pub read_whole : (fits : ℤ → Bool) (z : ℤ) → fits z ≡ true → IsHeld z → whole_key fits (signed_decimal z) ≡ Some (whole_json z)
read_whole fits z h held = rw (whole_of_text-printed z (fits_signed w128 z (held_by_128 z held)), h)

-- a text that `parse` rejects is no such number's
unread_at : {E : Type 0} (t u : Bool) (s : List ℕ) (z : ℤ) (r : Result ℤ E) → bytes_eq (signed_decimal z) s ≡ t → signed_fits 127 z ≡ u
    → ParsesSigned w128 10 s r → ((y : ℤ) → r ≡ Ok y → ⊥)
    → None ≡ kept (signed_fits 127) (if t then Some z else None)
unread_at true true s z r e f parsed never =
    absurd (never z (parse_printed z s r (fits_signed w128 z f) (sym ((bytes_eq-Decides (signed_decimal z) s).0 e)) parsed))
unread_at true false s z r e f parsed never = rw f
unread_at false u s z r e f parsed never = refl

pub unread : {E : Type 0} (s : List ℕ) (r : Result ℤ E) → ParsesSigned w128 10 s r → ((y : ℤ) → r ≡ Ok y → ⊥) → None ≡ kept (signed_fits 127) (whole_of_text s)
unread s r parsed never = unread_at _ _ s (signed_digits_value 10 s) r refl refl parsed never
