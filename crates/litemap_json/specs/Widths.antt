-- Types of whole numbers, each of which 64 bits hold.
use Rattle.std.proofs.Common.{◌≡◌, ◌⊎◌, inl, inr, ℕ, ◌^◌, nat_le, ℤ, pos, negsuc, Bool, true, false, cond, Some, None, option_map}
use Rattle.std.proofs.Common.{Result, Ok, Err, Ordering, Equal, nat_cmp, refl, arith}
use Rattle.std.proofs.lemmas.Bool.{lt-ltb, ltb-true, leb-true}
use Rattle.std.proofs.lemmas.Int.{ints}
use Rattle.std.proofs.Math.Pow.{pow_mono}
use Rattle.std.specs.Int.{w64, FitsUnsigned, Width}
use Rattle.std.specs.Ordering.{int_cmp}
use Rattle.std.specs.Prelude.{FitsSigned, OkIff, unsigned_abs}
use Rattle.std.specs.Result.{result_ok}
use mir.Facts.{sfits_widen}
use mir.Val.{bits, hbits}
use Rattle.litemap_json.specs.Item.{kept, signed_fits, unsigned_fits, whole_json}
use Rattle.litemap_json.specs.OneTree.{signed_one_tree, unsigned_one_tree}

-- 64 bits hold it, without a sign or with one
abbrev pub IsHeld : ℤ → Type 0
IsHeld z = FitsUnsigned w64 z ⊎ FitsSigned w64 z

-- a type of whole numbers: the number of a value, and which numbers it has
pub record WholeType (T : Type 0) : Type 0 where
  pub number : T → ℤ
  pub fits : ℤ → Bool

-- 64 bits hold each of its numbers, one number is one key, and a conversion gives the value of a number that fits
pub record IsWhole {T E : Type 0} (kind : WholeType T) (cmp : T → T → Ordering) (gives : ℤ → Result T E → Type 0) : Type 0 where
  pub held : (z : ℤ) → kind.fits z ≡ true → IsHeld z
  pub one_number : (x y : T) → whole_json (kind.number x) ≡ whole_json (kind.number y) → cmp x y ≡ Equal
  pub given : (z : ℤ) (r : Result T E) → gives z r → option_map kind.number (result_ok r) ≡ kept kind.fits (Some z)

-- what `unsigned_fits` and `signed_fits` say of the types of a width
fits_unsigned : (w : Width) (z : ℤ) → unsigned_fits (bits w) z ≡ true → FitsUnsigned w z
fits_unsigned w (pos n) h = let below = ltb-true n (2 ^ bits w) h in (omega (arith, ints), omega (arith, ints))
fits_unsigned w (negsuc n) h = absurd cc

unsigned_fits_from : (w : Width) (z : ℤ) → FitsUnsigned w z → (unsigned_fits (bits w) z ≡ true) × (pos (unsigned_abs z) ≡ z)
unsigned_fits_from w (pos n) h = (lt-ltb n (2 ^ bits w) (omega (arith, ints, h.1)), refl)
unsigned_fits_from w (negsuc n) h = absurd (omega (arith, ints, h.0))

pub fits_signed : (w : Width) (z : ℤ) → signed_fits (hbits w) z ≡ true → FitsSigned w z
fits_signed w (pos n) h = let below = ltb-true n (2 ^ hbits w) h in omega (arith, ints)
fits_signed w (negsuc n) h = let below = ltb-true n (2 ^ hbits w) h in omega (arith, ints)

signed_fits_from : (w : Width) (z : ℤ) → FitsSigned w z → (signed_fits (hbits w) z ≡ true) × (z ≡ z)
signed_fits_from w (pos n) h = (lt-ltb n (2 ^ hbits w) (omega (arith, ints, h.sfits)), refl)
signed_fits_from w (negsuc n) h = (lt-ltb n (2 ^ hbits w) (omega (arith, ints, h.sfits)), refl)

given : {T E : Type 0} (number : T → ℤ) (fits : Bool) (z : ℤ) (x : T) (P : Type 0) (r : Result T E)
    → (fits ≡ true → P) → (P → (fits ≡ true) × (number x ≡ z)) → OkIff r P x
    → option_map number (result_ok r) ≡ cond fits (Some z) None
given number fits z x P (Ok y) to from h = let is = from h.0 in rw (is.0, h.1, is.1) refl
given number true z x P (Err e) to from h = absurd (h (to refl))
given number false z x P (Err e) to from h = refl

-- the types of a width
abbrev pub unsigned : Width → WholeType ℕ
unsigned w = record { number = pos; fits = unsigned_fits (bits w) }

abbrev pub signed : Width → WholeType ℤ
signed w = record { number = λ x. x; fits = signed_fits (hbits w) }

pub unsigned_is_whole : {E : Type 0} (w : Width) → nat_le (bits w) 64 ≡ true
    → IsWhole (unsigned w) nat_cmp (λ z (r : Result ℕ E). OkIff r (FitsUnsigned w z) (unsigned_abs z))
unsigned_is_whole w b = record {
  held = λ z h. let f = fits_unsigned w z h in
      let wide = pow_mono {i = bits w} {j = 64} (leb-true (bits w) 64 b) in inl (f.0, omega (arith, ints, f.1, wide));
  one_number = unsigned_one_tree;
  given = λ z r. given pos (unsigned_fits (bits w) z) z (unsigned_abs z) (FitsUnsigned w z) r
      (fits_unsigned w z) (unsigned_fits_from w z);
}

pub signed_is_whole : {E : Type 0} (w : Width) → nat_le (hbits w) 63 ≡ true
    → IsWhole (signed w) int_cmp (λ z (r : Result ℤ E). OkIff r (FitsSigned w z) z)
signed_is_whole w b = record {
  held = λ z h. inr (sfits_widen (rw b tt) (fits_signed w z h));
  one_number = signed_one_tree;
  given = λ z r. given (λ x. x) (signed_fits (hbits w) z) z z (FitsSigned w z) r
      (fits_signed w z) (signed_fits_from w z);
}
