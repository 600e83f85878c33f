-- Sums of sparse vectors.
use Rattle.std.proofs.Common.{◌≡◌, ℕ, ◌+◌, arith, refl, Option, Some, None, option_map, unwrap_or}
use Rattle.litemap.specs.Combined.{found_with}

-- the sum of two numbers, of which one may be missing, or both
pub number-found : (a : Option ℕ) (b : Option (ℕ × ℕ)) → unwrap_or (found_with (λ _ here new. here + new) a b) 0
    ≡ unwrap_or a 0 + unwrap_or (option_map (λ (p : ℕ × ℕ). p.1) b) 0
number-found None None = refl
number-found (Some n) None = omega arith
number-found None (Some p) = omega arith
number-found (Some n) (Some p) = refl
