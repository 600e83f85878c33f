use Rattle.litemap_store.proofs.Names.{ℕ, ◌+◌, ◌/◌, ◌<◌, ◌^◌, ◌≡◌, arith, digits, digits-step, digits-zero, pow-suc, suc, zero}
use lib.Count.{count_leading_zeros}
use Rattle.litemap_store.proofs.searches.binary_digits.Goals as goal

leading_digits : (k n : ℕ) → n < 2 ^ k → count_leading_zeros k n + digits n ≡ k
unfolding count_leading_zeros
leading_digits zero zero h = let none = digits-zero in omega arith
leading_digits zero (suc n) h = absurd (omega arith)
leading_digits (suc k) zero h = let none = digits-zero in omega arith
leading_digits (suc k) (suc n) h =
    let step = digits-step (suc n) (omega arith) in
    let double = pow-suc 2 k in
    let rest = leading_digits k (suc n / 2) (omega arith) in
    omega arith

pub returns : goal.returns
returns c = let all = leading_digits 64 c.args.number (omega arith) in omega arith
