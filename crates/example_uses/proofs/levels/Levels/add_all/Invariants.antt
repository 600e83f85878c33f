use Rattle.std.proofs.Common.{◌≡◌, ◌+◌, ℕ, if◌then◌else◌, nat_eq, sum_by}
use Rattle.example_uses.specs.Vectors.{number_at}
use Rattle.example_uses.proofs.levels.Levels.add_all.Given as goal

abbrev pub invariant-loop-price : goal.invariant-loop-price
invariant-loop-price l =
    (price : ℕ) → number_at l.self price + sum_by (λ p. if nat_eq price p.0 then p.1 else 0) l.price-iterator
    ≡ number_at l.fn.self price + number_at l.fn.others price
