use Rattle.std.proofs.Common.{◌≡◌, ℕ, List, take, sum_by, unwrap_or, bytes_eq, string_bytes, if◌then◌else◌}
use Rattle.litemap.specs.Words.{get_by_text}
use Rattle.example_uses.proofs.sums.totals.Given as goal

abbrev pub invariant-loop-name : goal.invariant-loop-name
invariant-loop-name l =
    (name : List ℕ) → unwrap_or (get_by_text l.totals name) 0
    ≡ sum_by (λ p. if bytes_eq name (string_bytes p.0) then p.1 else 0) (take l.name-index l.pairs)
