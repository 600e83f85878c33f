use Rattle.std.proofs.Common.{◌≡◌, ℕ, List, [], take, map, filter, bytes_eq, string_bytes}
use Rattle.std.specs.Option.{option_map_or}
use Rattle.litemap.specs.Words.{get_by_text}
use Rattle.example_uses.proofs.groups.grouped.Given as goal

abbrev pub invariant-loop-name : goal.invariant-loop-name
invariant-loop-name l =
    (name : List ℕ) → option_map_or (λ group. group.items) (get_by_text l.groups name) []
    ≡ map (λ p. p.1) (filter (λ p. bytes_eq name (string_bytes p.0)) (take l.name-index l.pairs))
