use Rattle.std.proofs.Common.{◌≡◌, ◌++◌, map}
use Rattle.name_table.specs.Positions.{shown}
use Rattle.name_index.proofs.index.NameIndex.to_map.Given as goal

-- what was read, and after it what is still to come
abbrev pub invariant-loop-pair : goal.invariant-loop-pair
invariant-loop-pair l = map shown l.pairs.items ++ l.pair-iterator ≡ l.self
