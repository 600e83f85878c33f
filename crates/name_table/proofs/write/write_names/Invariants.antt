use Rattle.std.proofs.Common.{◌∷◌, length, map, take}
use Rattle.name_table.specs.{Number, pair_parts, shown, IsShortest}
use Rattle.name_table.proofs.write.write_names.Given as goal

-- the number of pairs and the first pairs are written
abbrev pub invariant-loop-pair : goal.invariant-loop-pair
invariant-loop-pair l = IsShortest l.bytes.items (Number (length l.pairs) ∷ pair_parts (map shown (take l.pair-index l.pairs)))
