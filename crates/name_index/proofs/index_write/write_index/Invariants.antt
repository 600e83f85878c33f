use Rattle.std.proofs.Common.{List, ℕ, length, map}
use Rattle.name_table.specs.Positions.{shown}
use Rattle.name_index.specs.{AddsPairs, AreOffsets}
use Rattle.name_index.proofs.index_write.write_index.Given as goal

-- the offsets are written, and after them the first pairs
abbrev pub invariant-loop-pair : goal.invariant-loop-pair
invariant-loop-pair l =
    (start : List ℕ) × AreOffsets start (map shown l.names) (length l.names) × AddsPairs start l.bytes.items (map shown l.names) l.pair-index
