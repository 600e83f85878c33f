use Rattle.name_index.proofs.Tables.{Reached}
use Rattle.name_index.proofs.table.offsets_of.Given as goal

abbrev pub invariant-loop-offsets : goal.invariant-loop-offsets
invariant-loop-offsets l = Reached l.bytes l.names l.last l.offsets.items

abbrev pub decreases-loop-offsets : goal.decreases-loop-offsets
decreases-loop-offsets l = l.names.left
