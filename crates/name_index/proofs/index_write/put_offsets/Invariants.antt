use Rattle.std.proofs.Common.{◌≡◌, ◌<◌, map, take}
use Rattle.name_table.specs.Positions.{shown}
use Rattle.name_table.specs.declared.number.TheConstants.{NUMBER_LIMIT}
use Rattle.name_index.specs.{AreOffsets, entries_size}
use Rattle.name_index.proofs.index_write.put_offsets.Given as goal

-- the offsets of the first pairs are written, and the next one is known
abbrev pub invariant-loop-pair : goal.invariant-loop-pair
invariant-loop-pair l = record {
  offsets : AreOffsets l.bytes.items (map shown l.pairs) l.pair-index;
  offset_is : l.offset ≡ entries_size (take l.pair-index (map shown l.pairs));
  small : l.offset < NUMBER_LIMIT;
}
