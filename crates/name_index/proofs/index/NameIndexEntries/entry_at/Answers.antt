use Rattle.name_table.specs.Positions.{shown}
use Rattle.name_index.proofs.Tables.{pair_there}
use Rattle.name_index.proofs.index.NameIndexEntries.entry_at.Goals as goal

pub read_valid_pair-requires : goal.read_valid_pair-requires
read_valid_pair-requires c = let b = c.bytes_from.ensures in (b.0, b.2, b.3)

pub returns : goal.returns
returns c =
    pair_there c.args.self.now c.args.index c.bytes_from.result.now c.bytes_from.ensures
    (shown c.read_valid_pair.result.0) c.read_valid_pair.result.1.now c.read_valid_pair.ensures
