use Rattle.std.proofs.Common.{arith, ap, length}
use Rattle.name_table.specs.Positions.{shown}
use Rattle.name_index.proofs.AtIndex.{entry_is, entry_there}
use Rattle.name_index.proofs.indexed.IndexedNamesEntries.entry_at.Goals as goal

pub unreachable-requires : goal.unreachable-requires
unreachable-requires c =
    entry_there c.self.invariant.1 c.args.index (omega (arith, c.requires, ap length c.self.view_is, c.self.invariant.1.number)) c.in-Err.ensures.error

pub returns : goal.returns
returns c =
    rw (← c.self.view_is)
    (entry_is c.self.invariant.1 c.args.index (omega (arith, c.requires, ap length c.self.view_is, c.self.invariant.1.number)) (shown c.in-Ok.entry)
    c.in-Ok.ensures.entry)
