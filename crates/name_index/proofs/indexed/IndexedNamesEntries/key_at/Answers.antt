use Rattle.std.proofs.Common.{arith, ap, length}
use Rattle.name_index.proofs.AtIndex.{entry_there, key_is}
use Rattle.name_index.proofs.indexed.IndexedNamesEntries.key_at.Goals as goal

pub unreachable-requires : goal.unreachable-requires
unreachable-requires c =
    entry_there c.self.invariant.1 c.args.index (omega (arith, c.requires, ap length c.self.view_is, c.self.invariant.1.number)) c.in-Err.ensures.error

pub returns : goal.returns
returns c =
    rw (← c.self.view_is)
    (key_is c.self.invariant.1 c.args.index (omega (arith, c.requires, ap length c.self.view_is, c.self.invariant.1.number)) c.in-Ok.key.now c.in-Ok.field-0-1
    c.in-Ok.ensures.key)
