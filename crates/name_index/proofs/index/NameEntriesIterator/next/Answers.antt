use Rattle.std.proofs.Common.{arith}
use Rattle.name_table.specs.Positions.{shown}
use Rattle.name_index.proofs.AtIndex.{left_goes, slice_next, slice_none}
use Rattle.name_index.proofs.index.NameEntriesIterator.next.Goals as goal

pub entry_at-pair-requires : goal.entry_at-pair-requires
entry_at-pair-requires c = omega (arith, c.self.invariant, c.if-self.false)

pub returns-then-self-clause-steps : goal.returns-then-self-clause-steps
returns-then-self-clause-steps c =
    let e = slice_none c.self.inside.names.now c.self.inside.next c.self.inside.end (omega (arith, c.if-self.true)) in
    rw (← c.self.view_is) (e, e)

pub returns-clause-steps : goal.returns-clause-steps
returns-clause-steps c =
    rw (← c.self.view_is)
    (slice_next c.self.inside.names.now c.self.inside.next c.self.inside.end (shown c.entry_at-pair.result) (omega (arith, c.if-self.false))
    (omega (arith, c.self.invariant, c.if-self.false)) c.entry_at-pair.ensures)

pub returns-clause-goes : goal.returns-clause-goes
returns-clause-goes c =
    rw (← c.self.view_is)
    (left_goes c.entry_at-pair.result (shown c.entry_at-pair.result) _ _
    (slice_next c.self.inside.names.now c.self.inside.next c.self.inside.end (shown c.entry_at-pair.result) (omega (arith, c.if-self.false))
    (omega (arith, c.self.invariant, c.if-self.false)) c.entry_at-pair.ensures))
