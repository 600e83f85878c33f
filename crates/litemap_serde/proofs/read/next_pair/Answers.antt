use Rattle.litemap_serde.proofs.read.next_pair.Goals as goal

pub returns-then-not-branch : goal.returns-then-not-branch
returns-then-not-branch g c = record { ended = (c.args.from.now, rw (c.if-in_sequence.true) (rw c.if-not-branch.true at c.in_ok-next_item.ensures)) }

pub returns-then-not-branch-2 : goal.returns-then-not-branch-2
returns-then-not-branch-2 g c = record { ended = (c.args.from.now, rw (c.if-in_sequence.false) (rw c.if-not-branch-2.true at c.in_ok-next_entry.ensures)) }
