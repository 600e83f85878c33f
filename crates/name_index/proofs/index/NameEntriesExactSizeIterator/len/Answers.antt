use Rattle.std.proofs.Common.{◌∙◌, sym}
use Rattle.name_index.proofs.AtIndex.{slice_size}
use Rattle.name_index.proofs.index.NameEntriesExactSizeIterator.len.Goals as goal

pub returns-clause-value : goal.returns-clause-value
returns-clause-value c =
    rw (← c.self.view_is)
    (c.saturating_sub.ensures ∙ sym (slice_size c.self.inside.names.now c.self.inside.next c.self.inside.end c.self.invariant))
