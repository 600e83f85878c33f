use Rattle.std.proofs.Common.{sym, ◌∙◌}
use Rattle.std.specs.Vec.Iter.{into_iter_items}
use Rattle.litemap_store.specs.IntoIter.{len_is}
use Rattle.litemap_columns.proofs.Columns.{length-zip_same}
use Rattle.litemap_columns.proofs.column_iter.ColumnIntoIterExactSizeIterator.len.Goals as goal

pub returns-clause-value : goal.returns-clause-value
returns-clause-value g c =
    let keys = c.self.inside.keys in
    let all = length-zip_same (into_iter_items keys) (into_iter_items c.self.inside.values) c.self.invariant in
    rw (← c.self.view_is) (c.len.ensures ∙ len_is keys ∙ sym all)
