use Rattle.std.proofs.Common.{sym}
use Rattle.litemap_columns.proofs.Columns.{length-zip_same}
use Rattle.litemap_columns.proofs.column_iter.ColumnIterExactSizeIterator.len.Goals as goal

pub returns-clause-value : goal.returns-clause-value
returns-clause-value g c = rw (← c.self.view_is) (sym (length-zip_same c.self.inside.keys.now c.self.inside.values.now c.self.invariant))
