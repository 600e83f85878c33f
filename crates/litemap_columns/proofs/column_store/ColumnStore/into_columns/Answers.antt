use Rattle.std.proofs.Common.{sym}
use Rattle.std.proofs.lemmas.Slice.Zip.{firsts-zip, seconds-zip}
use Rattle.litemap_columns.proofs.Columns.{same_length}
use Rattle.litemap_columns.proofs.column_store.ColumnStore.into_columns.Goals as goal

pub returns-clause-keys : goal.returns-clause-keys
returns-clause-keys g c =
    let keys = c.self.inside.keys in
    let values = c.self.inside.values in
    rw (← c.self.view_is) (sym (firsts-zip keys.items values.items (sym (same_length keys values c.self.invariant))))

pub returns-clause-values : goal.returns-clause-values
returns-clause-values g c =
    let keys = c.self.inside.keys in
    let values = c.self.inside.values in
    rw (← c.self.view_is) (sym (seconds-zip keys.items values.items (sym (same_length keys values c.self.invariant))))
