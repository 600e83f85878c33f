use Rattle.std.proofs.Common.{◌≡◌, length, arith}
use Rattle.std.specs.List.{zip}
use Rattle.litemap_columns.proofs.Columns.{length-zip_same, same_length}
use Rattle.litemap_columns.proofs.column_store.ColumnStoreStore.lm_len.Goals as goal

pub returns : goal.returns
returns g c =
    let keys = c.self.inside.keys in
    let values = c.self.inside.values in
    let all : length (zip keys.items values.items) ≡ length keys.items = length-zip_same keys.items values.items (same_length keys values c.self.invariant) in
    rw (← c.self.view_is) (omega (arith, keys.ok.0, all, c.len.ensures))
