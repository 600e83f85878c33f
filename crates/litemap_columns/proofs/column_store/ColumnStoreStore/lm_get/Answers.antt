use Rattle.std.proofs.Common.{◌≤◌, ◌<◌, length, sym, arith}
use Rattle.litemap_columns.proofs.Columns.{same_length, zip-none, zip-read}
use Rattle.litemap_columns.proofs.column_store.ColumnStoreStore.lm_get.Goals as goal

pub returns-then-index-len : goal.returns-then-index-len
returns-then-index-len g c =
    let keys = c.self.inside.keys in
    let values = c.self.inside.values in
    let within : c.args.index < length keys.items = omega (arith, keys.ok.0, c.if-index-len.true, c.len.ensures) in
    rw (← c.self.view_is)
    (sym (zip-read keys.items values.items c.args.index _ _
    (same_length keys values c.self.invariant) within c.index.ensures c.index-then-index-len.ensures))

pub returns-else-index-len : goal.returns-else-index-len
returns-else-index-len g c =
    let keys = c.self.inside.keys in
    let past : length keys.items ≤ c.args.index = omega (arith, keys.ok.0, c.if-index-len.false, c.len.ensures) in
    rw (← c.self.view_is) (sym (zip-none keys.items c.self.inside.values.items c.args.index past))
