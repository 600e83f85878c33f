use Rattle.std.proofs.Common.{◌≡◌, length, arith}
use Rattle.std.specs.List.{zip}
use Rattle.litemap_columns.proofs.Columns.{length-zip_same, same_length}
use Rattle.litemap_columns.proofs.column_store.ColumnStoreStoreMut.lm_clear.Goals as goal

pub returns-clause-room : goal.returns-clause-room
returns-clause-room g c =
    let keys = c.self.inside.keys in
    let values = c.self.inside.values in
    let all : length (zip keys.items values.items) ≡ length keys.items = length-zip_same keys.items values.items (same_length keys values c.self.invariant) in
    rw (← c.self.view_is)
    (omega (
      arith,
      all,
      keys.ok.0,
      keys.ok.1,
      values.ok.0,
      values.ok.1,
      c.self.invariant,
      c.clear.ensures.len,
      c.clear-2.ensures.len,
      c.clear.ensures.capacity,
      c.clear-2.ensures.capacity,
    ))
