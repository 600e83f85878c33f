use Rattle.std.proofs.Common.{◌≡◌, length, arith}
use Rattle.std.specs.List.{zip}
use Rattle.litemap_columns.proofs.Columns.{length-zip_same, same_length, zip-take}
use Rattle.litemap_columns.proofs.column_store.ColumnStoreSwapStore.lm_truncate.Goals as goal

pub returns-clause-pairs : goal.returns-clause-pairs
returns-clause-pairs g c =
    rw (← c.self.view_is, c.truncate.ensures.items, c.truncate-2.ensures.items) (zip-take c.self.inside.keys.items c.self.inside.values.items c.args.len)

pub returns-clause-room : goal.returns-clause-room
returns-clause-room g c =
    let keys = c.self.inside.keys in
    let values = c.self.inside.values in
    let left = c.truncate.new.self in
    let right = c.truncate-2.new.self in
    let before : length (zip keys.items values.items) ≡ length keys.items =
    length-zip_same keys.items values.items (same_length keys values c.self.invariant) in
    let after : length (zip left.items right.items) ≡ length left.items =
    length-zip_same left.items right.items (omega (arith, left.ok.0, right.ok.0, c.self.invariant, c.truncate.ensures.len, c.truncate-2.ensures.len)) in
    rw (← c.self.view_is)
    (omega (
      arith,
      before,
      after,
      keys.ok.0,
      keys.ok.1,
      values.ok.0,
      values.ok.1,
      left.ok.0,
      right.ok.0,
      c.self.invariant,
      c.truncate.ensures.len,
      c.truncate-2.ensures.len,
      c.truncate.ensures.capacity,
      c.truncate-2.ensures.capacity,
    ))
