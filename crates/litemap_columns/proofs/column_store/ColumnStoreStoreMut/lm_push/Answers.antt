use Rattle.std.proofs.Common.{◌≡◌, ap, ◌∙◌}
use Rattle.std.specs.List.{zip}
use Rattle.litemap_columns.proofs.Columns.{same_length, zip-append}
use Rattle.litemap_columns.proofs.column_store.ColumnStoreStoreMut.lm_push.Goals as goal

pub returns-clause-ok : goal.returns-clause-ok
returns-clause-ok g c =
    let keys = c.self.inside.keys in
    let values = c.self.inside.values in
    let list : zip keys.items values.items ≡ c.args.self.now.entries = ap (λ s. s.entries) c.self.view_is ∙ c.lm_reserve.ensures.pairs in
    rw (c.push_reserved.ensures.items, c.push_reserved-2.ensures.items, ← list)
    (zip-append keys.items values.items c.args.key c.args.value (same_length keys values c.self.invariant))
