use Rattle.std.proofs.Common.{◌<◌, length, Some, sym, ap, ◌∙◌, arith}
use Rattle.litemap_columns.proofs.Columns.{within-zip, zip-key}
use Rattle.litemap_columns.proofs.column_iter.ColumnIterKeys.key_at.Goals as goal

pub bounds-keys-index : goal.bounds-keys-index
bounds-keys-index g c = within-zip c.self.inside.keys.now c.self.inside.values.now c.args.index c.self.invariant (rw (← c.self.view_is) at c.requires)

pub offset_bounds-keys-index : goal.offset_bounds-keys-index
offset_bounds-keys-index g c =
    let within : c.args.index < length c.self.inside.keys.now =
    within-zip c.self.inside.keys.now c.self.inside.values.now c.args.index c.self.invariant (rw (← c.self.view_is) at c.requires) in
    omega arith

pub returns : goal.returns
returns g c =
    let keys = c.self.inside.keys.now in
    let values = c.self.inside.values.now in
    let key = c.index-keys-index.result in
    let within : c.args.index < length keys = within-zip keys values c.args.index c.self.invariant (rw (← c.self.view_is) at c.requires) in
    let (value, e) = zip-key keys values c.args.index key c.self.invariant within in
    rw (← c.self.view_is) (value, e ∙ ap (λ k. Some (k, value)) (sym c.index-keys-index.is))
