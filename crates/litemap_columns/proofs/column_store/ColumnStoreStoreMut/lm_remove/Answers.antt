use Rattle.litemap_columns.proofs.Columns.{columns-read, same_length, within-keys, zip-remove}
use Rattle.litemap_columns.proofs.column_store.ColumnStoreStoreMut.lm_remove.Goals as goal

pub remove_at-key-requires : goal.remove_at-key-requires
remove_at-key-requires g c = within-keys c.self.inside.keys c.self.inside.values c.args.index c.self.invariant (rw (← c.self.view_is) at c.requires)

pub returns-clause-old : goal.returns-clause-old
returns-clause-old g c =
    rw (← c.self.view_is)
    (columns-read c.self.inside.keys c.self.inside.values c.args.index c.self.invariant
    (rw (← c.self.view_is) at c.requires) _ _ c.remove_at-key.ensures.value c.remove_at-value.ensures.value)

pub returns-clause-pairs : goal.returns-clause-pairs
returns-clause-pairs g c =
    let keys = c.self.inside.keys in
    let values = c.self.inside.values in
    rw (← c.self.view_is, c.remove_at-key.ensures.items, c.remove_at-value.ensures.items)
    (zip-remove keys.items values.items c.args.index (same_length keys values c.self.invariant))
