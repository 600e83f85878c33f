use Rattle.litemap_columns.proofs.Columns.{columns-read, within-keys, within-values, zip-set}
use Rattle.litemap_columns.proofs.column_store.ColumnStoreStoreMut.lm_replace.Goals as goal

pub index_mut-requires : goal.index_mut-requires
index_mut-requires g c = within-keys c.self.inside.keys c.self.inside.values c.args.index c.self.invariant (rw (← c.self.view_is) at c.requires)

pub index_mut-requires-2 : goal.index_mut-requires-2
index_mut-requires-2 g c = within-values c.self.inside.keys c.self.inside.values c.args.index c.self.invariant (rw (← c.self.view_is) at c.requires)

pub returns-clause-old : goal.returns-clause-old
returns-clause-old g c =
    rw (← c.self.view_is, c.replace-old_key.ensures.value, c.replace-old_value.ensures.value)
    (columns-read c.self.inside.keys c.self.inside.values c.args.index c.self.invariant
    (rw (← c.self.view_is) at c.requires) _ _ c.index_mut.ensures.value c.index_mut-2.ensures.value)

pub returns-clause-pairs : goal.returns-clause-pairs
returns-clause-pairs g c =
    rw (← c.self.view_is, c.replace-old_key.ensures.after, c.replace-old_value.ensures.after)
    (zip-set c.self.inside.keys.items c.self.inside.values.items c.args.index c.args.key c.args.value)
