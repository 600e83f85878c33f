use Rattle.litemap_columns.proofs.Columns.{columns-read, within-keys, within-values}
use Rattle.litemap_columns.proofs.column_store.ColumnStoreSwapStore.lm_pair.Goals as goal

pub index-requires : goal.index-requires
index-requires g c = within-keys c.self.inside.keys c.self.inside.values c.args.index c.self.invariant (rw (← c.self.view_is) at c.requires)

pub index-requires-2 : goal.index-requires-2
index-requires-2 g c = within-values c.self.inside.keys c.self.inside.values c.args.index c.self.invariant (rw (← c.self.view_is) at c.requires)

pub returns : goal.returns
returns g c = rw (← c.self.view_is)
    (columns-read c.self.inside.keys c.self.inside.values c.args.index c.self.invariant
    (rw (← c.self.view_is) at c.requires) _ _ c.index.ensures c.index-2.ensures)
