use Rattle.litemap_store.proofs.Lists.Alongside.{alongside-zip}
use Rattle.litemap_columns.proofs.column_store.ColumnStoreStoreMut.lm_try_clone.Goals as goal

pub returns-clause-clones : goal.returns-clause-clones
returns-clause-clones g c =
    rw (← c.self.view_is)
    (alongside-zip g.K.Clone.is_clone g.V.Clone.is_clone c.self.inside.keys.items c.in_ok-keys.keys.items c.self.inside.values.items c.in_ok-values.values.items
    (rw c.as_slice.ensures.value at c.in_ok-keys.ensures.items) (rw c.as_slice-2.ensures.value at c.in_ok-values.ensures.items))
