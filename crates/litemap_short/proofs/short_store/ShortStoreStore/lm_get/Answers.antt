use Rattle.litemap_short.proofs.short_store.ShortStoreStore.lm_get.Goals as goal

pub returns : goal.returns
returns g c = rw (← c.self.view_is) (rw c.as_slice.ensures at c.pair_at.ensures)
