use Rattle.litemap_short.proofs.short_store.ShortStoreStoreMut.lm_try_clone.Goals as goal

pub returns-clause-clones : goal.returns-clause-clones
returns-clause-clones g c = rw (← c.self.view_is) c.in_ok-storage.ensures.clones
