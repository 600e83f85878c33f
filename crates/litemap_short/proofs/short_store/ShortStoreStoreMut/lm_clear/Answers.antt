use Rattle.litemap_short.proofs.short_store.ShortStoreStoreMut.lm_clear.Goals as goal

pub returns-clause-room : goal.returns-clause-room
returns-clause-room g c = λ _. rw (← c.self.view_is) c.clear.ensures.room
