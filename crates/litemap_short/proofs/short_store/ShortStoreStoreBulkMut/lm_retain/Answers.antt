use Rattle.std.proofs.Common.{rules}
use Rattle.litemap_short.proofs.short_store.ShortStoreStoreBulkMut.lm_retain.Goals as goal

pub retain-requires : goal.retain-requires
retain-requires g c = (search rules, rw (← c.self.view_is) at c.requires)

pub returns-clause-room : goal.returns-clause-room
returns-clause-room g c = λ _. rw (← c.self.view_is) c.retain.ensures.room
