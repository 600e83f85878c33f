use Rattle.std.proofs.Common.{rules}
use Rattle.litemap_short.proofs.short_store.ShortStoreStoreMut.lm_remove.Goals as goal

pub remove-requires : goal.remove-requires
remove-requires g c = (search rules, rw (← c.self.view_is) at c.requires)
