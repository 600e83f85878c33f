use Rattle.std.proofs.Common.{length, ap}
use Rattle.litemap_short.proofs.short_store.ShortStoreStore.lm_len.Goals as goal

pub returns : goal.returns
returns g c = rw (← c.self.view_is) (ap length c.as_slice.ensures)
