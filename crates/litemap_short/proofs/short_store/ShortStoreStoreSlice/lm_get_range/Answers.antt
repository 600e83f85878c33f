use Rattle.std.proofs.Common.{arith}
use Rattle.std.proofs.lemmas.Grind.{common_steps}
use Rattle.litemap_short.proofs.short_store.ShortStoreStoreSlice.lm_get_range.Goals as goal

pub returns : goal.returns
returns g c =
    let lookup = rw (c.as_slice.ensures) at c.get.ensures.lookup in
    rw (← c.self.view_is) (grind (arith, common_steps, lookup))
