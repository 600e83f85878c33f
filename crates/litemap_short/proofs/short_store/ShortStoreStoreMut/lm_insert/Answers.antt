use Rattle.std.proofs.Common.{arith, rules}
use Rattle.std.proofs.lemmas.Grind.{common_steps}
use Rattle.litemap_short.proofs.short_store.ShortStoreStoreMut.lm_insert.Goals as goal

pub insert_reserved-requires : goal.insert_reserved-requires
insert_reserved-requires g c =
    (search rules, (rw c.reserve.ensures.items (rw (← c.self.view_is) at c.requires), grind (arith, common_steps)))

pub returns-clause-ok : goal.returns-clause-ok
returns-clause-ok g c = rw (← c.self.view_is, ← c.reserve.ensures.items) c.insert_reserved.ensures.items
