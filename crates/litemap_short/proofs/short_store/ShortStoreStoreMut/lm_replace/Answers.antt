use Rattle.std.proofs.Common.{◌≡◌, ◌<◌, length, Some, slice_get, refl, rules}
use Rattle.std.proofs.lemmas.Option.{slice_get_read}
use Rattle.litemap_short.specs.Storage.{storage_items}
use Rattle.litemap_short.proofs.Lending.{items-with_item, room-with_item}
use Rattle.litemap_short.proofs.short_store.ShortStoreStoreMut.lm_replace.Goals as goal

pub item_mut-requires : goal.item_mut-requires
item_mut-requires g c = (search rules, rw (← c.self.view_is) at c.requires)

pub returns-clause-old : goal.returns-clause-old
returns-clause-old g c =
    let storage = c.self.inside.storage in
    let within : c.args.index < length (storage_items storage) = rw (← c.self.view_is) at c.requires in
    let at : slice_get (storage_items storage) c.args.index ≡ Some c.item_mut.result.now = slice_get_read _ _ _ _ refl within c.item_mut.ensures.value in
    rw (← c.self.view_is, c.replace.ensures.value) at

pub returns-clause-pairs : goal.returns-clause-pairs
returns-clause-pairs g c =
    rw (← c.self.view_is, c.replace.ensures.after)
    (items-with_item c.self.inside.storage c.args.index (c.args.key, c.args.value) (rw (← c.self.view_is) at c.requires))

pub returns-clause-room : goal.returns-clause-room
returns-clause-room g c =
    rw (← c.self.view_is, c.replace.ensures.after) (room-with_item c.self.inside.storage c.args.index (c.args.key, c.args.value))
