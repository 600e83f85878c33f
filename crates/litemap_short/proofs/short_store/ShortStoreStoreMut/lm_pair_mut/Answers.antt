use Rattle.std.proofs.Common.{◌≡◌, ◌<◌, length, Some, slice_get, refl, rules}
use Rattle.std.proofs.lemmas.Option.{slice_get_read}
use Rattle.litemap_short.specs.Storage.{storage_items}
use Rattle.litemap_short.proofs.Lending.{written}
use Rattle.litemap_short.proofs.short_store.ShortStoreStoreMut.lm_pair_mut.Goals as goal

pub item_mut-pair-requires : goal.item_mut-pair-requires
item_mut-pair-requires g c = (search rules, rw (← c.self.view_is) at c.requires)

pub returns : goal.returns
returns g c =
    let storage = c.self.inside.storage in
    let pair = c.item_mut-pair.result.now in
    let within : c.args.index < length (storage_items storage) = rw (← c.self.view_is) at c.requires in
    let at : slice_get (storage_items storage) c.args.index ≡ Some pair = slice_get_read _ _ _ _ refl within c.item_mut-pair.ensures.value in (
      (refl, λ w. rw (← c.self.view_is) (written storage c.args.index pair w within at)),
      record { writes_back = tt; pair = rw (← c.self.view_is) at },
    )
