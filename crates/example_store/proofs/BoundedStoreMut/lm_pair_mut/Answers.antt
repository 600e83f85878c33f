use Rattle.std.proofs.Common.{◌≡◌, ◌-◌, Some, min, slice_get, slice_set, vec_len, refl, sym, ap}
use Rattle.std.proofs.lemmas.Option.{slice_get_read}
use Rattle.std.specs.Option.{option_map_or}
use Rattle.litemap_store.specs.VecStore.{vec_room}
use Rattle.example_store.proofs.BoundedStoreMut.lm_pair_mut.Goals as goal

-- the pair at the index is there, so writing its value is `set_value` of the pairs
pub returns : goal.returns
returns g c =
    let items = c.self.inside.items in
    let room = min (vec_room items) (g.row.LIMIT - vec_len items) in
    let within = rw (← c.self.view_is) at c.requires in
    let at : slice_get items.items c.args.index ≡ Some c.index_mut-pair.result.now = slice_get_read _ _ _ _ refl within c.index_mut-pair.ensures.value in (
      (
        refl,
        λ w. rw (← c.self.view_is)
            (sym (ap (λ o. record { entries = option_map_or (λ p. slice_set items.items c.args.index (p.0, w)) o items.items; room = room }) at)),
      ),
      record { writes_back = tt; pair = rw (← c.self.view_is) at },
    )
