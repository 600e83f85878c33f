use Rattle.std.proofs.Common.{◌≡◌, ◌-◌, Some, slice_get, slice_set, vec_len, refl, sym, ap}
use Rattle.std.proofs.lemmas.Option.{slice_get_read}
use Rattle.std.specs.Option.{option_map_or}
use Rattle.example_store.proofs.fixed_room.FixedRoomStoreMut.lm_pair_mut.Goals as goal

pub returns : goal.returns
returns g c =
    let pairs = c.self.inside.items.items in
    let room = c.self.inside.limit - vec_len c.self.inside.items in
    let within = rw (← c.self.view_is) at c.requires in
    let at : slice_get pairs c.args.index ≡ Some c.index_mut-pair.result.now = slice_get_read _ _ _ _ refl within c.index_mut-pair.ensures.value in (
      (
        refl,
        λ w. rw (← c.self.view_is)
            (sym (ap (λ o. record { entries = option_map_or (λ p. slice_set pairs c.args.index (p.0, w)) o pairs; room = room }) at)),
      ),
      record { writes_back = tt; pair = rw (← c.self.view_is) at },
    )
