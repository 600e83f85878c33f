use Rattle.std.proofs.Common.{min, refl, ap}
use Rattle.litemap_store.specs.VecStore.{vec_room}
use Rattle.litemap_columns.proofs.Columns.{columns-read, within-keys, within-values, zip-set_value}
use Rattle.litemap_columns.proofs.column_store.ColumnStoreStoreMut.lm_pair_mut.Goals as goal

pub index-requires : goal.index-requires
index-requires g c = within-keys c.self.inside.keys c.self.inside.values c.args.index c.self.invariant (rw (← c.self.view_is) at c.requires)

pub index_mut-requires : goal.index_mut-requires
index_mut-requires g c = within-values c.self.inside.keys c.self.inside.values c.args.index c.self.invariant (rw (← c.self.view_is) at c.requires)

pub returns : goal.returns
returns g c =
    let keys = c.self.inside.keys in
    let values = c.self.inside.values in
    let at = columns-read c.self.inside.keys c.self.inside.values c.args.index c.self.invariant
    (rw (← c.self.view_is) at c.requires) _ _ c.index.ensures c.index_mut.ensures.value in (
      (
        refl,
        λ w. rw (← c.self.view_is)
            (ap (λ L. record { entries = L; room = min (vec_room keys) (vec_room values) }) (zip-set_value keys.items values.items c.args.index w)),
      ),
      record { writes_back = tt; pair = rw (← c.self.view_is) at },
    )
