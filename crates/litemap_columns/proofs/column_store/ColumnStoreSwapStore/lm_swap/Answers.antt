use Rattle.litemap_columns.proofs.Columns.{same_length, within-columns, within-keys, within-values, zip-swap}
use Rattle.litemap_columns.proofs.column_store.ColumnStoreSwapStore.lm_swap.Goals as goal

pub swap-requires : goal.swap-requires
swap-requires g c = record {
  i_in_bounds = within-keys c.self.inside.keys c.self.inside.values c.args.a c.self.invariant (rw (← c.self.view_is) at c.requires.a);
  j_in_bounds = within-keys c.self.inside.keys c.self.inside.values c.args.b c.self.invariant (rw (← c.self.view_is) at c.requires.b);
}

pub swap-requires-2 : goal.swap-requires-2
swap-requires-2 g c = record {
  i_in_bounds = within-values c.self.inside.keys c.self.inside.values c.args.a c.self.invariant (rw (← c.self.view_is) at c.requires.a);
  j_in_bounds = within-values c.self.inside.keys c.self.inside.values c.args.b c.self.invariant (rw (← c.self.view_is) at c.requires.b);
}

pub returns-clause-pairs : goal.returns-clause-pairs
returns-clause-pairs g c =
    let same = same_length c.self.inside.keys c.self.inside.values c.self.invariant in
    let a = within-columns c.self.inside.keys c.self.inside.values c.args.a c.self.invariant (rw (← c.self.view_is) at c.requires.a) in
    let b = within-columns c.self.inside.keys c.self.inside.values c.args.b c.self.invariant (rw (← c.self.view_is) at c.requires.b) in
    rw (← c.self.view_is, c.swap.ensures.items, c.swap-2.ensures.items)
    (zip-swap c.self.inside.keys.items c.self.inside.values.items c.args.a c.args.b same a b)
