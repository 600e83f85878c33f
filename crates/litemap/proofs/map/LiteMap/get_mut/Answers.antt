use Rattle.litemap.proofs.Common.{◌∙◌, Ok, Some, inl, sym, with_pairs, found_value, found_write, found_within}
use Rattle.litemap.proofs.Queried.{member}
use Rattle.litemap.proofs.Updating.{finds_write, keys_stay}
use Rattle.litemap.proofs.Writing.{keys_of-write, length-write}
use Rattle.litemap.proofs.map.LiteMap.get_mut.Goals as goal

pub returns-in-Ok : goal.returns-in-Ok
returns-in-Ok g c =
    let finds = finds_write g.Q.Query.order (g.Q.Query.sought c.args.key) c.args.self.now.entries c.in-Ok.index c.in-Ok.ensures.splits in
    let value = sym c.value_in_mut.ensures.value ∙ found_value _ _ _ _ c.in-Ok.ensures.splits in (
      λ i. inl (c.value_in_mut.result.ghost_name, λ w. with_pairs c.args.self.now (found_write _ _ _ _ c.in-Ok.ensures.splits w i)),
      record {
        writes_back = tt;
        value = value;
        member = member g.Q.Query.order (g.Q.Query.sought c.args.key) c.args.self.now.entries (Some c.value_in_mut.result.now) value;
        updates = λ v there. finds v;
        others = λ v there. keys_stay g.met.Q.Query.respects _ _ _ (finds v).others;
        keys = keys_of-write _ _ _ (Ok _) c.in-Ok.ensures.splits;
        len = length-write _ _ _ (Ok _) c.in-Ok.ensures.splits;
        rising = c.in-Ok.ensures.rising;
      },
    )

pub value_in_mut-requires : goal.value_in_mut-requires
value_in_mut-requires g c = found_within _ _ _ _ c.in-Ok.ensures.splits
