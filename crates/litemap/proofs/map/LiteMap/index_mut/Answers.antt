use Rattle.litemap.proofs.Common.{◌∙◌, Some, ap, refl, sym, with_pairs, found_value, found_write, found_within}
use Rattle.litemap.proofs.Queried.{member}
use Rattle.litemap.proofs.Updating.{finds_write, keys_stay}
use Rattle.litemap.proofs.map.LiteMap.index_mut.Goals as goal

pub returns : goal.returns
returns g c =
    let f = rw c.unwrap-index.ensures at c.search.ensures.splits in
    let finds = finds_write g.Q.Query.order (g.Q.Query.sought c.args.key) c.args.self.now.entries c.unwrap-index.result f in
    let value = sym c.value_in_mut.ensures.value ∙ found_value _ _ _ _ f in (
      (refl, λ w. ap (with_pairs c.args.self.now) (found_write _ _ _ _ f w)),
      record {
        writes_back = tt;
        value = value;
        member = member g.Q.Query.order (g.Q.Query.sought c.args.key) c.args.self.now.entries (Some c.value_in_mut.result.now) value;
        updates = finds;
        others = λ v. keys_stay g.met.Q.Query.respects _ _ _ (finds v).others;
      },
    )

pub value_in_mut-requires : goal.value_in_mut-requires
value_in_mut-requires g c = found_within _ _ _ _ (rw c.unwrap-index.ensures at c.search.ensures.splits)
