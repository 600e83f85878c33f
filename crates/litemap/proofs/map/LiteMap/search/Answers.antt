use Rattle.litemap.proofs.Common.{rules, Ascends-by_query, Splits-from_Finds}
use Rattle.litemap_store.proofs.Search.Shapes.{shape_steady}
use Rattle.litemap.proofs.map.LiteMap.search.Goals as goal

pub returns-clause-splits : goal.returns-clause-splits
returns-clause-splits g c =
    let one = g.met.Q.Query.one_side in
    let sought = g.Q.Query.sought c.args.key in
    let ascends = Ascends-by_query one _ sought c.self.invariant in
    rw (← c.self.view_is)
    (Splits-from_Finds one _ sought c.self.invariant _
    (c.lm_binary_search_by.ensures.found.at (λ x. g.Q.Query.order x sought) (shape_steady _ _ _ _ (λ p a. tt) (λ p r f' k. search rules) ascends)))
