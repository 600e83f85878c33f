use Rattle.litemap_store.proofs.Names.{◌≤◌, Err, IfErr, key_one_side, length, Ok, rules, Splits}
use Rattle.litemap_store.proofs.Lists.Seams.{missing_within}
use Rattle.litemap_store.proofs.Search.Shapes.{shape_steady}
use Rattle.litemap_store.proofs.Search.Splitting.{Ascends-by_query, Splits-from_Finds}
use Rattle.litemap_store.proofs.searches.search.Goals as goal

pub returns-clause-splits : goal.returns-clause-splits
returns-clause-splits g c =
    let one = key_one_side g.met.K.Ord.total in
    let ascends = Ascends-by_query one _ c.args.key.now c.requires in
    Splits-from_Finds one _ c.args.key.now c.requires _
    (c.lm_binary_search_by.ensures.found.at (λ x. g.K.Ord.cmp x c.args.key.now) (shape_steady _ _ _ _ (λ p a. tt) (λ p r f' k. search rules) ascends))

pub returns-clause-missing : goal.returns-clause-missing
returns-clause-missing g c =
    elim c.lm_binary_search_by.result as
    (λ r. Splits g.K.Ord.cmp (g.S.Store.pairs c.args.store.now) c.args.key.now r → IfErr r (λ i. i ≤ length (g.S.Store.pairs c.args.store.now)))
    [ Ok i ↦ λ s. tt | Err i ↦ λ s. missing_within g.K.Ord.cmp (g.S.Store.pairs c.args.store.now) c.args.key.now i s ] (returns-clause-splits g c)
