use Rattle.litemap_store.proofs.Names.{[], ◌∙◌, ◌∷◌, ◌≡◌, ap, left, Merge}
use Rattle.litemap_store.proofs.Merging.Walking.{merge_by_firsts, walked}
use Rattle.litemap_store.proofs.merge.side_by_side.merge_side_by_side.Goals as goal

pub returns-clause-merges : goal.returns-clause-merges
returns-clause-merges g c =
    let olds = c.lm_into_iter-olds.ensures ∙ ap g.S.Store.pairs c.replace.ensures.value in
    let whole = walked g.K.Ord.cmp g.met.K.Ord.total (λ a b. (a.0, b.1)) (λ a b. (b.0, a.1) ∷ [])
    (λ A B M D. Merge g.K.Ord.cmp A B M × (D ≡ left g.K.Ord.cmp A B)) (merge_by_firsts g.K.Ord.cmp g.met.K.Ord.total) _ _ _ _ c.requires.store c.requires.other
    (rw (olds, c.lm_into_iter.ensures) at c.walk.ensures.walks) in
    record { merged = whole.0; none = rw whole.1 at c.unless_empty.ensures.none; left = rw whole.1 at c.unless_empty.ensures.some; unchanged = tt; back = tt }
