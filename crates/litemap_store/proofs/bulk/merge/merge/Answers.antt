use Rattle.litemap_store.proofs.Names.{[], ◌++◌, ◌∙◌, ap, Last}
use Rattle.litemap_store.proofs.Last.Taken.{last_by_firsts}
use Rattle.litemap_store.proofs.Merging.Walking.{walked}
use Rattle.litemap_store.proofs.bulk.merge.merge.Goals as goal

pub returns-clause-last : goal.returns-clause-last
returns-clause-last g c =
    let olds = c.lm_into_iter-olds.ensures ∙ ap g.S.Store.pairs c.replace.ensures.value in
    walked g.K.Ord.cmp g.met.K.Ord.total (λ a b. b) (λ a b. []) (λ A B M D. Last g.K.Ord.cmp (A ++ B) M) (last_by_firsts g.K.Ord.cmp g.met.K.Ord.total) _ _ _ _
    c.requires.store c.requires.pairs (rw (olds, c.lm_into_iter-news.ensures, c.replace-2.ensures.value) at c.walk.ensures.walks)
