use Rattle.litemap_store.proofs.Names.{[], ◌++◌, ◌∙◌, ◌∷◌, ap, arith, sym}
use Rattle.litemap_store.proofs.Last.Taken.{taken_last}
use Rattle.litemap_store.proofs.reserved.take_last.Goals as goal

pub returns-clause-pairs : goal.returns-clause-pairs
returns-clause-pairs g c =
    taken_last (g.S.Store.pairs c.args.store.now) _ c.lm_remove.result (omega arith) c.lm_remove.ensures.old
    ∙ ap (λ M. M ++ c.lm_remove.result ∷ []) (sym c.lm_remove.ensures.pairs)
