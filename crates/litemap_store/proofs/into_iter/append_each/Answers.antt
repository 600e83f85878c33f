use Rattle.litemap_store.proofs.Names.{[], ◌++◌, ◌∙◌, ◌∷◌, ap, append_assoc, arith, length, rules, sym}
use Rattle.litemap_store.proofs.into_iter.append_each.Goals as goal

pub loop-key-preserved : goal.loop-key-preserved
loop-key-preserved g c =
    let first = g.met.I.PairIntoIter.first _ _ _ c.in-Some.ensures.steps in let shorter = ap length first in
    let room = c.loop-key.invariant.room in let after = c.push_reserved.ensures.room in record {
      can = g.met.I.PairIntoIter.can _;
      ends = search rules;
      list = rw c.push_reserved.ensures.pairs
          (append_assoc _ ((c.in-Some.key, c.in-Some.value) ∷ []) _ ∙ ap (λ L. g.S.Store.pairs c.loop-key.store ++ L) (sym first) ∙ c.loop-key.invariant.list);
      room = omega arith;
    }
