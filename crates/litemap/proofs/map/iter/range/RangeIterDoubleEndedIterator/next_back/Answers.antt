use Rattle.litemap.proofs.Common.{sym, ap, ◌∙◌, option_map, arith, deref_pair, length, length-append}
use Rattle.litemap.proofs.Places.{last_of}
use Rattle.litemap.proofs.map.iter.range.RangeIterDoubleEndedIterator.next_back.Goals as goal

pub returns-clause-steps : goal.returns-clause-steps
returns-clause-steps g c =
    sym c.self.view_is
    ∙ last_of (g.S.Store.pairs c.self.inside.store.now) c.self.inside.start c.self.inside.end (deref_pair c.unwrap-pair.result) (omega arith)
    (sym c.lm_get.ensures ∙ ap (option_map deref_pair) c.unwrap-pair.ensures)

pub returns-clause-goes : goal.returns-clause-goes
returns-clause-goes g c =
    record { on = λ _. (tt, tt, omega (arith, simp length-append at (ap length (returns-clause-steps g c)))); keeps = tt; rests = λ _. tt }
