use Rattle.litemap.proofs.Common.{sym, ◌∙◌, deref_pair, ap, arith, length}
use Rattle.litemap.proofs.Places.{first_of}
use Rattle.litemap.proofs.map.iter.range.RangeIterIterator.next.Goals as goal

pub returns-clause-steps : goal.returns-clause-steps
returns-clause-steps g c =
    sym c.self.view_is ∙ first_of (g.S.Store.pairs c.self.inside.store.now) c.self.inside.start c.self.inside.end (deref_pair c.in_ok-pair.pair)
    (rw c.self.view_is (sym c.in_ok-pair.ensures))

pub returns-clause-goes : goal.returns-clause-goes
returns-clause-goes g c = record { on = λ _. (tt, tt, omega (arith, ap length (returns-clause-steps g c))); keeps = tt; rests = λ _. tt }
