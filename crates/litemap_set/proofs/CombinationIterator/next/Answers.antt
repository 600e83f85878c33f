use Rattle.std.proofs.Common.{length, ap, arith, sym, ◌∙◌}
use Rattle.std.proofs.lemmas.List.{nil_from_length}
use Rattle.std.specs.Map.{keys_of}
use Rattle.litemap_set.proofs.Walking.{walk_last}
use Rattle.litemap_set.proofs.CombinationIterator.next.Goals as goal

pub returns-in_default-split_first-clause-steps : goal.returns-in_default-split_first-clause-steps
returns-in_default-split_first-clause-steps g c =
    let now = c.loop-x.self-inside in
    sym c.self.view_is
    ∙ c.loop-x.invariant
    ∙ walk_last g.K.Ord.cmp now.yields.0 now.yields.1 now.yields.2 c.if-not-self-2.false (keys_of now.one.now) (keys_of c.in-Some.one.now)
    (keys_of now.other.now) c.in-Some.x.now.0
    (ap keys_of c.in-Some.ensures.cases.0) (ap keys_of (nil_from_length _ c.in_default-split_first.ensures.cases))

pub returns-in_default-split_first-clause-goes : goal.returns-in_default-split_first-clause-goes
returns-in_default-split_first-clause-goes g c =
    record { on = λ _. (tt, tt, omega (arith, ap length (returns-in_default-split_first-clause-steps g c))); keeps = tt; rests = λ _. tt }
