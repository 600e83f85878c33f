use Rattle.std.proofs.Common.{rules}
use Rattle.example_uses.proofs.scores.raise.Goals as goal

-- what the closure leaves of a pair, and that it keeps no state
pub returns : goal.returns
returns c = c.update.ensures.mapped _ (λ _ _ _ w.
    let called = w.called in
    let leaves = w.leaves in
    let shows = w.shows in
    (search (rules, called, leaves, shows), search (rules, called)))
