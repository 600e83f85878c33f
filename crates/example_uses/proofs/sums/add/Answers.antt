use Rattle.std.proofs.Common.{◌+◌, ◌∙◌, ap, nat_cmp, rules, unwrap_or}
use Rattle.litemap_store.specs.Pairs.{at, value_at}
use Rattle.example_uses.proofs.Vectors.{number-found}
use Rattle.example_uses.proofs.sums.add.Goals as goal

pub returns-clause-added : goal.returns-clause-added
returns-clause-added c = λ i.
    let found = c.in_ok-extend_with.ensures.found (λ _ here new. here + new) (λ _ _ _ _ w.
    let called = w.called in
    let leaves = w.leaves in
    let shows = w.shows in
    search (rules, called, leaves, shows)) i in
    ap (λ o. unwrap_or o 0) found ∙ number-found (value_at nat_cmp c.args.sum.now.entries i) (at nat_cmp c.args.other.entries i)
