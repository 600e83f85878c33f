use Rattle.std.proofs.Common.{ap, option_map, ◌∙◌}
use Rattle.litemap_set.proofs.Keys.{find-keys}
use Rattle.litemap_set.proofs.VecSet.get.Goals as goal

pub returns-clause-key : goal.returns-clause-key
returns-clause-key g c =
    rw (← c.self.view_is)
    (ap (option_map (λ p. p.0)) c.in-Some.ensures.pair ∙ find-keys g.Q.Query.order (g.Q.Query.sought c.args.key) c.self.inside.map.entries)

pub returns-in_default-clause-key : goal.returns-in_default-clause-key
returns-in_default-clause-key g c =
    rw (← c.self.view_is)
    (ap (option_map (λ p. p.0)) c.in_default.ensures.pair ∙ find-keys g.Q.Query.order (g.Q.Query.sought c.args.key) c.self.inside.map.entries)
