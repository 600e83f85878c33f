use Rattle.std.proofs.Common.{◌∙◌}
use Rattle.litemap_set.proofs.Keys.{contains-keys}
use Rattle.litemap_set.proofs.VecSet.contains.Goals as goal

pub returns : goal.returns
returns g c = rw (← c.self.view_is) (c.contains_key.ensures ∙ contains-keys g.Q.Query.order (g.Q.Query.sought c.args.key) c.self.inside.map.entries)
