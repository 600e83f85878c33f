use Rattle.litemap.proofs.Queried.{is_least}
use Rattle.litemap.proofs.map.LiteMap.pop_first.Goals as goal

pub returns-clause-least : goal.returns-clause-least
returns-clause-least g c = is_least g.met.K.Ord.total c.args.self.now.entries c.take_at.result c.take_at.ensures.rising c.take_at.ensures.old
