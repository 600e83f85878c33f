use Rattle.litemap_read.proofs.Runs.{runs_agree}
use Rattle.litemap_read.proofs.laws.same_results.Goals as goal

pub returns : goal.returns
returns g c = runs_agree g.K.Ord.cmp g.met.K.Ord.total
