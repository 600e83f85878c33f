use Rattle.litemap.proofs.Common.{refl}
use Rattle.litemap.proofs.Cuts.{IsCut-all}
use Rattle.litemap.proofs.map.LiteMap.end_of.Goals as goal

pub returns-in-Included-clause-cut : goal.returns-in-Included-clause-cut
returns-in-Included-clause-cut g c = rw c.in-Included.is c.start_of.ensures.cut

pub returns-in-Excluded-clause-cut : goal.returns-in-Excluded-clause-cut
returns-in-Excluded-clause-cut g c = rw c.in-Excluded.is c.start_of-in-Excluded.ensures.cut

pub returns-in-Unbounded-clause-cut : goal.returns-in-Unbounded-clause-cut
returns-in-Unbounded-clause-cut g c = rw (c.in-Unbounded.is, c.len.ensures.len) (IsCut-all _ c.args.self.now.entries (λ p. refl))
