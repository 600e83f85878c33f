use Rattle.litemap.proofs.Common.{refl, arith, found_within}
use Rattle.litemap.proofs.Cuts.{IsCut-none, after_found, after_missing, before_found, before_missing}
use Rattle.litemap.proofs.map.LiteMap.start_of.Goals as goal

pub returns-in-Ok-clause-cut : goal.returns-in-Ok-clause-cut
returns-in-Ok-clause-cut g c =
    rw c.in-Included.is (before_found g.Q.Query.order (g.Q.Query.sought c.in-Included.key) c.args.self.now.entries c.in-Ok.index c.in-Ok.ensures.splits)

pub returns-in-Ok-2-clause-cut : goal.returns-in-Ok-2-clause-cut
returns-in-Ok-2-clause-cut g c =
    rw c.in-Included.is (before_missing g.Q.Query.order (g.Q.Query.sought c.in-Included.key) c.args.self.now.entries c.in-Ok.index c.in-Ok.ensures.splits)

pub returns-in-Ok-search-clause-cut : goal.returns-in-Ok-search-clause-cut
returns-in-Ok-search-clause-cut g c =
    rw c.in-Excluded.is (after_found g.Q.Query.order
    (g.Q.Query.sought c.in-Excluded.key) c.args.self.now.entries c.in-Ok-search.index c.in-Ok-search.ensures.splits)

pub returns-in-Err-clause-cut : goal.returns-in-Err-clause-cut
returns-in-Err-clause-cut g c =
    rw c.in-Excluded.is (after_missing g.Q.Query.order (g.Q.Query.sought c.in-Excluded.key) c.args.self.now.entries c.in-Err.index c.in-Err.ensures.splits)

pub returns-in-Unbounded-clause-cut : goal.returns-in-Unbounded-clause-cut
returns-in-Unbounded-clause-cut g c = rw c.in-Unbounded.is (IsCut-none _ c.args.self.now.entries (λ p. refl))

pub overflow_add-result : goal.overflow_add-result
overflow_add-result g c = let within = found_within _ _ _ _ c.in-Ok-search.ensures.splits in omega (arith, within)
