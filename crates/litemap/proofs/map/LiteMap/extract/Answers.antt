use Rattle.litemap.proofs.Common.{ap, arith, length}
use Rattle.litemap.proofs.Callable.{on_each}
use Rattle.litemap.proofs.Parting.{Rising-parted, filter-parted}
use Rattle.litemap.proofs.Queried.{keeps_part}
use Rattle.litemap.proofs.map.LiteMap.extract.Goals as goal

pub from_sorted_store_unchecked-requires : goal.from_sorted_store_unchecked-requires
from_sorted_store_unchecked-requires g c =
    (Rising-parted g.K.Ord.cmp g.F.FnMut _ _ _ _ (rw c.replace-all.ensures.value at c.part.ensures) c.self.invariant).1

pub invariant_of-self : goal.invariant_of-self
invariant_of-self g c =
    (Rising-parted g.K.Ord.cmp g.F.FnMut _ _ _ _ (rw c.replace-all.ensures.value at c.part.ensures) c.self.invariant).0

pub returns-clause-filtered : goal.returns-clause-filtered
returns-clause-filtered g c test tests =
    rw c.from_sorted_store_unchecked.ensures.pairs (filter-parted g.F.FnMut c.args.f test tests _ _ _
    (rw (c.replace-all.ensures.value, ap (λ m. m.entries) c.self.view_is) at c.part.ensures))

pub returns-clause-parts : goal.returns-clause-parts
returns-clause-parts g c test tests =
    let both = returns-clause-filtered g c test tests in (keeps_part _ _ _ both.0, keeps_part _ _ _ both.1)

pub part-requires-clause-stays : goal.part-requires-clause-stays
part-requires-clause-stays g c =
    rw (c.replace-all.ensures.after, c.replace-all.ensures.value)
    (c.in_ok-stays.ensures.empty, omega (arith, c.in_ok-stays.ensures.room, ap (λ m. length m.entries) c.self.view_is))

pub part-requires-clause-goes : goal.part-requires-clause-goes
part-requires-clause-goes g c =
    rw c.replace-all.ensures.value (c.in_ok-goes.ensures.empty, omega (arith, c.in_ok-goes.ensures.room, ap (λ m. length m.entries) c.self.view_is))

pub part-requires-clause-callable : goal.part-requires-clause-callable
part-requires-clause-callable g c =
    rw c.replace-all.ensures.value (on_each g.met.K.Ord.total _ _ (ap (λ m. m.entries) c.self.view_is) c.self.invariant c.args.f g.F.FnMut c.requires)
