use Rattle.std.proofs.Common.{arith}
use Rattle.std.specs.Slice.Iter.{iter_mut_rest, iter_rest}
use Rattle.litemap_store.proofs.Lists.Alongside.{zip_with_none}
use Rattle.litemap_store.proofs.iter_mut.IterMutIterator.next.Goals as goal

pub returns-then-len-eq0-clause-steps : goal.returns-then-len-eq0-clause-steps
returns-then-len-eq0-clause-steps g c =
    let e = zip_with_none (iter_rest c.args.self.now.keys) (iter_mut_rest c.args.self.now.values) (omega (arith, c.len.ensures.value, c.if-len-eq0.true)) in
    (e, e)
