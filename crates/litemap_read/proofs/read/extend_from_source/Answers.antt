use Rattle.std.proofs.Common.{arith}
use Rattle.litemap_store.proofs.Last.FirstGiven.{some_refused}
use Rattle.litemap_read.proofs.Asked.{asked_refused}
use Rattle.litemap_read.proofs.read.extend_from_source.Goals as goal

-- the pairs that were read didn't go in, so there are some
pub returns-in_err-extend_from_vec-clause-asked : goal.returns-in_err-extend_from_vec-clause-asked
returns-in_err-extend_from_vec-clause-asked g c =
    let pairs = c.in_ok-pairs.pairs in
    let some = rw c.in_err-extend_from_vec.was at
    (some_refused g.K.Ord.cmp c.extend_from_vec.result c.args.map.now.entries pairs.items c.args.map.now.room c.extend_from_vec.ensures.succeeds) in
    asked_refused c.from_residual-in_err-extend_from_vec.result c.from_residual-in_err-extend_from_vec.ensures.1
    c.drain.ensures.rest c.drain.ensures.asked.leads (omega (arith, pairs.ok.0, c.in_ok-pairs.ensures.fewer, some))
