use Rattle.std.proofs.Common.{false, drop, take, take-add}
use Rattle.std.proofs.lemmas.Bool.{ne_eqb}
use Rattle.std.proofs.lemmas.List.{take_rest}
use Rattle.names_core.specs.Writes.{WritesText}
use Rattle.names_core.proofs.Writes.{WritesText-after}
use Rattle.names_core.proofs.watch.WatchWrite.write_all.Goals as goal

pub loop-done-preserved : goal.loop-done-preserved
loop-done-preserved g c =
    let rest = drop c.loop-done.done c.args.buf.now in
    let calm = ne_eqb c.in_ok-n.n 0 c.if-n-eq0.false in
    let wrote : WritesText g.W.Write.contents c.loop-done.self c.write.new.self (take c.in_ok-n.n rest) false = record {
      takes = rw take_rest at c.in_ok-n.ensures.bytes;
      failed = rw calm at c.in_ok-n.ensures.failed;
      met = rw calm at c.in_ok-n.ensures.noted.0;
      nothing_after = λ unmet. rw unmet at c.in_ok-n.ensures.noted.1;
    } in
    rw take-add (WritesText-after _ _ _ _ _ _ false c.loop-done.invariant wrote)
