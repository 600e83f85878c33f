-- the bytes so far are written
use Rattle.std.proofs.Common.{◌-◌, false, length, take}
use Rattle.names_core.specs.Writes.{WritesText}
use Rattle.names_core.proofs.watch.WatchWrite.write_all.Given as goal

abbrev pub invariant-loop-done : goal.invariant-loop-done
invariant-loop-done g l = WritesText g.W.Write.contents l.fn.self l.self (take l.done l.buf) false

abbrev pub decreases-loop-done : goal.decreases-loop-done
decreases-loop-done g l = length l.buf - l.done
