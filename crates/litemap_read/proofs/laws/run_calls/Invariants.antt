use Rattle.std.proofs.Common.{◌+◌, ◌≤◌, length}
use Rattle.std.specs.Prelude.{vec_capacity, vec_len}
use Rattle.std.specs.Vec.Iter.{into_iter_items}
use Rattle.litemap_read.specs.Steps.{Run}
use Rattle.litemap_read.proofs.laws.run_calls.Given as goal

abbrev pub invariant-loop-call : goal.invariant-loop-call
invariant-loop-call g l = record {
  run : Run g.K.Ord.cmp l.fn.map l.yielded l.answers.items l.map;
  room : vec_len l.answers + length (into_iter_items l.call-iterator) ≤ vec_capacity l.answers;
}
