-- the lines so far are done, and those that are left follow them
use Rattle.std.proofs.Common.{◌≡◌, ◌≤◌, ◌+◌, ◌++◌, false, List, ℕ, length}
use Rattle.names_core.specs.Line.{lines_left, lines_of}
use Rattle.names_core.specs.Reply.{names_of}
use Rattle.names_core.specs.Told.{DoesAll}
use Rattle.names_core.specs.Writes.{WritesText}
use Rattle.names_core.proofs.program.answer_lines.Given as goal

abbrev pub invariant-loop-rest : goal.invariant-loop-rest
invariant-loop-rest g l =
    record {
      before : List (List ℕ);
      text : List ℕ;
      lines : lines_of l.fn.input ≡ before ++ lines_left l.rest;
      counted : l.done ≡ length before;
      leaves : DoesAll before text (names_of l.names);
      writes : WritesText g.W.Write.contents l.fn.writer l.writer text false;
      bounded : l.done + length (lines_left l.rest) ≤ length l.fn.input + 1;
    }

abbrev pub decreases-loop-rest : goal.decreases-loop-rest
decreases-loop-rest g l = length (lines_left l.rest)
