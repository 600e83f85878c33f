-- the input so far is what the reader gave, with no error
use Rattle.std.proofs.Common.{◌≡◌, ◌-◌, ◌≤◌, vec_len}
use Rattle.std.specs.Io.KnownBytes.{Consumes}
use Rattle.names_core.specs.Watched.{NoCallAfterFault, met_fault}
use Rattle.names_core.proofs.input.read_input.Given as goal

abbrev pub invariant-loop-reader : goal.invariant-loop-reader
invariant-loop-reader g l =
    record {
      consumed : Consumes (g.R.Read.remaining l.fn.reader.inner) (g.R.Read.remaining l.reader.inner) l.input.items;
      bounded : vec_len l.input ≤ 1048577;
      unfailed : l.reader.failed ≡ l.fn.reader.failed;
      unmet : met_fault l.reader ≡ met_fault l.fn.reader;
      nothing_after : NoCallAfterFault l.fn.reader l.reader;
    }

abbrev pub decreases-loop-reader : goal.decreases-loop-reader
decreases-loop-reader g l = 1048577 - vec_len l.input
