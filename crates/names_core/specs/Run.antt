-- What a run of the program reads and writes, and which status it has.
use Rattle.std.specs.Prelude.{◌≡◌, ◌≢◌, ◌≤◌, ◌||◌, ◌↔◌, ℕ, List, Option, codes, true, false, length}
use Rattle.std.specs.Io.KnownBytes.{Consumes, IsAtEnd}
use Rattle.names_core.specs.declared.watch.Watch.{Watch}
use Rattle.names_core.specs.Told.{Told, line, most_input}
use Rattle.names_core.specs.Watched.{NoCallAfterFault, is_unsettled, met_fault, watched}
use Rattle.names_core.specs.Writes.{EndsRun}

-- a run leaves the reader and the writer as `input` and `output`, and ends with the status: `remaining` gives the bytes that a
-- reader has left, and `contents` those that a writer took, if they tell
pub record IsRun {R W : Type 0} (remaining : R → Option (List ℕ)) (contents : W → Option (List ℕ))
    (reader input : Watch R) (writer output : Watch W) (status : ℕ) : Type 0 where
  -- the status is 4 exactly if a call failed
  pub faults : reader.failed ≡ false → writer.failed ≡ false → (status ≡ 4) ↔ ((input.failed || output.failed) ≡ true)
  -- if no read failed, the bytes that were read tell what is written and the status
  pub told : input.failed ≡ false
      → (bytes : List ℕ) × (out : List ℕ) × (told : ℕ) × Consumes (remaining (watched reader)) (remaining (watched input)) bytes
      × Told bytes out told × EndsRun contents writer output out told status
      × (told ≢ 3 → length bytes ≤ most_input → IsAtEnd (remaining (watched input)))
  -- if a read failed, that line alone is written
  pub read_fault : reader.failed ≡ false → input.failed ≡ true → EndsRun contents writer output (line (codes "read fault")) 4 status
  -- no call is made through either after a failed one of its own, and none through the reader after a failed one of the writer
  pub reader_stops : NoCallAfterFault reader input
  pub writer_stops : NoCallAfterFault writer output
  pub reads_come_first : met_fault writer ≡ false → is_unsettled input ≡ false
