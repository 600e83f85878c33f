-- What counts as a failed write, and what is written through a `Watch`.
use Rattle.std.specs.Prelude.{◌≡◌, ◌<◌, ◌⊎◌, ◌||◌, ◌&&◌, ◌==◌, ℕ, Bool, true, false, not, List, length, take}
use Rattle.std.specs.Prelude.{Option, Result, Ok, Err}
use Rattle.std.specs.Io.KnownBytes.{Appends}
use Rattle.names_core.specs.declared.watch.Watch.{Watch}
use Rattle.names_core.specs.Watched.{NoCallAfterFault, met_fault, watched}

-- an error was returned, or nothing was taken of a text that isn't empty
abbrev pub is_write_fault : {E : Type 0} → Result ℕ E → List ℕ → Bool
is_write_fault (Ok n) buf = n == 0 && not (length buf == 0)
is_write_fault (Err e) buf = true

-- the text was taken, or, if an error cut it short, the front of it and not all: `old` and `new` are what the writer holds, if
-- it tells
abbrev pub Takes : Option (List ℕ) → Option (List ℕ) → List ℕ → Bool → Type 0
Takes old new text false = Appends old new text
Takes old new text true = (n : ℕ) × (n < length text) × Appends old new (take n text)

-- the text was written through the watch, or an error cut it short: that is noted, and no call follows it
pub record WritesText {W : Type 0} (contents : W → Option (List ℕ)) (old new : Watch W) (text : List ℕ) (fault : Bool) : Type 0 where
  pub takes : Takes (contents (watched old)) (contents (watched new)) text fault
  pub failed : new.failed ≡ (fault || old.failed)
  pub met : met_fault new ≡ (fault || met_fault old)
  pub nothing_after : NoCallAfterFault old new

-- the text was written, and the status is this one, or an error cut it short, and it is 4
abbrev pub EndsRun : {W : Type 0} → (W → Option (List ℕ)) → Watch W → Watch W → List ℕ → ℕ → ℕ → Type 0
EndsRun contents old new text status result =
    ((result ≡ status) × WritesText contents old new text false) ⊎ ((result ≡ 4) × WritesText contents old new text true)
