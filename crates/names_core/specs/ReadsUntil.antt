-- How reading ended, and what it leaves.
use Rattle.std.specs.Prelude.{◌≡◌, ◌<◌, ◌≤◌, ℕ, Bool, true, List, length, Option}
use Rattle.std.specs.Io.KnownBytes.{IsAtEnd}
use Rattle.names_core.specs.declared.input.InputEnd.{InputEnd}
use Rattle.names_core.specs.declared.input.InputEnd.TheVariants.{Whole, TooLong, NoMemory, Fault}
use Rattle.names_core.specs.declared.input.TheConstants.{MOST_BYTES}

-- `before` and `after` say whether a call of the reader had failed, `rest` is what it has left, if it tells
abbrev pub ReadsUntil : InputEnd → Bool → Bool → Option (List ℕ) → List ℕ → Type 0
ReadsUntil Whole before after rest input = (length input ≤ MOST_BYTES) × IsAtEnd rest × (after ≡ before)
ReadsUntil TooLong before after rest input = (MOST_BYTES < length input) × (after ≡ before)
ReadsUntil NoMemory before after rest input = (length input ≤ MOST_BYTES) × (after ≡ before)
ReadsUntil Fault before after rest input = after ≡ true
