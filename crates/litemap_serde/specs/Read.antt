-- Where a reading of a map begins and ends, by the steps of its format.
-- `E` and `M` are the format's `Error` and `Mark`.
use Rattle.std.specs.Prelude.{Bool, ℕ, List, false, true}
use Rattle.serde.specs.Event.{Event, map_ends, seq_ends, struct_begins}
use Rattle.serde.specs.Steps.{Begins, Gives}
use Rattle.serde.specs.declared.deserializer.Deserializer.{Deserializer}

-- a sequence ends, or a map
abbrev pub struct_ends : Bool → Event
struct_ends true = seq_ends
struct_ends false = map_ends

-- the last step read the end
abbrev pub EndsStruct : {F E M : Type 0} → (F → List ℕ → Event → F → Type 0) → Bool → Deserializer F E M → Type 0
EndsStruct {F} {E} {M} gives is_seq new = (before : Deserializer F E M) × Gives gives before (struct_ends is_seq) new

-- the first step read the beginning of a map or of a sequence, and the last one its end
abbrev pub ReadsWhole : {F E M : Type 0} → (F → List ℕ → Event → F → Type 0) → (F → F → Type 0) → Deserializer F E M
    → Deserializer F E M → Type 0
ReadsWhole {F} {E} {M} gives stays old new = (is_seq : Bool) × (first : Deserializer F E M)
    × Begins gives stays old (struct_begins is_seq) first × EndsStruct gives is_seq new
