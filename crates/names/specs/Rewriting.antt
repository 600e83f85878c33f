-- What rewriting of flags reads and writes. A boolean's text is `true` or `false`, and items are numbers below 2 ^ 32.
use Rattle.std.specs.Prelude.{◌≡◌, ◌≢◌, ℕ, pos, Bool, List, Some, None, Result, Ok, Err, IsUtf8, ⊤}
use Rattle.std.specs.Ordering.{bool_cmp}
use Rattle.serde_json.specs.Data.{Data, boolean}
use Rattle.serde_json.specs.Read.{read as read_text}
use Rattle.serde_json.specs.Written.{compact_text}
use Rattle.litemap_json.specs.Item.{bool_item, bool_key, bool_text, unsigned_fits, whole_item, whole_json}
use Rattle.litemap_json.specs.Json.{pairs, tree}
use Rattle.litemap_json.specs.Reading.{ReadsAs}
use Rattle.litemap_json.specs.declared.fault.WriteFault.{WriteFault}
use Rattle.litemap_json.specs.declared.fault.JsonFault.{JsonFault}
use Rattle.litemap_json.specs.declared.fault.JsonFault.TheVariants as reading
use Rattle.names.specs.declared.flags.FlagsFault.{FlagsFault}
use Rattle.names.specs.declared.flags.FlagsFault.TheVariants.{Memory, NotJson, Json}

-- the bytes are the text of this JSON value
abbrev pub IsJsonText : List ℕ → Data → Type 0
IsJsonText bytes value = IsUtf8 bytes × (read_text bytes ≡ Some value)

-- the pairs that the value spells, or its first error
abbrev pub flag_pairs : Data → Result (List (Data × Data)) JsonFault
flag_pairs value = pairs bool_key bool_item (whole_item (unsigned_fits 32)) value

-- the value spells pairs, and these are the last ones of them
abbrev pub FlagsReadAs : Data → List (Bool × ℕ) → Type 0
FlagsReadAs value flags =
    ReadsAs bool_cmp bool_key bool_item (whole_item (unsigned_fits 32)) boolean (λ n. whole_json (pos n)) value flags

-- the tree of flags as it is written now
abbrev pub flags_tree : List (Bool × ℕ) → Result Data WriteFault
flags_tree flags = tree (λ flag. Some (bool_text flag)) boolean (λ n. whole_json (pos n)) flags

-- the bytes were read as a JSON value, that as flags, and the text is the compact one of the flags' tree
pub record IsRewritten (bytes text : List ℕ) : Type 0 where
  pub old : Data
  pub flags : List (Bool × ℕ)
  pub new : Data
  pub read : IsJsonText bytes old
  pub spelled : FlagsReadAs old flags
  pub made : flags_tree flags ≡ Ok new
  pub written : text ≡ compact_text new

-- the error is the bytes' own, or that of the value that they are the text of; or memory ran out
abbrev pub IsFlagsFault : List ℕ → FlagsFault → Type 0
IsFlagsFault bytes Memory = ⊤
IsFlagsFault bytes NotJson = IsUtf8 bytes → read_text bytes ≡ None
IsFlagsFault bytes (Json fault) =
    (fault ≢ reading.Memory) × (value : Data) × IsJsonText bytes value × (flag_pairs value ≡ Err fault)
