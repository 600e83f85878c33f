-- The laws over the definitions of a run, which the functions of the module `laws` have as their contracts.
use Rattle.std.specs.Prelude.{◌≡◌, ◌⊎◌, ℕ, List, [], ◌∷◌, Some, Ok}
use Rattle.std.specs.declared.alloc.Global.{Global}
use Rattle.serde_json.specs.Data.{Data, string}
use Rattle.serde_json.specs.Written.{compact_text}
use Rattle.litemap_json.specs.Json.{tree}
use Rattle.litemap_read.specs.Steps.{Run}
use Rattle.litemap_read.specs.declared.calls.Answer.{Answer}
use Rattle.litemap_read.specs.declared.calls.Call.{Call}
use Rattle.litemap_read.specs.declared.calls.Call.TheVariants as call
use Rattle.names_core.specs.Line.{Spells, SpellsAll, SpellsJson}
use Rattle.names_core.specs.Told.{DoesEach, TextMap, json_text}
use Rattle.litemap_store.specs.Queries.{bytes_cmp}
use Rattle.names_core.specs.declared.line.Command.{Command}
use Rattle.names_core.specs.declared.line.Command.TheVariants as command

-- the call of a map that a command is
abbrev pub call_of : Command → Call (List ℕ) (List ℕ) Global
call_of (command.Put key value) = call.Insert key.now value.now
call_of (command.Get key) = call.Get key.now
call_of (command.Del key) = call.Remove key.now
call_of (command.Find key) = call.Find key.now

-- the calls are those that the lines spell, in order: an empty line, `all` and `json` spell none
abbrev pub SpellEach : List (List ℕ) → List (Call (List ℕ) (List ℕ) Global) → Type 0
SpellEach [] calls = calls ≡ []
SpellEach (said ∷ more) calls =
    (((said ≡ []) ⊎ (SpellsAll said ⊎ SpellsJson said)) × SpellEach more calls) ⊎
    ((command : Command) × (rest : List (Call (List ℕ) (List ℕ) Global))
    × Spells said command × (calls ≡ call_of command ∷ rest) × SpellEach more rest)

-- what lines do is a run of the calls that they spell
abbrev pub LinesAreARun : Type 0
LinesAreARun = (start end : TextMap) (said : List (List ℕ)) (text : List ℕ) → DoesEach start said text end →
    (calls : List (Call (List ℕ) (List ℕ) Global)) × (answers : List (Answer (List ℕ) (List ℕ)))
    × SpellEach said calls × Run bytes_cmp start calls answers end

-- wherever lines have led from an empty map, the reply to `json` is the compact text of the map's JSON value, the tree that
-- `to_json` makes of it
abbrev pub JsonIsTheTree : Type 0
JsonIsTheTree = (start end : TextMap) (said : List (List ℕ)) (text : List ℕ) → start.entries ≡ [] → DoesEach start said text end →
    (value : Data) × (tree (λ key. Some key) string string end.entries ≡ Ok value) × (json_text end.entries ≡ compact_text value)
