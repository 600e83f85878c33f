-- The lines of the input, and what a line says. A string is the list of its bytes.
use Rattle.std.specs.Prelude.{◌≡◌, ◌≢◌, ◌<◌, ◌≤◌, ◌++◌, ◌==◌, ℕ, List, [], ◌∷◌, length, All, codes, Option, Some, None}
use Rattle.std.specs.Borrow.{Bor}
use Rattle.std.specs.List.{slice_split}
use Rattle.names_core.specs.declared.line.Command.{Command}
use Rattle.names_core.specs.declared.line.Command.TheVariants.{Del, Find, Get, Put}

-- what stands between line feeds; after a last line feed comes an empty line, which does nothing
abbrev pub lines_of : List ℕ → List (List ℕ)
lines_of bytes = slice_split (λ b. b == 10) bytes

-- the lines that are left
abbrev pub lines_left : Option (Bor (List ℕ)) → List (List ℕ)
lines_left None = []
lines_left (Some bytes) = lines_of bytes.now

-- a byte from `!` to `~`
abbrev pub IsGraphic : ℕ → Type 0
IsGraphic b = (33 ≤ b) × (b ≤ 126)

-- one or more such bytes
abbrev pub IsWord : List ℕ → Type 0
IsWord word = (0 < length word) × All IsGraphic word

-- the line spells the command: its name and its words, separated by single spaces
abbrev pub Spells : List ℕ → Command → Type 0
Spells line (Put key value) = (line ≡ codes "put " ++ (key.now ++ (32 ∷ value.now))) × IsWord key.now × IsWord value.now
Spells line (Get key) = (line ≡ codes "get " ++ key.now) × IsWord key.now
Spells line (Del key) = (line ≡ codes "del " ++ key.now) × IsWord key.now
Spells line (Find key) = (line ≡ codes "find " ++ key.now) × IsWord key.now

-- the line asks for all pairs
abbrev pub SpellsAll : List ℕ → Type 0
SpellsAll line = line ≡ codes "all"

-- the line asks for the map as JSON
abbrev pub SpellsJson : List ℕ → Type 0
SpellsJson line = line ≡ codes "json"

-- the line is not empty, spells no command, and does not ask for all pairs or for the map as JSON
pub record IsBad (line : List ℕ) : Type 0 where
  pub not_empty : line ≢ []
  pub not_all : SpellsAll line → ⊥
  pub not_json : SpellsJson line → ⊥
  pub no_command : (command : Command) → Spells line command → ⊥
