-- What a run writes for its input, and its status. A map is seen as the list of its pairs, and its room. That the reply to
-- `json` is the text of the map's JSON value is a law of the crate `names`.
use Rattle.std.specs.Prelude.{◌≡◌, ◌≤◌, ◌+◌, ◌++◌, ℕ, List, [], ◌∷◌, length, Option, Some, None, IsSome, IsNone, Result, Ok, Err}
use Rattle.std.specs.Prelude.{codes, flat_map}
use Rattle.std.specs.declared.cmp.Ordering.{Ordering}
use Rattle.std.specs.Fmt.{decimal}
use Rattle.litemap_store.specs.Contents.{Contents}
use Rattle.litemap_store.specs.Pairs.{at, cut, index_of, put, value_at}
use Rattle.litemap_store.specs.Queries.{bytes_cmp}
use Rattle.json.specs.Print.{quoted}
use Rattle.names_core.specs.Line.{IsBad, Spells, SpellsAll, SpellsJson, lines_of}
use Rattle.names_core.specs.declared.line.Command.{Command}
use Rattle.names_core.specs.declared.line.Command.TheVariants.{Del, Find, Get, Put}

-- the most bytes that a run takes
abbrev pub most_input : ℕ
most_input = 1048576

-- a map from strings to strings, which are ordered by their bytes
abbrev pub TextMap : Type 0
TextMap = Contents (List ℕ) (List ℕ)

-- the text as a line: a line feed ends it
abbrev pub line : List ℕ → List ℕ
line text = text ++ (10 ∷ [])

-- the reply to `put`, by the value before
abbrev pub old_text : Option (List ℕ) → List ℕ
old_text None = line (codes "new")
old_text (Some old) = line (codes "old " ++ old)

-- a value, or none
abbrev pub value_text : Option (List ℕ) → List ℕ
value_text None = line (codes "none")
value_text (Some value) = line (codes "= " ++ value)

-- where a key is, or where it would go
abbrev pub place_text : Result ℕ ℕ → List ℕ
place_text (Ok i) = line (codes "ok " ++ decimal i)
place_text (Err i) = line (codes "err " ++ decimal i)

-- a key and its value
abbrev pub pair_text : List ℕ × List ℕ → List ℕ
pair_text pair = line (pair.0 ++ (32 ∷ pair.1))

-- a member of a JSON object: the key and its value in quotes, with a colon between them
abbrev pub member_text : List ℕ × List ℕ → List ℕ
member_text pair = quoted pair.0 ++ (58 ∷ quoted pair.1)

-- the pairs as members of a JSON object, each after a comma
abbrev pub later_members : List (List ℕ × List ℕ) → List ℕ
later_members L = flat_map (λ pair. 44 ∷ member_text pair) L

-- the pairs as JSON: an object of them in their order, or the empty array if there are none
abbrev pub json_text : List (List ℕ × List ℕ) → List ℕ
json_text [] = codes "[]"
json_text (pair ∷ more) = 123 ∷ (member_text pair ++ (later_members more ++ (125 ∷ [])))

-- the reply to `json`
abbrev pub json_answer : List (List ℕ × List ℕ) → List ℕ
json_answer L = line (json_text L)

-- the value is put at the key: the room is lowered by one at most, and stays if the key was there
abbrev pub Puts : TextMap → List ℕ → List ℕ → TextMap → Type 0
Puts old key value next =
    (next.entries ≡ put bytes_cmp old.entries key value) × (old.room ≤ next.room + 1)
    × (IsSome (at bytes_cmp old.entries key) → next.room ≡ old.room)

-- the command, done on the map `old`, has the text as its reply and leaves the map `next`
abbrev pub Replies : TextMap → Command → List ℕ → TextMap → Type 0
Replies old (Put key value) text next =
    (text ≡ old_text (value_at bytes_cmp old.entries key.now)) × Puts old key.now value.now next
Replies old (Get key) text next = (text ≡ value_text (value_at bytes_cmp old.entries key.now)) × (next ≡ old)
Replies old (Del key) text next =
    (text ≡ value_text (value_at bytes_cmp old.entries key.now)) × (next.entries ≡ cut bytes_cmp old.entries key.now)
    × (IsNone (at bytes_cmp old.entries key.now) → next.room ≡ old.room)
Replies old (Find key) text next = (text ≡ place_text (index_of bytes_cmp old.entries key.now)) × (next ≡ old)

-- the line, done on the map `old`, writes the text and leaves the map `next`: the table of lines in docs/PROGRAM.md, defined
pub data Does (old : TextMap) (said text : List ℕ) (next : TextMap) : Type 0 where
  Nothing : said ≡ [] → text ≡ [] → next ≡ old → Does old said text next
  ShowsAll : SpellsAll said → text ≡ flat_map pair_text old.entries → next ≡ old → Does old said text next
  ShowsJson : SpellsJson said → text ≡ json_answer old.entries → next ≡ old → Does old said text next
  Obeys : (command : Command) → Spells said command → Replies old command text next → Does old said text next

-- the lines, done one after another from the map `old`, write the text and leave the map `end`
abbrev pub DoesEach : TextMap → List (List ℕ) → List ℕ → TextMap → Type 0
DoesEach old [] text end = (text ≡ []) × (end ≡ old)
DoesEach old (said ∷ more) text end =
    (first : List ℕ) × (rest : List ℕ) × (next : TextMap)
    × Does old said first next × DoesEach next more rest end × (text ≡ first ++ rest)

-- the lines, done one after another from an empty map, write the text and leave the map `end`
abbrev pub DoesAll : List (List ℕ) → List ℕ → TextMap → Type 0
DoesAll said text end = (start : TextMap) × (start.entries ≡ []) × DoesEach start said text end

-- the last line if line n is bad
abbrev pub bad_line : ℕ → List ℕ
bad_line n = line (codes "bad line " ++ decimal n)

-- the last line if memory ran out
abbrev pub no_memory : List ℕ
no_memory = line (codes "no memory")

-- what a run wrote for the bytes that it read, and its status, if no read and no write failed
pub data Told (bytes out : List ℕ) (status : ℕ) : Type 0 where
  TooLong : length bytes ≡ most_input + 1 → out ≡ line (codes "input too long") → status ≡ 2 → Told bytes out status
  NotRead : length bytes ≤ most_input → out ≡ no_memory → status ≡ 3 → Told bytes out status
  AllDone : (end : TextMap) → length bytes ≤ most_input → DoesAll (lines_of bytes) out end → status ≡ 0 → Told bytes out status
  BadLine : (before later : List (List ℕ)) (bad text : List ℕ) (end : TextMap) → length bytes ≤ most_input
      → lines_of bytes ≡ before ++ (bad ∷ later) → DoesAll before text end
      → IsBad bad → out ≡ text ++ bad_line (length before + 1) → status ≡ 2 → Told bytes out status
  NoMemory : (before later : List (List ℕ)) (text : List ℕ) (end : TextMap) → length bytes ≤ most_input
      → lines_of bytes ≡ before ++ later → DoesAll before text end → out ≡ text ++ no_memory → status ≡ 3 → Told bytes out status
