-- A map of strings, by their bytes, and the reply to a line.
use Rattle.std.specs.Prelude.{◌≡◌, ℕ, List, [], ◌∷◌, map, String, string_bytes}
use Rattle.json.specs.Token.{Token, key, string}
use Rattle.litemap_store.specs.Contents.{Contents}
use Rattle.names_core.specs.Line.{IsBad}
use Rattle.names_core.specs.Told.{Does, TextMap, bad_line}
use Rattle.names_core.specs.declared.reply.Answer.{Answer}
use Rattle.names_core.specs.declared.reply.Answer.TheVariants.{Done, Bad}

-- the bytes of a key and of its value
abbrev pub pair_bytes : {A : Type 0} → String A × String A → List ℕ × List ℕ
pair_bytes pair = (string_bytes pair.0, string_bytes pair.1)

-- the map, its keys and values by their bytes
abbrev pub names_of : {A : Type 0} → Contents (String A) (String A) → TextMap
names_of seen = record { entries = map pair_bytes seen.entries; room = seen.room }

-- the tokens that are written for a pair in a JSON object
abbrev pub pair_tokens : List ℕ × List ℕ → List Token
pair_tokens pair = key pair.0 ∷ string pair.1 ∷ []

-- the line of the number n, done on the map `old`, has this reply and leaves the map `next`
abbrev pub IsAnswer : {A : Type 0} → TextMap → ℕ → List ℕ → TextMap → Answer A → Type 0
IsAnswer old n line next (Done text) = Does old line (string_bytes text) next
IsAnswer old n line next (Bad text) = IsBad line × (string_bytes text ≡ bad_line n)
