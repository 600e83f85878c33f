-- Which error a table has: that of the first part that can't be read, at the offset where it begins.
use Rattle.std.specs.Prelude.{◌≡◌, ◌⊎◌, ℕ, ◌+◌, ◌<◌, ◌≤◌, List, [], ◌∷◌, ◌++◌, length, take, IsUtf8}
use Rattle.std.specs.List.{AllByRecursion}
use Rattle.litemap_read.specs.declared.source.ReadFault.{ReadFault}
use Rattle.litemap_read.specs.declared.source.ReadFault.TheVariants.{NoRoom, Source}
use Rattle.name_table.specs.Parts.{EndsAtLast, Part, Number, Text, IsPart, Begins, most_bytes, number_limit, pair_parts}
use Rattle.name_table.specs.Parts.{table_parts, text_parts, value_of}
use Rattle.name_table.specs.Positions.{Remaining}
use Rattle.name_table.specs.declared.error.NameFault.{NameFault}
use Rattle.name_table.specs.declared.error.NameFault.TheVariants.{Truncated, NotUtf8, NumberTooLarge}

-- the bytes, which stand at the offset, don't begin with a part of the kind that is due there: a number, which ends after five
-- bytes at most and is below 2^32, or a string of so many bytes
abbrev pub PartFault : Part → List ℕ → ℕ → NameFault → Type 0
PartFault (Number n) bytes place (Truncated at) = (at ≡ place) × AllByRecursion (λ b. 128 ≤ b) bytes × (length bytes < most_bytes)
PartFault (Number n) bytes place (NumberTooLarge at) = (front : List ℕ) × (rest : List ℕ) × (at ≡ place) × (bytes ≡ front ++ rest)
    × ((AllByRecursion (λ b. 128 ≤ b) front × (length front ≡ most_bytes))
    ⊎ (EndsAtLast front × (length front ≤ most_bytes) × (number_limit ≤ value_of front)))
PartFault (Text text) bytes place (Truncated at) = (at ≡ place) × (length bytes < length text)
PartFault (Text text) bytes place (NotUtf8 at) =
    (at ≡ place) × (length text ≤ length bytes) × (IsUtf8 (take (length text) bytes) → ⊥)
PartFault part bytes place error = ⊥

-- the bytes, which stand at the offset, begin with some of the first parts, and the part that is due after these can't be read
abbrev pub Fault : List Part → List ℕ → ℕ → NameFault → Type 0
Fault [] bytes place error = ⊥
Fault (due ∷ more) bytes place error = PartFault due bytes place error
    ⊎ ((first : List ℕ) × (rest : List ℕ) × (bytes ≡ first ++ rest) × IsPart first due
    × Fault more rest (place + length first) error)

-- they don't begin with a string after its length: this is why
abbrev pub TextFault : List ℕ → ℕ → NameFault → Type 0
TextFault bytes place error = (text : List ℕ) × Fault (text_parts text) bytes place error

-- a pair that is due can't be read: this is why
abbrev pub PairsFault : Remaining → NameFault → Type 0
PairsFault s error =
    (pairs : List (List ℕ × List ℕ)) × (length pairs ≡ s.left) × Fault (pair_parts pairs) s.rest s.place error

-- the next one of the pairs that are due can't be read: this is why
abbrev pub NextFault : Remaining → NameFault → Type 0
NextFault s error = (pair : List ℕ × List ℕ) × (0 < s.left) × Fault (pair_parts (pair ∷ [])) s.rest s.place error

-- why no map is read: memory runs out, and the bytes begin with a number of pairs above 0; or no table begins them
abbrev pub IsUnread : List ℕ → ReadFault NameFault → Type 0
IsUnread bytes NoRoom = (n : ℕ) × (rest : List ℕ) × Begins bytes (Number n ∷ []) rest × (0 < n)
IsUnread bytes (Source error) = (pairs : List (List ℕ × List ℕ)) × Fault (table_parts pairs) bytes 0 error
