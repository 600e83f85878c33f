-- Name tables whose keys ascend, and which error other bytes have: that of the first entry that stops an index of them.
use Rattle.std.specs.Prelude.{◌≡◌, ◌⊎◌, ℕ, ◌<◌, ◌≤◌, List, [], ◌∷◌, ◌++◌, map, ⊤}
use Rattle.litemap.specs.ByBytes.{by_bytes}
use Rattle.litemap_store.specs.Pairs.{Rising}
use Rattle.name_table.specs.Faults.{NextFault, PartFault}
use Rattle.name_table.specs.Parts.{Begins, IsTable, Number, number_limit, table_parts}
use Rattle.name_table.specs.Positions.{IsAfter, IsCounted, Remaining, shown}
use Rattle.name_table.specs.declared.error.NameFault.{NameFault}
use Rattle.name_index.specs.Names.{text_order}
use Rattle.name_index.specs.declared.error.NameIndexFault.{NameIndexFault}
use Rattle.name_index.specs.declared.error.NameIndexFault.TheVariants.{Format, NoRoom, NotAscending, TooFar}
use denote.Ref.{Bor}

-- the bytes begin with a table of the pairs, whose keys ascend. By a law of name tables they begin with no other one
pub record IsRisingTable (bytes : List ℕ) (pairs : List (List ℕ × List ℕ)) : Type 0 where
  pub rest : List ℕ
  pub table : Begins bytes (table_parts pairs) rest
  pub rises : Rising text_order pairs

-- after these pairs one is due, and the error is its own: it can't be read, its key doesn't ascend, it begins too far, or memory
-- runs out
abbrev pub NextStops : List (List ℕ × List ℕ) → Remaining → NameIndexFault → Type 0
NextStops pairs t NoRoom = 0 < t.left
NextStops pairs t TooFar = (0 < t.left) × (number_limit ≤ t.place)
NextStops pairs t (Format error) = NextFault t error
NextStops pairs t (NotAscending at) =
    (u : Remaining) × (next : List ℕ × List ℕ)
    × IsAfter t u (next ∷ []) × (at ≡ t.place) × (Rising text_order (pairs ++ next ∷ []) → ⊥)

-- some pairs can be read, and their keys ascend. The next one stops
abbrev pub StopsAt : Remaining → NameIndexFault → Type 0
StopsAt s error = (t : Remaining) × (pairs : List (List ℕ × List ℕ))
    × IsAfter s t pairs × Rising text_order pairs × NextStops pairs t error

-- the number of entries can't be read, or what is due after it stops
abbrev pub IsFault : List ℕ → NameIndexFault → Type 0
IsFault bytes error = ((f : NameFault) × (error ≡ Format f) × PartFault (Number 0) bytes 0 f)
    ⊎ ((s : Remaining) × IsCounted bytes s × StopsAt s error)

-- the error says that the bytes are no table whose keys ascend
abbrev pub IsMalformed : NameIndexFault → Type 0
IsMalformed NoRoom = ⊥
IsMalformed TooFar = ⊥
IsMalformed error = ⊤

-- bytes that are a table of a map's pairs, as those that are written for it, are a table of these pairs, whose keys ascend, and
-- of no others, and their error is none of their own
abbrev pub WrittenIsOpened : Type 0
WrittenIsOpened = (bytes : List ℕ) (pairs : List (Bor (List ℕ) × Bor (List ℕ)))
    → Rising by_bytes pairs → IsTable bytes (map shown pairs)
    → ((opened : List (List ℕ × List ℕ)) → IsRisingTable bytes opened → opened ≡ map shown pairs)
    × ((error : NameIndexFault) → IsFault bytes error → IsMalformed error → ⊥)
