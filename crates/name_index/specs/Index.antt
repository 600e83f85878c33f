-- An index of names: the number of its entries, the offset of each, and the entries. A string is the list of its bytes.
use Rattle.std.specs.Prelude.{◌≡◌, ℕ, ◌+◌, ◌*◌, ◌<◌, ◌≤◌, List, [], ◌∷◌, ◌++◌, length, take, drop, IsUtf8, ⊤}
use Rattle.std.specs.Int.{from_le_bytes, w32}
use Rattle.std.specs.List.{sum_by}
use Rattle.name_index.specs.Names.{AreNames}
use Rattle.name_index.specs.declared.error.IndexFault.{IndexFault}
use Rattle.name_index.specs.declared.error.IndexFault.TheVariants.{Overlapping}

-- at an offset stand the four bytes of the number, the lowest first
pub record IsNumberAt (bytes : List ℕ) (at n : ℕ) : Type 0 where
  pub within : at + 4 ≤ length bytes
  pub value : from_le_bytes w32 (take 4 (drop at bytes)) ≡ n

-- at an offset stands the number of the string's bytes, and after it the string
pub record IsTextAt (bytes : List ℕ) (at : ℕ) (text : List ℕ) : Type 0 where
  pub size : IsNumberAt bytes at (length text)
  pub there : take (length text) (drop (at + 4) bytes) ≡ text
  pub utf8 : IsUtf8 text

-- at an offset stands the key, and after it the value
abbrev pub IsPairAt : List ℕ → ℕ → List ℕ × List ℕ → Type 0
IsPairAt bytes at pair = IsTextAt bytes at pair.0 × IsTextAt bytes (at + 4 + length pair.0) pair.1

-- of so many entries this one is the pair: the bytes note how far it begins from the end of the offsets
abbrev pub IsEntry : List ℕ → ℕ → ℕ → List ℕ × List ℕ → Type 0
IsEntry bytes len index pair =
    (far : ℕ) × IsNumberAt bytes (4 + 4 * index) far × IsPairAt bytes (4 + 4 * len + far) pair

-- how many bytes a key and its value take, with their numbers
abbrev pub pair_size : List ℕ × List ℕ → ℕ
pair_size pair = 8 + length pair.0 + length pair.1

-- how many bytes pairs take
abbrev pub entries_size : List (List ℕ × List ℕ) → ℕ
entries_size pairs = sum_by pair_size pairs

-- how many bytes an index of them takes
abbrev pub index_size : List (List ℕ × List ℕ) → ℕ
index_size pairs = 4 + 4 * length pairs + entries_size pairs

-- the bytes are an index of the pairs: the keys ascend, and an index of them takes no more bytes than there are
pub record IsIndex (bytes : List ℕ) (pairs : List (List ℕ × List ℕ)) : Type 0 where
  pub len : ℕ
  pub number : IsNumberAt bytes 0 len
  pub entries : AreNames (IsEntry bytes len) len pairs
  pub fits : index_size pairs ≤ length bytes

-- the bytes are no index
abbrev pub NoIndex : List ℕ → Type 0
NoIndex bytes = (pairs : List (List ℕ × List ℕ)) → IsIndex bytes pairs → ⊥

-- of so many entries those up to the index are there, their keys ascend, and the last one is the first with which they take more
-- bytes than there are
pub record Overlaps (bytes : List ℕ) (len index : ℕ) : Type 0 where
  pub within : index < len
  pub before : List (List ℕ × List ℕ)
  pub pair : List ℕ × List ℕ
  pub entries : AreNames (IsEntry bytes len) (index + 1) (before ++ pair ∷ [])
  pub fits : 4 + 4 * len + entries_size before ≤ length bytes
  pub exceeds : length bytes < 4 + 4 * len + entries_size (before ++ pair ∷ [])

-- of an index's entries the one at the index is the first with which they take more bytes than there are
abbrev pub IsOverlapping : List ℕ → ℕ → Type 0
IsOverlapping bytes index = (len : ℕ) × IsNumberAt bytes 0 len × Overlaps bytes len index

-- if the error is that entries overlap, P holds of the index
abbrev pub IfOverlapping : IndexFault → (ℕ → Type 0) → Type 0
IfOverlapping (Overlapping index) P = P index
IfOverlapping error P = ⊤

-- bytes have one index at most
abbrev pub IndexIsOne : Type 0
IndexIsOne = (bytes : List ℕ) (J K : List (List ℕ × List ℕ)) → IsIndex bytes J → IsIndex bytes K → J ≡ K
