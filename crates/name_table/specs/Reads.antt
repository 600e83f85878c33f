-- What reading a table returns, what looking a name up in it returns, and what is written, which is read again.
use Rattle.std.specs.Prelude.{◌≡◌, ℕ, ◌≤◌, List, Option, IfSome, length, map, ⊤}
use Rattle.std.specs.Option.{option_map}
use Rattle.litemap.specs.ByBytes.{by_bytes}
use Rattle.litemap_store.specs.Last.{Last}
use Rattle.litemap_store.specs.Pairs.{at, place}
use Rattle.name_table.specs.Faults.{Fault}
use Rattle.name_table.specs.Parts.{AreParts, Begins, Part, table_parts}
use Rattle.name_table.specs.Positions.{shown}
use Rattle.name_table.specs.declared.error.NameFault.{NameFault}
use Rattle.name_table.specs.declared.error.NameWriteFault.{NameWriteFault}
use Rattle.name_table.specs.declared.error.NameWriteFault.TheVariants.{NoRoom, TooLarge}
use denote.Ref.{Bor}

-- the bytes begin with a table of so many bytes, and M is the last pairs of those that it has
pub record IsRead (bytes : List ℕ) (M : List (Bor (List ℕ) × Bor (List ℕ))) (size : ℕ) : Type 0 where
  pub pairs : List (Bor (List ℕ) × Bor (List ℕ))
  pub rest : List ℕ
  pub table : Begins bytes (table_parts (map shown pairs)) rest
  pub size_is : size ≡ length table.front
  pub last : Last by_bytes pairs M

-- the value and the index of the key in the map that is read from the bytes, if it is there. `pairs` is that map, whatever
-- addresses its strings have: by the law `reading_is_one` the bytes begin with one table only
pub record IsFound (bytes : List ℕ) (key : Bor (List ℕ)) (found : Option (ℕ × Bor (List ℕ))) : Type 0 where
  pub pairs : List (Bor (List ℕ) × Bor (List ℕ))
  pub size : ℕ
  pub read : IsRead bytes pairs size
  pub value : option_map (λ f. f.1) found ≡ option_map (λ p. p.1) (at by_bytes pairs key)
  pub index : IfSome found (λ f. f.0 ≡ place by_bytes pairs key)

-- the bytes spell the parts, and none that spell them are fewer
pub record IsShortest (bytes : List ℕ) (parts : List Part) : Type 0 where
  pub spelled : AreParts bytes parts
  pub fewest : (other : List ℕ) → AreParts other parts → length bytes ≤ length other

-- the bytes are read to their end, and as the pairs, by the bytes of their strings
pub record IsReadAgain (bytes : List ℕ) (pairs : List (Bor (List ℕ) × Bor (List ℕ))) : Type 0 where
  pub same : (M : List (Bor (List ℕ) × Bor (List ℕ))) (size : ℕ) → IsRead bytes M size
      → (map shown M ≡ map shown pairs) × (size ≡ length bytes)
  pub no_fault : (K : List (List ℕ × List ℕ)) (error : NameFault) → Fault (table_parts K) bytes 0 error → ⊥

-- if a number was too large, P holds
abbrev pub IfTooLarge : NameWriteFault → Type 0 → Type 0
IfTooLarge NoRoom P = ⊤
IfTooLarge TooLarge P = P
