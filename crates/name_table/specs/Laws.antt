-- The laws over the definitions, which the functions of the module `laws` have as their contracts.
use Rattle.std.specs.Prelude.{◌≡◌, ◌⊎◌, ℕ, List}
use Rattle.name_table.specs.Faults.{Fault}
use Rattle.name_table.specs.Parts.{Begins, table_parts}
use Rattle.name_table.specs.declared.error.NameFault.{NameFault}

-- bytes begin with one table at most, which ends at one offset
abbrev pub TableIsOne : Type 0
TableIsOne = (bytes : List ℕ) (J K : List (List ℕ × List ℕ)) (rest rest' : List ℕ)
    → Begins bytes (table_parts J) rest → Begins bytes (table_parts K) rest' → (J ≡ K) × (rest ≡ rest')

-- bytes that begin with a table have no error
abbrev pub TableHasNoFault : Type 0
TableHasNoFault = (bytes : List ℕ) (J K : List (List ℕ × List ℕ)) (rest : List ℕ) (error : NameFault)
    → Begins bytes (table_parts J) rest → Fault (table_parts K) bytes 0 error → ⊥

-- bytes have one error at most
abbrev pub FaultIsOne : Type 0
FaultIsOne = (bytes : List ℕ) (J K : List (List ℕ × List ℕ)) (f g : NameFault)
    → Fault (table_parts J) bytes 0 f → Fault (table_parts K) bytes 0 g → f ≡ g

-- each list of bytes begins with a table, or has an error
abbrev pub EachIsRead : Type 0
EachIsRead = (bytes : List ℕ)
    → ((J : List (List ℕ × List ℕ)) × (rest : List ℕ) × Begins bytes (table_parts J) rest)
    ⊎ ((error : NameFault) × ((J : List (List ℕ × List ℕ)) × Fault (table_parts J) bytes 0 error))
