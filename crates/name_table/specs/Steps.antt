-- What the steps of reading and writing do. Only private contracts cite these.
use Rattle.std.specs.Prelude.{◌≡◌, ℕ, ◌<◌, ◌≤◌, ◌^◌, List, ◌++◌, length}
use Rattle.std.specs.List.{AllByRecursion}
use Rattle.name_table.specs.Parts.{AreParts, EndsAtLast, Part, table_parts, value_of}
use Rattle.name_table.specs.Reads.{IsShortest}
use Rattle.name_table.specs.declared.error.NameFault.{NameFault}
use Rattle.name_table.specs.declared.error.NameFault.TheVariants.{Truncated, NotUtf8, NumberTooLarge}

-- the bytes begin with those of the number, however large, and the rest comes after them
pub record BeginsNumber (bytes : List ℕ) (room n : ℕ) (rest : List ℕ) : Type 0 where
  pub front : List ℕ
  pub split : bytes ≡ front ++ rest
  pub ends : EndsAtLast front
  pub value : value_of front ≡ n
  pub short : length front ≤ room

-- the bytes, which stand at the offset, end within a number of at most so many bytes, or it would go on past these
abbrev pub WhyUnread : NameFault → ℕ → ℕ → List ℕ → Type 0
WhyUnread (Truncated at) place room bytes = (at ≡ place) × AllByRecursion (λ b. 128 ≤ b) bytes × (length bytes < room)
WhyUnread (NumberTooLarge at) place room bytes = (front : List ℕ) × (rest : List ℕ)
    × (at ≡ place) × (bytes ≡ front ++ rest) × AllByRecursion (λ b. 128 ≤ b) front × (length front ≡ room)
WhyUnread (NotUtf8 at) place room bytes = ⊥

-- no bytes are a table of the pairs
abbrev pub NoTable : List (List ℕ × List ℕ) → Type 0
NoTable pairs = (bytes : List ℕ) → AreParts bytes (table_parts pairs) → ⊥

-- new is old with a shortest spelling of the parts after it
pub record Appends (old new : List ℕ) (parts : List Part) : Type 0 where
  pub bytes : List ℕ
  pub appended : new ≡ old ++ bytes
  pub shortest : IsShortest bytes parts

-- the same of a number, however large
pub record AppendsNumber (old new : List ℕ) (n : ℕ) : Type 0 where
  pub bytes : List ℕ
  pub appended : new ≡ old ++ bytes
  pub ends : EndsAtLast bytes
  pub value : value_of bytes ≡ n
  pub fewest : (other : List ℕ) → EndsAtLast other → value_of other ≡ n → length bytes ≤ length other
  pub short : (room : ℕ) → 0 < room → n < 128 ^ room → length bytes ≤ room
