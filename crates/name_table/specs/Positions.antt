-- A position in bytes, and what is left of a table while its pairs are read.
use Rattle.std.specs.Prelude.{◌≡◌, ℕ, ◌+◌, ◌⊎◌, List, [], ◌∷◌, length, map}
use Rattle.name_table.specs.Parts.{Begins, Number, Part, pair_parts}
use denote.Ref.{Bor}

-- the bytes that lie ahead, and how many lie before
pub record Position : Type 0 where
  pub rest : List ℕ
  pub place : ℕ

-- t is s after the parts were read
pub record IsPast (s t : Position) (parts : List Part) : Type 0 where
  pub spelled : Begins s.rest parts t.rest
  pub place : t.place ≡ s.place + length spelled.front

-- the bytes after the parts that were read, how many bytes these were, and how many pairs are due
pub record Remaining : Type 0 where
  pub rest : List ℕ
  pub place : ℕ
  pub left : ℕ

-- the pair that two references refer to
abbrev pub shown : Bor (List ℕ) × Bor (List ℕ) → List ℕ × List ℕ
shown pair = (pair.0.now, pair.1.now)

-- the bytes don't begin with a pair
abbrev pub NoPair : List ℕ → Type 0
NoPair bytes = (pair : List ℕ × List ℕ) (rest : List ℕ) → Begins bytes (pair_parts (pair ∷ [])) rest → ⊥

-- the pairs are those that can still be read: all that are due, or as many as come before one that can't be read
pub record CanBeRead (s : Remaining) (pairs : List (Bor (List ℕ) × Bor (List ℕ))) : Type 0 where
  pub after : List ℕ
  pub spelled : Begins s.rest (pair_parts (map shown pairs)) after
  pub due : ℕ
  pub count : s.left ≡ length pairs + due
  pub stops : (due ≡ 0) ⊎ NoPair after

-- all pairs that are due can be read
pub record AllCanBeRead (s : Remaining) : Type 0 where
  pub pairs : List (List ℕ × List ℕ)
  pub after : List ℕ
  pub spelled : Begins s.rest (pair_parts pairs) after
  pub count : length pairs ≡ s.left

-- the bytes begin with the number of pairs, which are all due
pub record IsCounted (bytes : List ℕ) (s : Remaining) : Type 0 where
  pub spelled : Begins bytes (Number s.left ∷ []) s.rest
  pub place : s.place ≡ length spelled.front

-- t is s after the pairs were read
pub record IsAfter (s t : Remaining) (pairs : List (List ℕ × List ℕ)) : Type 0 where
  pub spelled : Begins s.rest (pair_parts pairs) t.rest
  pub place : t.place ≡ s.place + length spelled.front
  pub count : s.left ≡ length pairs + t.left
