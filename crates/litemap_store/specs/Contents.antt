-- What a contract sees of a map, and of a store: its pairs in order, and how many further pairs it takes without failing.
use Rattle.std.specs.Prelude.{ℕ, List}
use Rattle.litemap_store.specs.Pairs.{set_value}

-- what a contract sees of a map or a store: its pairs, and how many further ones it takes without failing
pub record Contents (K V : Type 0) : Type 0 where
  pub entries : List (K × V)
  pub room : ℕ

-- the same with another value at an index
abbrev pub with_value : {K V : Type 0} → Contents K V → ℕ → V → Contents K V
with_value s i v = record s { entries = set_value s.entries i v }

-- s with the pairs L, its room as it was
abbrev pub with_pairs : {K V : Type 0} → Contents K V → List (K × V) → Contents K V
with_pairs s L = record { entries = L; room = s.room }
