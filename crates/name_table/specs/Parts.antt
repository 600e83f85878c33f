-- A name table is a list of parts, numbers and strings, spelled one after another. A string is the list of its bytes.
use Rattle.std.specs.Prelude.{◌≡◌, ℕ, ◌+◌, ◌*◌, ◌%◌, ◌<◌, ◌≤◌, List, [], ◌∷◌, ◌++◌, length, IsUtf8}

-- ---- numbers: seven bits in each byte, the lowest first, and the high bit set on all bytes but the last

-- a number has so many bytes at most
abbrev pub most_bytes : ℕ
most_bytes = 5

-- a number is below this, 2^32
abbrev pub number_limit : ℕ
number_limit = 4294967296

-- the number in the low seven bits of each byte
abbrev pub value_of : List ℕ → ℕ
value_of [] = 0
value_of (b ∷ bytes) = b % 128 + 128 * value_of bytes

-- the high bit is set on all bytes but the last
abbrev pub EndsAtLast : List ℕ → Type 0
EndsAtLast [] = ⊥
EndsAtLast (b ∷ []) = b < 128
EndsAtLast (b ∷ c ∷ bytes) = (128 ≤ b) × EndsAtLast (c ∷ bytes)

-- the bytes spell the number. They may be more than it needs
pub record IsNumber (bytes : List ℕ) (n : ℕ) : Type 0 where
  pub ends : EndsAtLast bytes
  pub value : value_of bytes ≡ n
  pub short : length bytes ≤ most_bytes
  pub small : n < number_limit

-- ---- parts

-- a part of a table
pub data Part : Type 0 where
  Number : ℕ → Part
  Text : List ℕ → Part

-- the bytes spell the part
abbrev pub IsPart : List ℕ → Part → Type 0
IsPart bytes (Number n) = IsNumber bytes n
IsPart bytes (Text text) = (bytes ≡ text) × IsUtf8 text

-- the bytes spell the parts, one after another
abbrev pub AreParts : List ℕ → List Part → Type 0
AreParts bytes [] = bytes ≡ []
AreParts bytes (x ∷ xs) = (first : List ℕ) × (rest : List ℕ) × (bytes ≡ first ++ rest) × IsPart first x × AreParts rest xs

-- each key, and its value, each after the number of its bytes
abbrev pub pair_parts : List (List ℕ × List ℕ) → List Part
pair_parts [] = []
pair_parts (p ∷ pairs) = Number (length p.0) ∷ Text p.0 ∷ Number (length p.1) ∷ Text p.1 ∷ pair_parts pairs

-- a string after the number of its bytes
abbrev pub text_parts : List ℕ → List Part
text_parts text = Number (length text) ∷ Text text ∷ []

-- the number of pairs, and the pairs
abbrev pub table_parts : List (List ℕ × List ℕ) → List Part
table_parts pairs = Number (length pairs) ∷ pair_parts pairs

-- the bytes are a table of the pairs
abbrev pub IsTable : List ℕ → List (List ℕ × List ℕ) → Type 0
IsTable bytes pairs = AreParts bytes (table_parts pairs)

-- the bytes begin with the parts, and the rest comes after them
pub record Begins (bytes : List ℕ) (parts : List Part) (rest : List ℕ) : Type 0 where
  pub front : List ℕ
  pub split : bytes ≡ front ++ rest
  pub spelled : AreParts front parts
