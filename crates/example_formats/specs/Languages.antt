-- Which name a language has, and which string a word.
use Rattle.std.specs.Prelude.{◌≡◌, ℕ, List, Option, Some, None}
use Rattle.std.specs.Option.{unwrap_or}
use Rattle.litemap.specs.ByBytes.{by_bytes}
use Rattle.litemap_store.specs.Pairs.{value_at}
use Rattle.name_table.specs.Reads.{IsFound}
use Rattle.name_index.specs.Names.{text_order}
use denote.Ref.{Bor}

-- the name that was found in the bytes, or else the one in the table
abbrev pub name_of : Option (ℕ × Bor (List ℕ)) → Option (Bor (List ℕ)) → Option (Bor (List ℕ))
name_of (Some found) own = Some found.1
name_of None own = own

-- what the bytes have at the code is found, and names it before the table does
pub record IsNamed (bytes : List ℕ) (table : List (Bor (List ℕ) × Bor (List ℕ))) (code : Bor (List ℕ))
    (name : Option (Bor (List ℕ))) : Type 0 where
  pub there : Option (ℕ × Bor (List ℕ))
  pub found : IsFound bytes code there
  pub name_is : name ≡ name_of there (value_at by_bytes table code)

-- the string is what the pairs have at the word, or else the word itself
abbrev pub IsTranslated : List (List ℕ × List ℕ) → List ℕ → List ℕ → Type 0
IsTranslated pairs word text = text ≡ unwrap_or (value_at text_order pairs word) word
