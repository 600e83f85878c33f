-- What is written of a tree: token by token, and as a text.
use Rattle.std.specs.Prelude.{◌≡◌, ◌++◌, ℕ, false, List, [], ◌∷◌, Option, Some, slice_get, decimal, string_bytes}
use Rattle.std.specs.Fmt.{signed_decimal}
use Rattle.json.specs.Json.{Json}
use Rattle.json.specs.Lex.{tokens}
use Rattle.json.specs.Print.{print}
use Rattle.json.specs.Token.{Token}
use Rattle.json.specs.Tree.{json_tokens}
use Rattle.serde_json.specs.Data.{Data, Members, no_members, member}
use Rattle.litemap_json.specs.declared.name.AnyName.{AnyName}
use Rattle.litemap_json.specs.declared.name.AnyName.TheVariants.{Unsigned, Signed, Text}
use Rattle.serde_json.specs.Written.{blank, compact_text, has_float, IsInOrder, outline}

-- The new tokens are those of the tree, in its order: its items and members, each once, and its whole numbers in decimal. Of
-- its floats alone the digits are left open.
abbrev pub WritesTree : Data → List Token → List Token → Type 0
WritesTree d old new = (j : Json) × (new ≡ old ++ json_tokens j) × (blank j ≡ outline d)

-- The text is the tree's compact one. Of a tree with a float, whose digits the definitions leave open, it is a text with no
-- space that has the tree's items and members, each once and in order.
pub record IsTextOf (d : Data) (text : List ℕ) : Type 0 where
  pub compact : has_float d ≡ false → text ≡ compact_text d
  pub order : IsInOrder text d
  pub no_space : text ≡ print (tokens text)

-- for a private clause: the first pair has this item, and its key this name, which reads as the key
abbrev pub IsFirst : {K V : Type 0} → (K → Option (List ℕ)) → (List ℕ → Option Data) → (K → Data) → List (K × V) → List ℕ → V
    → Type 0
IsFirst {K} text key key_json L name item =
    (k : K) × (Some (k, item) ≡ slice_get L 0) × (text k ≡ Some name) × (key name ≡ Some (key_json k))

-- for private clauses: the bytes of a name
abbrev pub name_bytes : AnyName → List ℕ
name_bytes (Unsigned n) = decimal n
name_bytes (Signed z) = signed_decimal z
name_bytes (Text s) = string_bytes s

-- for private clauses: the members of items that have names
abbrev pub named : {N V : Type 0} → (N → List ℕ) → (V → Data) → List (N × V) → Members
named bytes json [] = no_members
named bytes json (p ∷ L) = member (bytes p.0) (json p.1) (named bytes json L)
