-- The laws over the definitions, which the functions of the module `laws` have as their contracts.
use Rattle.std.specs.Prelude.{◌≡◌, ℕ, List, Option, Result, Some, String, option_map}
use Rattle.std.specs.declared.cmp.Ordering.{Ordering}
use Rattle.std.specs.declared.cmp.Ordering.TheVariants.{Equal}
use Rattle.serde_json.specs.Data.{Data}
use Rattle.serde_json.specs.Read.{read}
use Rattle.litemap_store.specs.Pairs.{value_at}
use Rattle.litemap_store.specs.Queries.{by_string}
use Rattle.litemap_json.specs.declared.item.ItemFault.{ItemFault}
use Rattle.litemap_json.specs.Parse.{SpellsMap}
use Rattle.litemap_json.specs.Reading.{ReadsAs, seen}

module _ {K V : Type 0} (cmp : K → K → Ordering) (key : List ℕ → Option Data) (key_item json_item : Data → Result Data ItemFault)
    (key_json : K → Data) (json : V → Data) where
  -- the maps that one tree is read as have the same trees of keys and items, pair by pair
  abbrev pub OneReading : Type 0
  OneReading = (d : Data) (L M : List (K × V)) → ReadsAs cmp key key_item json_item key_json json d L
      → ReadsAs cmp key key_item json_item key_json json d M → seen key_json json L ≡ seen key_json json M

-- equal keys have one name
abbrev pub OneName : {K : Type 0} → (K → K → Ordering) → (List ℕ → Option Data) → (K → Data) → Type 0
OneName {K} cmp key key_json = (x y : K) (s t : List ℕ) → key s ≡ Some (key_json x) → key t ≡ Some (key_json y) → cmp x y ≡ Equal → s ≡ t

module _ {K V : Type 0} (cmp : K → K → Ordering) (key : List ℕ → Option Data) (key_item json_item : Data → Result Data ItemFault)
    (key_json : K → Data) (json : V → Data) where
  -- if equal keys have one name, a map that a text spells is one that the text's tree is read as
  abbrev pub TextReading : Type 0
  TextReading = OneName cmp key key_json → (text : List ℕ) (d : Data) (L : List (K × V))
      → SpellsMap cmp key key_item json_item key_json json text L → read text ≡ Some d → ReadsAs cmp key key_item json_item key_json json d L

module _ {Z V : Type 0} (cmp : String Z → String Z → Ordering) (key : List ℕ → Option Data)
    (key_item json_item : Data → Result Data ItemFault) (key_json : String Z → Data) (json : V → Data) where
  -- a lookup by a string finds items with the same tree in both, or nothing in either
  abbrev pub OneReadingByText : Type 0
  OneReadingByText = (d : Data) (L M : List (String Z × V)) → ReadsAs cmp key key_item json_item key_json json d L
      → ReadsAs cmp key key_item json_item key_json json d M
      → (text : List ℕ) → option_map json (value_at by_string L text) ≡ option_map json (value_at by_string M text)
