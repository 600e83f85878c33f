-- Which map a tree is read as.
use Rattle.std.specs.Prelude.{◌≡◌, ℕ, List, map, ◌++◌, Option, Result, Ok, Err}
use Rattle.std.specs.declared.cmp.Ordering.{Ordering}
use Rattle.std.specs.List.{AllByRecursion}
use Rattle.serde_json.specs.Data.{Data}
use Rattle.litemap_store.specs.Last.{Last}
use Rattle.litemap_json.specs.declared.item.ItemFault.{ItemFault}
use Rattle.litemap_json.specs.Json.{pairs}
use Rattle.litemap_json.specs.declared.fault.JsonFault.{JsonFault}

-- a pair, as its trees
abbrev pub pair_seen : {K V : Type 0} → (K → Data) → (V → Data) → K × V → Data × Data
pair_seen key_json json p = (key_json p.0, json p.1)

-- the pairs of a list, as their trees
abbrev pub seen : {K V : Type 0} → (K → Data) → (V → Data) → List (K × V) → List (Data × Data)
seen key_json json L = map (pair_seen key_json json) L

module _ {K V : Type 0} (cmp : K → K → Ordering) (key : List ℕ → Option Data) (key_item json_item : Data → Result Data ItemFault)
    (key_json : K → Data) (json : V → Data) where
  -- the tree d represents pairs, and L has the last one of each key
  pub record ReadsAs (d : Data) (L : List (K × V)) : Type 0 where
    pub given : List (K × V)
    pub gives : pairs key key_item json_item d ≡ Ok (seen key_json json given)
    pub last : Last cmp given L

-- what is read from the trees of a pair is that pair
abbrev pub ReadsBack : {K V : Type 0} → (Data → Result Data ItemFault) → (Data → Result Data ItemFault)
    → (K → Data) → (V → Data) → K × V → Type 0
ReadsBack key_item json_item key_json json p =
    (key_item (key_json p.0) ≡ Ok (key_json p.0)) × (json_item (json p.1) ≡ Ok (json p.1))

abbrev pub AllReadBack : {K V : Type 0} → (Data → Result Data ItemFault) → (Data → Result Data ItemFault)
    → (K → Data) → (V → Data) → List (K × V) → Type 0
AllReadBack key_item json_item key_json json L = AllByRecursion (ReadsBack key_item json_item key_json json) L

-- these pairs, and then those of r
abbrev pub after : List (Data × Data) → Result (List (Data × Data)) JsonFault → Result (List (Data × Data)) JsonFault
after ps (Err e) = Err e
after ps (Ok qs) = Ok (ps ++ qs)
