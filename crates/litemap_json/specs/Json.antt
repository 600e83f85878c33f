-- A map as JSON: the tree of a list of pairs, and the pairs that a tree spells. Keys and items are seen as their trees, and
-- keys as the bytes of their strings too.
use Rattle.std.specs.Prelude.{⊤, ℕ, ◌+◌, List, [], ◌∷◌, map, if◌then◌else◌, is_some, Option, Some, None, Result, Ok, Err}
use Rattle.serde_json.specs.Data.{Data, array, object}
use Rattle.serde_json.specs.Data.{Items, no_items, item, Members, no_members, member, put}
use Rattle.serde_json.specs.View.{items_of}
use Rattle.litemap_json.specs.Item.{pair_json, two_of}
use Rattle.litemap_json.specs.declared.item.ItemFault.{ItemFault}
use Rattle.litemap_json.specs.declared.fault.WriteFault.{WriteFault}
use Rattle.litemap_json.specs.declared.fault.WriteFault.TheVariants.{KeyWithoutText}
use Rattle.litemap_json.specs.declared.fault.JsonFault.{JsonFault}
use Rattle.litemap_json.specs.declared.fault.JsonFault.TheVariants.{NotAMap, NotAPair, KeyText, Key, Item}

-- ---- writing

-- `next` of the key's string, or the error that the key at this index has none
abbrev pub named : ℕ → Option (List ℕ) → (List ℕ → Result Data WriteFault) → Result Data WriteFault
named place None next = Err (KeyWithoutText place)
named place (Some s) next = next s

module _ {K V : Type 0} (text : K → Option (List ℕ)) (key_json : K → Data) (json : V → Data) where
  -- a pair as an array of two
  abbrev pub row : K × V → Data
  row p = pair_json (key_json p.0) (json p.1)

  -- the pairs, each as an array of two
  abbrev pub rows : List (K × V) → Items
  rows L = items_of (map row L)

  -- the object with these members and those of the pairs, the first of which has this index
  abbrev pub object_with : ℕ → Members → List (K × V) → Result Data WriteFault
  object_with place ms [] = Ok (object ms)
  object_with place ms (p ∷ L) = named place (text p.0) (λ s. object_with (place + 1) (put s (json p.1) ms) L)

  -- the tree of a list of pairs, of which the first key decides: an object if it has a string, else an array; the empty array
  -- if there is no key
  abbrev pub tree : List (K × V) → Result Data WriteFault
  tree [] = Ok (array no_items)
  tree (p ∷ L) = if is_some (text p.0) then object_with 0 no_members (p ∷ L) else Ok (array (rows (p ∷ L)))

-- ---- reading

-- the first error, or the pair before the others
abbrev pub prepended : Result (Data × Data) JsonFault → Result (List (Data × Data)) JsonFault → Result (List (Data × Data)) JsonFault
prepended (Err e) r = Err e
prepended (Ok p) (Err e) = Err e
prepended (Ok p) (Ok L) = Ok (p ∷ L)

-- the pair of a key and an item, or the error of the first that is none, the key's before the item's
abbrev pub pair_at : ℕ → Result Data ItemFault → Result Data ItemFault → Result (Data × Data) JsonFault
pair_at place (Err f) r = Err (Key place f)
pair_at place (Ok k) (Err f) = Err (Item place f)
pair_at place (Ok k) (Ok d) = Ok (k, d)

module _ (key : List ℕ → Option Data) (key_item json_item : Data → Result Data ItemFault) where
  -- the pair of an array's element, which has to be an array of two
  abbrev pub row_at : ℕ → Option (Data × Data) → Result (Data × Data) JsonFault
  row_at place None = Err (NotAPair place)
  row_at place (Some p) = pair_at place (key_item p.0) (json_item p.1)

  -- the pairs that the elements of an array spell, the first of which has this index, or the first error
  abbrev pub row_pairs : ℕ → Items → Result (List (Data × Data)) JsonFault
  row_pairs place no_items = Ok []
  row_pairs place (item d ds) = prepended (row_at place (two_of d)) (row_pairs (place + 1) ds)

  -- the pair of an object's member, whose name has to be a key's string
  abbrev pub member_at : ℕ → Option Data → Data → Result (Data × Data) JsonFault
  member_at place None d = Err (KeyText place)
  member_at place (Some k) d = pair_at place (Ok k) (json_item d)

  -- the pairs that the members of an object spell, the first of which has this index, or the first error
  abbrev pub member_pairs : ℕ → Members → Result (List (Data × Data)) JsonFault
  member_pairs place no_members = Ok []
  member_pairs place (member s d ms) = prepended (member_at place (key s) d) (member_pairs (place + 1) ms)

  -- the pairs that a tree spells, in its order, or the error at the first index that spells none
  abbrev pub pairs : Data → Result (List (Data × Data)) JsonFault
  pairs (array ds) = row_pairs 0 ds
  pairs (object ms) = member_pairs 0 ms
  pairs _ = Err NotAMap

-- it is an array with an element, or an object with a member
abbrev pub HasElements : Data → Type 0
HasElements (array (item d ds)) = ⊤
HasElements (object (member s d ms)) = ⊤
HasElements _ = ⊥
