-- The pairs that a text spells, in the text's order. Keys and items are seen as their trees.
use Rattle.std.specs.Prelude.{◌≡◌, ◌≢◌, ℕ, zero, suc, ◌+◌, List, [], ◌∷◌, ◌++◌, length, Bool, true, false}
use Rattle.std.specs.Prelude.{Option, Some, None, option_map, option_and_then, Result, Ok, Err}
use Rattle.std.specs.declared.cmp.Ordering.{Ordering}
use Rattle.json.specs.Token.{Token}
use Rattle.json.specs.Lex.{tokens}
use Rattle.json.specs.Json as json
use Rattle.json.specs.Json.{after_end_array, read_key}
use Rattle.serde_json.specs.Data.{Data, Members, no_members, member, object}
use Rattle.serde_json.specs.Read.{of_json, max_depth}
use Rattle.litemap_json.specs.declared.item.ItemFault.{ItemFault}
use Rattle.litemap_json.specs.declared.fault.TextFault.{TextFault}
use Rattle.litemap_json.specs.declared.fault.TextFault.TheVariants.{Memory, NotAMap, NotAPair, NoName, KeyText, Key, Item, AfterMap}
use Rattle.litemap_json.specs.Reading.{ReadsAs}
use Rattle.litemap_json.specs.Taken.{IsFault, after_begin_array, taken}

-- ---- the tree of a text, as `read` of serde_json has it, but with all members of the outermost object, in the text's order

abbrev pub members_in_order : json.Members → Option Members
members_in_order json.no_members = Some no_members
members_in_order (json.member s j ms) = option_and_then (λ d. option_map (member s d) (members_in_order ms)) (of_json j)

abbrev pub in_order : json.Json → Option Data
in_order (json.object ms) = option_map object (members_in_order ms)
in_order j = of_json j

abbrev pub read_in_order : List ℕ → Option Data
read_in_order text = option_and_then in_order (option_and_then (λ p. json.if_last p.0 p.1) (json.value max_depth (tokens text)))

module _ {K V : Type 0} (cmp : K → K → Ordering) (key : List ℕ → Option Data) (key_item json_item : Data → Result Data ItemFault)
    (key_json : K → Data) (json : V → Data) where
  -- the text spells pairs, and L has the last one of each key
  abbrev pub SpellsMap : List ℕ → List (K × V) → Type 0
  SpellsMap text L = (d : Data) × (read_in_order text ≡ Some d) × ReadsAs cmp key key_item json_item key_json json d L

-- ---- the first error of a text

-- a pair or the end, and the tokens after it
abbrev pub Turn : Type 0
Turn = Result (Option (Data × Data) × List Token) TextFault

-- pairs, and the tokens after them
abbrev pub Found : Type 0
Found = Result (List (Data × Data) × List Token) TextFault

abbrev pub with_item : ℕ → Data → Result (Data × List Token) ItemFault → Turn
with_item place k (Err f) = Err (Item place f)
with_item place k (Ok p) = Ok (Some (k, p.0), p.1)

abbrev pub row_closed : ℕ → Option (Data × Data) → Option (List Token) → Turn
row_closed place p None = Err (NotAPair place)
row_closed place p (Some ts) = Ok (p, ts)

abbrev pub row_ended : ℕ → Turn → Turn
row_ended place (Err e) = Err e
row_ended place (Ok p) = row_closed place p.0 (after_end_array p.1)

abbrev pub unless_closed : ℕ → Option (List Token) → Turn → Turn
unless_closed place None turn = turn
unless_closed place (Some ts) turn = Err (NotAPair place)

module _ (key : List ℕ → Option Data) (key_item item : Data → Result Data ItemFault) where
  abbrev pub keyed : ℕ → Option Data → List Token → Turn
  keyed place None ts = Err (KeyText place)
  keyed place (Some k) ts = with_item place k (taken item 126 ts)

  abbrev pub named : ℕ → Option (Option (List ℕ) × List Token) → Turn
  named place None = Err (NoName place)
  named place (Some (None, ts)) = Ok (None, ts)
  named place (Some (Some s, ts)) = keyed place (key s) ts

  -- the item of a row, whose key is k
  abbrev pub row_item : ℕ → Data → List Token → Turn
  row_item place k ts = unless_closed place (after_end_array ts) (row_ended place (with_item place k (taken item 125 ts)))

  abbrev pub row_key : ℕ → Result (Data × List Token) ItemFault → Turn
  row_key place (Err f) = Err (Key place f)
  row_key place (Ok p) = row_item place p.0 p.1

  abbrev pub row : ℕ → Option (List Token) → Turn
  row place None = Err (NotAPair place)
  row place (Some ts) = unless_closed place (after_end_array ts) (row_key place (taken key_item 125 ts))

  abbrev pub or_row : ℕ → Option (List Token) → List Token → Turn
  or_row place (Some rest) ts = Ok (None, rest)
  or_row place None ts = row place (after_begin_array ts)

  -- the next member of an object, or else the next element of an array
  abbrev pub turn : Bool → ℕ → List Token → Turn
  turn true place ts = named place (read_key ts)
  turn false place ts = or_row place (after_end_array ts) ts

abbrev pub before_more : Data × Data → Found → Found
before_more p (Err e) = Err e
before_more p (Ok q) = Ok (p ∷ q.0, q.1)

abbrev pub and_more : (List Token → Found) → Turn → Found
and_more more (Err e) = Err e
and_more more (Ok (None, ts)) = Ok ([], ts)
and_more more (Ok (Some p, ts)) = before_more p (more ts)

-- the pairs of all turns, the first of which has this index. The second number bounds the turns: more than there are tokens is
-- always enough.
unfoldable pub all_turns : (ℕ → List Token → Turn) → ℕ → ℕ → List Token → Found
all_turns turn place zero ts = Err NotAMap
all_turns turn place (suc n) ts = and_more (λ rest. all_turns turn (place + 1) n rest) (turn place ts)

abbrev pub ended : Found → Result (List (Data × Data)) TextFault
ended (Err e) = Err e
ended (Ok (ps, [])) = Ok ps
ended (Ok (ps, t ∷ ts)) = Err AfterMap

-- whether an object opens or an array
abbrev pub opened : List Token → Option (Bool × List Token)
opened (Token.begin_object ∷ ts) = Some (true, ts)
opened (Token.begin_array ∷ ts) = Some (false, ts)
opened _ = None

module _ (key : List ℕ → Option Data) (key_item item : Data → Result Data ItemFault) where
  abbrev pub opened_pairs : Option (Bool × List Token) → Result (List (Data × Data)) TextFault
  opened_pairs None = Err NotAMap
  opened_pairs (Some p) = ended (all_turns (turn key key_item item p.0) 0 (suc (length p.1)) p.1)

  -- the pairs that a text spells, in its order, or the first error
  abbrev pub text_pairs : List ℕ → Result (List (Data × Data)) TextFault
  text_pairs text = opened_pairs (opened (tokens text))

-- the error is f; of an item or a key that is no JSON value, or an array or an object, the index alone
abbrev pub IsStop : TextFault → TextFault → Type 0
IsStop (Item place f) e = (g : ItemFault) × (e ≡ Item place g) × IsFault f g
IsStop (Key place f) e = (g : ItemFault) × (e ≡ Key place g) × IsFault f g
IsStop f e = e ≡ f

-- r is an error, and that is e
abbrev pub Stops : {A : Type 0} → Result A TextFault → TextFault → Type 0
Stops (Ok x) e = ⊥
Stops (Err f) e = IsStop f e

-- ---- for private clauses

-- r, as `see` sees it, is the value that a is, or the error; or memory ran out
abbrev pub Parses : {T A : Type 0} → (T → A) → Result A TextFault → Result T TextFault → Type 0
Parses see a (Ok x) = a ≡ Ok (see x)
Parses see a (Err e) = e ≢ Memory → Stops a e

-- these pairs, and then those of r
abbrev pub found_after : List (Data × Data) → Found → Found
found_after ps (Err e) = Err e
found_after ps (Ok q) = Ok (ps ++ q.0, q.1)
