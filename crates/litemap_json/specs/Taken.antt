-- What the first tokens of a text spell: a value, and the item that it is.
use Rattle.std.specs.Prelude.{◌≡◌, ◌≢◌, ⊤, ℕ, List, ◌∷◌, Option, Some, None, option_map, Result, Ok, Err}
use Rattle.json.specs.Token.{Token}
use Rattle.json.specs.Json.{after_end_array, value}
use Rattle.serde_json.specs.Data.{Data, null, boolean, number, string, array, object}
use Rattle.serde_json.specs.Read.{of_json, number_of, converted}
use Rattle.litemap_json.specs.Item.{pair_json}
use Rattle.litemap_json.specs.declared.item.ItemFault.{ItemFault}
use Rattle.litemap_json.specs.declared.item.ItemFault.TheVariants.{Memory, NoValue}

-- the tree of the first value, which nests no deeper than this, and the tokens after it
abbrev pub first_tree : ℕ → List Token → Option (Data × List Token)
first_tree depth ts = converted of_json (value depth ts)

-- why a tree is no item: of an array or an object any fault may come, for which NoValue stands
abbrev pub fault_of : Data → ItemFault → ItemFault
fault_of (array ds) f = NoValue
fault_of (object ms) f = NoValue
fault_of _ f = f

abbrev pub with_rest : Data → List Token → Result Data ItemFault → Result (Data × List Token) ItemFault
with_rest d ts (Ok x) = Ok (x, ts)
with_rest d ts (Err f) = Err (fault_of d f)

abbrev pub item_of : (Data → Result Data ItemFault) → Option (Data × List Token) → Result (Data × List Token) ItemFault
item_of item None = Err NoValue
item_of item (Some p) = with_rest p.0 p.1 (item p.0)

-- the item that the first value is, and the tokens after it
abbrev pub taken : (Data → Result Data ItemFault) → ℕ → List Token → Result (Data × List Token) ItemFault
taken item depth ts = item_of item (first_tree depth ts)

-- the fault is f, or any if that is NoValue
abbrev pub IsFault : ItemFault → ItemFault → Type 0
IsFault NoValue e = ⊤
IsFault f e = e ≡ f

abbrev pub Refuses : {A : Type 0} → Result A ItemFault → ItemFault → Type 0
Refuses (Ok x) e = ⊥
Refuses (Err f) e = IsFault f e

-- r, as `see` sees it, is the value that a is, or the error; or memory ran out
abbrev pub TakesItem : {T A : Type 0} → (T → A) → Result A ItemFault → Result T ItemFault → Type 0
TakesItem see a (Ok x) = a ≡ Ok (see x)
TakesItem see a (Err e) = e ≢ Memory → Refuses a e

-- what follows the bracket that opens an array
abbrev pub after_begin_array : List Token → Option (List Token)
after_begin_array (Token.begin_array ∷ ts) = Some ts
after_begin_array _ = None

-- ---- for private clauses

-- the value of the first token, if it is a value by itself
abbrev pub scalar : List Token → Option Data
scalar (Token.string s ∷ ts) = Some (string s)
scalar (Token.number s ∷ ts) = option_map number (number_of s)
scalar (Token.boolean b ∷ ts) = Some (boolean b)
scalar (Token.null ∷ ts) = Some null
scalar _ = None

abbrev pub not_closed : Option (List Token) → Result (Data × List Token) ItemFault → Result (Data × List Token) ItemFault
not_closed None r = r
not_closed (Some ts) r = Err NoValue

abbrev pub two_closed : Data → Option (List Token) → Result (Data × List Token) ItemFault
two_closed d None = Err NoValue
two_closed d (Some ts) = Ok (d, ts)

abbrev pub then_second : Data → Result (Data × List Token) ItemFault → Result (Data × List Token) ItemFault
then_second d (Err f) = Err NoValue
then_second d (Ok q) = two_closed (pair_json d q.0) (after_end_array q.1)

abbrev pub then_first : (Data → Result Data ItemFault) → ℕ → Result (Data × List Token) ItemFault → Result (Data × List Token) ItemFault
then_first second depth (Err f) = Err NoValue
then_first second depth (Ok p) = not_closed (after_end_array p.1) (then_second p.0 (taken second depth p.1))

-- the two items of an array, of which the first bracket was taken
abbrev pub two_taken : (Data → Result Data ItemFault) → (Data → Result Data ItemFault) → ℕ → List Token → Result (Data × List Token) ItemFault
two_taken first second depth ts = not_closed (after_end_array ts) (then_first second depth (taken first depth ts))
