-- The first value of a text, as an item.
use Rattle.std.proofs.Common.{◌≡◌, ℕ, ℤ, List, [], ◌∷◌, Bool, true, false, Option, Some, None, option_map, option_and_then, Result, Ok, Err}
use Rattle.std.proofs.Common.{String, string_bytes, Global, refl, sym, ap, ◌∙◌, ◌≤◌, ◌⊎◌, inl, inr, append-nil, subst}
use Rattle.std.specs.Prelude.{IfSome, MatchResult, ok_or, if◌then◌else◌}
use Rattle.std.specs.Float.{Float, binary64, float_is_finite}
use Rattle.fast_float.specs.Text.{Parts, nearest}
use Rattle.json.specs.Token.{Token}
use Rattle.json.specs.Json as json
use Rattle.json.specs.Json.{Parse, value_with, parse_map}
use Rattle.json.specs.Lex.{tokens}
use Rattle.json.specs.Print.{print}
use Rattle.json.specs.Tree.{HasNumbers, depth, json_tokens}
use Rattle.json.proofs.Grammar.{value_is}
use Rattle.json.proofs.Printed.Tokens.{tokens-print}
use Rattle.json.proofs.Printed.Trees.{ArePrintable-json_tokens, value-json_tokens}
use Rattle.serde_json.specs.Data.{Data, Num, float, null, boolean, number, string, array, object, Items, Members, no_members}
use Rattle.serde_json.specs.Find.{as_bool, as_integer, as_number, as_str}
use Rattle.serde_json.specs.Read.{of_json, of_items, of_members, float_of, number_of, converted, read}
use Rattle.litemap_json.specs.Item.{Reads, bool_item, in_range, text_item, whole_item, whole_json, whole_text}
use Rattle.litemap_json.specs.Taken.{IsFault, Refuses, TakesItem, after_begin_array, fault_of, first_tree, item_of, scalar, taken}
use Rattle.litemap_json.specs.declared.item.ItemFault.{ItemFault}
use Rattle.litemap_json.specs.declared.item.ItemFault.TheVariants.{Memory, Shape, Range, Float as Fraction, NoValue}

same_fault : (e : ItemFault) → IsFault e e
same_fault Memory = refl
same_fault Shape = refl
same_fault Range = refl
same_fault Fraction = refl
same_fault NoValue = tt

its_fault : (d : Data) (e : ItemFault) → IsFault (fault_of d e) e
its_fault null e = same_fault e
its_fault (boolean b) e = same_fault e
its_fault (number n) e = same_fault e
its_fault (string s) e = same_fault e
its_fault (array ds) e = tt
its_fault (object ms) e = tt

-- a value that is read as an item is taken as that
pub value_taken : {T : Type 0} (see : T → Data) (item : Data → Result Data ItemFault) (depth : ℕ) (d : Data) (ts rest : List Token) (r : Result T ItemFault)
    → first_tree depth ts ≡ Some (d, rest) → Reads Memory see (item d) r → TakesItem (λ x. (see x, rest)) (taken item depth ts) r
value_taken see item depth d ts rest (Ok x) first h = rw (first, h) refl
value_taken see item depth d ts rest (Err e) first h = λ known. rw (first, h known) (its_fault d e)

pub no_value_taken : (item : Data → Result Data ItemFault) (depth : ℕ) (ts : List Token) (e : ItemFault) → first_tree depth ts ≡ None
    → Refuses (taken item depth ts) e
no_value_taken item depth ts e none = rw none tt

-- a tree that is written is read again
pub read_printed : (j : json.Json) (text : List ℕ) (o : Option Data) → HasNumbers j → depth j ≤ 127 → text ≡ print (json_tokens j) → read text ≡ o
    → of_json j ≡ o
read_printed j text o numbers shallow is h =
    let printed = ap tokens is ∙ tokens-print (json_tokens j) (ArePrintable-json_tokens j numbers) ∙ sym (append-nil (json_tokens j)) in
    let whole = ap (json.value 127) printed ∙ value-json_tokens j 127 [] shallow in
    sym (ap (λ r. option_and_then of_json (option_and_then (λ p. json.if_last p.0 p.1) r)) whole) ∙ h

-- ---- a scalar is wanted, and another value comes first

abbrev OtherFirst : (Data → Type 0) → List Token → ItemFault → Type 0
OtherFirst P ts e = IfSome (scalar ts) (λ d. P d × (e ≡ Shape))

module _ (item : Data → Result Data ItemFault) (no_object : (ms : Members) → item (object ms) ≡ Err Shape) (e : ItemFault) where
  abbrev Refused : Option (json.Json × List Token) → Type 0
  Refused o = Refuses (item_of item (converted of_json o)) e

  abbrev RefusedTree : Option Data → List Token → Type 0
  RefusedTree d ts = Refuses (item_of item (option_map {U = Data × List Token} (λ b. (b, ts)) d)) e

  -- no array comes first, or none is an item
  abbrev NoArray : List Token → Type 0
  NoArray ts = (after_begin_array ts ≡ None) ⊎ ((ds : Items) → item (array ds) ≡ Err Shape)

  an_array : (d : Option Items) (ts : List Token) → ((ds : Items) → item (array ds) ≡ Err Shape) → RefusedTree (option_map array d) ts
  an_array None ts none = tt
  an_array (Some ds) ts none = rw (none ds) tt

  an_object : (d : Option Members) (ts : List Token) → RefusedTree (option_map object d) ts
  an_object None ts = tt
  an_object (Some ms) ts = rw (no_object ms) tt

  after_bracket : (o : Option (json.Items × List Token)) → ((ds : Items) → item (array ds) ≡ Err Shape) → Refused (parse_map json.array o)
  after_bracket None none = tt
  after_bracket (Some p) none = an_array (of_items p.0) p.1 none

  after_brace : (o : Option (json.Members × List Token)) → Refused (parse_map json.object o)
  after_brace None = tt
  after_brace (Some p) = an_object (of_members p.0 no_members) p.1

  a_number : (n : Option Num) (ts : List Token) → IfSome (option_map number n) (λ d. (item d ≡ Err Shape) × (e ≡ Shape))
      → RefusedTree (option_map number n) ts
  a_number None ts h = tt
  a_number (Some n) ts h = rw h.0 h.1

  other_at : (a : Parse json.Items) (o : Parse json.Members) (ts : List Token) → NoArray ts
      → OtherFirst (λ d. item d ≡ Err Shape) ts e → Refused (value_with a o ts)
  other_at a o [] n h = tt
  other_at a o (Token.begin_object ∷ ts) n h = after_brace (o ts)
  other_at a o (Token.end_object ∷ ts) n h = tt
  other_at a o (Token.begin_array ∷ ts) n h = elim n [ inl shut ↦ absurd cc | inr none ↦ after_bracket (a ts) none ]
  other_at a o (Token.end_array ∷ ts) n h = tt
  other_at a o (Token.key s ∷ ts) n h = tt
  other_at a o (Token.string s ∷ ts) n h = rw h.0 h.1
  other_at a o (Token.number s ∷ ts) n h = a_number (number_of s) ts h
  other_at a o (Token.boolean b ∷ ts) n h = rw h.0 h.1
  other_at a o (Token.null ∷ ts) n h = rw h.0 h.1
  other_at a o (Token.bad ∷ ts) n h = tt

  pub other : (depth : ℕ) (ts : List Token) → NoArray ts → OtherFirst (λ d. item d ≡ Err Shape) ts e → Refuses (taken item depth ts) e
  other depth ts n h = subst Refused (sym (value_is depth ts)) (other_at _ _ ts n h)

if_some : {P Q : Data → Type 0} (o : Option Data) (E : Type 0) → ((d : Data) → P d → Q d) → IfSome o (λ d. P d × E) → IfSome o (λ d. Q d × E)
if_some None E f h = tt
if_some (Some d) E f h = (f d h.0, h.1)

pub no_whole : (fits : ℤ → Bool) (depth : ℕ) (ts : List Token) (e : ItemFault) → IfSome (scalar ts) (λ d. (as_number d ≡ None) × (e ≡ Shape))
    → Refuses (taken (whole_item fits) depth ts) e
no_whole fits depth ts e h = other (whole_item fits) (λ _. refl) e depth ts (inr (λ _. refl)) (if_some (scalar ts) (e ≡ Shape) (λ d f. rw f refl) h)

pub no_text : (depth : ℕ) (ts : List Token) (e : ItemFault) → IfSome (scalar ts) (λ d. (as_str d ≡ None) × (e ≡ Shape))
    → Refuses (taken text_item depth ts) e
no_text depth ts e h = other text_item (λ _. refl) e depth ts (inr (λ _. refl)) (if_some (scalar ts) (e ≡ Shape) (λ d f. rw f refl) h)

-- ---- the scalar that is wanted

pub text_taken : (depth : ℕ) (s : List ℕ) (ts rest : List Token) (r : Result (String Global) ItemFault) → ts ≡ Token.string s ∷ rest
    → MatchResult r (λ copy. string_bytes copy ≡ s) (λ e. e ≡ Memory) → TakesItem (λ x. (string (string_bytes x), rest)) (taken text_item depth ts) r
text_taken depth s ts rest (Ok copy) e h =
    rw (e, h) (ap (λ o. item_of text_item (converted of_json o)) (value_is depth (Token.string s ∷ rest)))
text_taken depth s ts rest (Err e) h is = λ known. absurd (known is)

pub flag_taken : (depth : ℕ) (ts rest : List Token) (r : Result Bool ItemFault)
    → MatchResult r (λ b. ts ≡ Token.boolean b ∷ rest) (λ e. IfSome (scalar ts) (λ d. (as_bool d ≡ None) × (e ≡ Shape)))
    → TakesItem (λ b. (boolean b, rest)) (taken bool_item depth ts) r
flag_taken depth ts rest (Ok b) e = rw e (ap (λ o. item_of bool_item (converted of_json o)) (value_is depth (Token.boolean b ∷ rest)))
flag_taken depth ts rest (Err e) h =
    λ _. other bool_item (λ _. refl) e depth ts (inr (λ _. refl)) (if_some (scalar ts) (e ≡ Shape) (λ d f. rw f refl) h)

module _ {T : Type 0} (see : T → ℤ) (fits : ℤ → Bool) where
  whole_at : (n : Option Num) (ts rest : List Token) (depth : ℕ) (r : Result T ItemFault)
      → first_tree depth ts ≡ option_map {U = Data × List Token} (λ d. (d, rest)) (option_map number n)
      → Reads Memory (λ x. whole_json (see x)) (in_range fits (ok_or (option_and_then as_integer n) Fraction)) r
      → TakesItem (λ x. (whole_json (see x), rest)) (taken (whole_item fits) depth ts) r
  whole_at None ts rest depth (Ok x) first h = absurd cc
  whole_at None ts rest depth (Err e) first h = λ _. no_value_taken (whole_item fits) depth ts e first
  whole_at (Some n) ts rest depth r first h = value_taken (λ x. whole_json (see x)) (whole_item fits) depth (number n) ts rest r first h

  pub whole_taken : (depth : ℕ) (s : List ℕ) (ts rest : List Token) (r : Result T ItemFault) → ts ≡ Token.number s ∷ rest
      → Reads Memory (λ x. whole_json (see x)) (in_range fits (whole_text s)) r
      → TakesItem (λ x. (whole_json (see x), rest)) (taken (whole_item fits) depth ts) r
  whole_taken depth s ts rest r e h =
      whole_at (number_of s) ts rest depth r (ap (first_tree depth) e ∙ ap (converted of_json) (value_is depth (Token.number s ∷ rest))) h

-- ---- whole numbers

if_finite : (b : Bool) (x : Float) → option_and_then as_integer (if b then Some (float x) else None) ≡ None
if_finite true x = refl
if_finite false x = refl

pub no_whole_float : (sign : Bool) (p : Parts) → option_and_then as_integer (float_of sign p) ≡ None
no_whole_float sign p = if_finite (float_is_finite (nearest binary64 sign p)) (nearest binary64 sign p)
