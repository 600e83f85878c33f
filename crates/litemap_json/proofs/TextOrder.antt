-- A text whose pairs are found has a tree, and that tree, in the text's order, spells these pairs.
use Rattle.std.proofs.Common.{◌≡◌, ◌≢◌, ℕ, zero, suc, ◌+◌, ◌-◌, ◌<◌, ◌≤◌, List, [], ◌∷◌, length, true, false, Option, Some, None}
use Rattle.std.proofs.Common.{Ok, Err, Result, refl, sym, ap, ◌∙◌, arith, option_map, option_and_then, subst}
use Rattle.json.specs.Token.{Token}
use Rattle.json.specs.Lex.{lex, punctuate, tokens}
use Rattle.json.specs.Json as json
use Rattle.json.specs.Json.{after_end_array, items, members, parse_map, read_key, value}
use Rattle.json.proofs.Grammar.{items_end, items_more, left, members_end, members_more, read_key-shorter, skip_value-shorter}
use Rattle.json.proofs.Grammar.{value-begin_array, value-begin_object}
use Rattle.serde_json.specs.Data.{Data, Items, Members, array, item, member, no_items, no_members, object, put}
use Rattle.serde_json.specs.Read.{converted, of_items, of_json, of_members, read}
use Rattle.litemap_json.specs.Item.{pair_json}
use Rattle.litemap_json.specs.Json.{member_pairs, pairs, row_pairs}
use Rattle.litemap_json.specs.Parse.{Found, Turn, all_turns, and_more, before_more, ended, in_order, keyed, members_in_order, named}
use Rattle.litemap_json.specs.Parse.{opened, opened_pairs, or_row, read_in_order, row, row_closed, row_ended, row_key, text_pairs, turn}
use Rattle.litemap_json.specs.Parse.{unless_closed, with_item}
use Rattle.litemap_json.specs.Taken.{after_begin_array, item_of, taken, with_rest}
use Rattle.litemap_json.specs.declared.item.ItemFault.{ItemFault}

abbrev ok_of : {A E : Type 0} → A → Result A E
ok_of a = Ok a

both_are : {A B E : Type 0} (a c : A) (b d : B) → ok_of {A = A × B} {E = E} (a, b) ≡ ok_of {A = A × B} (c, d) → (a ≡ c) × (b ≡ d)
both_are {A} {B} a c b d h =
    let p : A × B = (a, b) in
    let q : A × B = (c, d) in
    let same : p ≡ q = cc in (ap (λ x. x.0) same, ap (λ x. x.1) same)

-- ---- an item that is taken

abbrev pub IsTaken : (Data → Result Data ItemFault) → ℕ → List Token → Data → List Token → Type 0
IsTaken f depth ts x rest = (j : json.Json) × (value depth ts ≡ Some (j, rest)) × (d : Data) × (of_json j ≡ Some d) × (f d ≡ Ok x)

module _ (f : Data → Result Data ItemFault) (depth : ℕ) (ts : List Token) (x : Data) (rest : List Token) where
  item_is : (j : json.Json) (r : List Token) (d : Data) (i : Result Data ItemFault) → value depth ts ≡ Some (j, r) → of_json j ≡ Some d → f d ≡ i
      → with_rest d r i ≡ Ok (x, rest) → IsTaken f depth ts x rest
  item_is j r d (Err e) read tree is h = absurd cc
  item_is j r d (Ok y) read tree is h =
      let same = both_are y x r rest h in (j, read ∙ ap (λ q. Some (j, q)) same.1, d, tree, is ∙ ap Ok same.0)

  tree_is : (j : json.Json) (r : List Token) (c : Option Data) → value depth ts ≡ Some (j, r) → of_json j ≡ c
      → item_of f (option_map {U = Data × List Token} (λ d. (d, r)) c) ≡ Ok (x, rest) → IsTaken f depth ts x rest
  tree_is j r None read tree h = absurd cc
  tree_is j r (Some d) read tree h = item_is j r d (f d) read tree refl h

  value_is : (o : Option (json.Json × List Token)) → value depth ts ≡ o → item_of f (converted of_json o) ≡ Ok (x, rest) → IsTaken f depth ts x rest
  value_is None read h = absurd cc
  value_is (Some p) read h = tree_is p.0 p.1 (of_json p.0) read refl h

  pub taken_is : taken f depth ts ≡ Ok (x, rest) → IsTaken f depth ts x rest
  taken_is h = value_is (value depth ts) refl h

pub value_shorter : (depth : ℕ) (ts rest : List Token) (j : json.Json) → value depth ts ≡ Some (j, rest) → length rest < length ts
value_shorter depth ts rest j e = skip_value-shorter depth ts rest (ap left e)

-- ---- the grammar's value of an array of two

pub two_values : (depth n : ℕ) (ts s r rest : List Token) (a b : json.Json) → length ts ≤ n → after_end_array ts ≡ None → value depth ts ≡ Some (a, s)
    → after_end_array s ≡ None → value depth s ≡ Some (b, r) → after_end_array r ≡ Some rest
    → items (value depth) n ts ≡ Some (json.item a (json.item b json.no_items), rest)
two_values depth n ts s r rest a b enough going first again second closed =
    let less = value_shorter depth ts s a first in
    let lesser = value_shorter depth s r b second in
    items_more (value depth) n ts s a (omega (arith, enough, less)) going first
    ∙ ap (parse_map (json.item a)) (items_more (value depth) (n - 1) s r b (omega (arith, enough, less, lesser)) again second
    ∙ ap (parse_map (json.item b)) (items_end (value depth) (n - 1 - 1) r rest (omega (arith, enough, less, lesser)) closed))

pub begins_array : (ts rest : List Token) → after_begin_array ts ≡ Some rest → ts ≡ Token.begin_array ∷ rest
begins_array (Token.begin_array ∷ ts) rest e = cc
begins_array _ rest e = absurd cc

-- ---- what all turns find

module _ (next : ℕ → List Token → Turn) (Tree : ℕ → List Token → List (Data × Data) → List Token → Type 0)
    (ends : (place : ℕ) (ts rest : List Token) → next place ts ≡ Ok (None, rest) → Tree place ts [] rest)
    (more : (place : ℕ) (ts r rest : List Token) (p : Data × Data) (ps : List (Data × Data)) → next place ts ≡ Ok (Some p, r) → Tree (place + 1) r ps rest
    → Tree place ts (p ∷ ps) rest) where
  abbrev AllFound : Found → ℕ → List Token → Type 0
  AllFound f place ts = (ps : List (Data × Data)) (rest : List Token) → f ≡ Ok (ps, rest) → Tree place ts ps rest

  at_more : (place : ℕ) (ts r : List Token) (p : Data × Data) (f : Found) → next place ts ≡ Ok (Some p, r) → AllFound f (place + 1) r
      → AllFound (before_more p f) place ts
  at_more place ts r p (Err e) is all ps rest h = absurd cc
  at_more place ts r p (Ok q) is all ps rest h =
      let same = both_are (p ∷ q.0) ps q.1 rest h in
      subst (λ l. Tree place ts l rest) same.0 (more place ts r rest p q.0 is (all q.0 rest (ap (λ l. Ok (q.0, l)) same.1)))

  at_turn : (place : ℕ) (ts : List Token) (t : Turn) (then : List Token → Found) → next place ts ≡ t
      → ((r : List Token) → AllFound (then r) (place + 1) r) → AllFound (and_more then t) place ts
  at_turn place ts (Err e) then is all ps rest h = absurd cc
  at_turn place ts (Ok (None, r)) then is all ps rest h =
      let same = both_are [] ps r rest h in
      subst (λ l. Tree place ts l rest) same.0 (ends place ts rest (is ∙ ap (λ l. Ok (None, l)) same.1))
  at_turn place ts (Ok (Some p, r)) then is all ps rest h = at_more place ts r p (then r) is (all r) ps rest h

  pub turns_found : (n place : ℕ) (ts : List Token) → AllFound (all_turns next place n ts) place ts
  unfolding all_turns
  turns_found zero place ts ps rest h = absurd cc
  turns_found (suc n) place ts ps rest h =
      at_turn place ts (next place ts) (λ r. all_turns next (place + 1) n r) refl (λ r. turns_found n (place + 1) r) ps rest h

-- ---- what a turn found, step by step

item_found : (place : ℕ) (k : Data) (i : Result (Data × List Token) ItemFault) (q : Option (Data × Data)) (rest : List Token)
    → with_item place k i ≡ Ok (q, rest) → (x : Data) × (q ≡ Some (k, x)) × (i ≡ Ok (x, rest))
item_found place k (Err e) q rest h = absurd cc
item_found place k (Ok a) q rest h = let same = both_are (Some (k, a.0)) q a.1 rest h in (a.0, sym same.0, ap (λ l. Ok (a.0, l)) same.1)

still_open : (place : ℕ) (o : Option (List Token)) (t : Turn) (q : Option (Data × Data) × List Token) → unless_closed place o t ≡ Ok q
    → (o ≡ None) × (t ≡ Ok q)
still_open place None t q h = (refl, h)
still_open place (Some ts) t q h = absurd cc

closed_with : (place : ℕ) (p q : Option (Data × Data)) (o : Option (List Token)) (rest : List Token) → row_closed place p o ≡ Ok (q, rest)
    → (p ≡ q) × (o ≡ Some rest)
closed_with place p q None rest h = absurd cc
closed_with place p q (Some ts) rest h = let same = both_are p q ts rest h in (same.0, ap Some same.1)

ended_with : (place : ℕ) (t : Turn) (q : Option (Data × Data)) (rest : List Token) → row_ended place t ≡ Ok (q, rest)
    → (r : List Token) × (t ≡ Ok (q, r)) × (after_end_array r ≡ Some rest)
ended_with place (Err e) q rest h = absurd cc
ended_with place (Ok p) q rest h = let c = closed_with place p.0 q (after_end_array p.1) rest h in (p.1, ap (λ x. Ok (x, p.1)) c.0, c.1)

module _ (key : List ℕ → Option Data) (key_item json_item : Data → Result Data ItemFault) where
  -- ---- members

  abbrev IsMember : Option (Option (List ℕ) × List Token) → Option (Data × Data) → List Token → Type 0
  IsMember o None rest = o ≡ Some (None, rest)
  IsMember o (Some p) rest = (s : List ℕ) × (ts : List Token) × (o ≡ Some (Some s, ts)) × (key s ≡ Some p.0) × (taken json_item 126 ts ≡ Ok (p.1, rest))

  keyed_found : (place : ℕ) (s : List ℕ) (ts : List Token) (k : Option Data) (q : Option (Data × Data)) (rest : List Token)
      → key s ≡ k → keyed key key_item json_item place k ts ≡ Ok (q, rest) → IsMember (Some (Some s, ts)) q rest
  keyed_found place s ts None q rest named h = absurd cc
  keyed_found place s ts (Some k) q rest named h =
      let i = item_found place k (taken json_item 126 ts) q rest h in
      subst (λ x. IsMember (Some (Some s, ts)) x rest) (sym i.1) (s, ts, refl, named, i.2)

  is_member : (place : ℕ) (o : Option (Option (List ℕ) × List Token)) (q : Option (Data × Data)) (rest : List Token)
      → named key key_item json_item place o ≡ Ok (q, rest) → IsMember o q rest
  is_member place None q rest h = absurd cc
  is_member place (Some (None, ts)) None rest h = ap (λ r. Some (None, r)) (both_are None None ts rest h).1
  is_member place (Some (None, ts)) (Some p) rest h = let same = both_are None (Some p) ts rest h in absurd cc
  is_member place (Some (Some s, ts)) q rest h = keyed_found place s ts (key s) q rest refl h

  abbrev MemberTree : ℕ → List Token → List (Data × Data) → List Token → Type 0
  MemberTree place ts ps rest =
      (ms : json.Members) × ((n : ℕ) → length ts ≤ n → members (value 126) n ts ≡ Some (ms, rest))
      × (ds : Members) × (members_in_order ms ≡ Some ds) × (member_pairs key key_item json_item place ds ≡ Ok ps)

  no_more_members : (place : ℕ) (ts rest : List Token) → turn key key_item json_item true place ts ≡ Ok (None, rest) → MemberTree place ts [] rest
  no_more_members place ts rest h =
      let closed = is_member place (read_key ts) None rest h in
      (json.no_members, λ n enough. members_end (value 126) n ts rest enough closed, no_members, refl, refl)

  one_more_member : (place : ℕ) (ts r rest : List Token) (p : Data × Data) (ps : List (Data × Data))
      → turn key key_item json_item true place ts ≡ Ok (Some p, r) → MemberTree (place + 1) r ps rest → MemberTree place ts (p ∷ ps) rest
  one_more_member place ts r rest p ps h t =
      let m = is_member place (read_key ts) (Some p) r h in
      let v = taken_is json_item 126 m.1 p.1 r m.4 in
      let less = read_key-shorter ts (Some m.0) m.1 m.2 in
      let lesser = value_shorter 126 m.1 r v.0 v.1 in (
        json.member m.0 v.0 t.0,
        λ n enough. members_more (value 126) n m.0 ts m.1 r v.0 (omega (arith, enough, less)) m.2 v.1
            ∙ ap (parse_map (json.member m.0 v.0)) (t.1 (n - 1) (omega (arith, enough, less, lesser))),
        member m.0 v.2 t.2,
        rw (v.3, t.3) refl,
        rw (m.3, v.4, t.4) refl,
      )

  -- ---- elements

  abbrev IsRow : List Token → Option (Data × Data) → List Token → Type 0
  IsRow ts None rest = ⊥
  IsRow ts (Some p) rest =
      (s u v : List Token) × (ts ≡ Token.begin_array ∷ s) × (after_end_array s ≡ None) × (taken key_item 125 s ≡ Ok (p.0, u))
      × (after_end_array u ≡ None) × (taken json_item 125 u ≡ Ok (p.1, v)) × (after_end_array v ≡ Some rest)

  row_key_found : (place : ℕ) (ts s : List Token) (i : Result (Data × List Token) ItemFault) (q : Option (Data × Data)) (rest : List Token)
      → ts ≡ Token.begin_array ∷ s → after_end_array s ≡ None → taken key_item 125 s ≡ i → row_key key key_item json_item place i ≡ Ok (q, rest)
      → IsRow ts q rest
  row_key_found place ts s (Err e) q rest begins going key_is h = absurd cc
  row_key_found place ts s (Ok k) q rest begins going key_is h =
      let o = still_open place (after_end_array k.1) (row_ended place (with_item place k.0 (taken json_item 125 k.1))) (q, rest) h in
      let e = ended_with place (with_item place k.0 (taken json_item 125 k.1)) q rest o.1 in
      let i = item_found place k.0 (taken json_item 125 k.1) q e.0 e.1 in
      subst (λ x. IsRow ts x rest) (sym i.1) (s, k.1, e.0, begins, going, key_is, o.0, i.2, e.2)

  row_found : (place : ℕ) (ts : List Token) (o : Option (List Token)) (q : Option (Data × Data)) (rest : List Token) → after_begin_array ts ≡ o
      → row key key_item json_item place o ≡ Ok (q, rest) → IsRow ts q rest
  row_found place ts None q rest is h = absurd cc
  row_found place ts (Some s) q rest is h =
      let i = taken key_item 125 s in
      let o = still_open place (after_end_array s) (row_key key key_item json_item place i) (q, rest) h in
      row_key_found place ts s i q rest (begins_array ts s is) o.0 refl o.1

  abbrev IsElement : List Token → Option (Data × Data) → List Token → Type 0
  IsElement ts None rest = after_end_array ts ≡ Some rest
  IsElement ts (Some p) rest = (after_end_array ts ≡ None) × IsRow ts (Some p) rest

  is_element : (place : ℕ) (ts : List Token) (o : Option (List Token)) (q : Option (Data × Data)) (rest : List Token) → after_end_array ts ≡ o
      → or_row key key_item json_item place o ts ≡ Ok (q, rest) → IsElement ts q rest
  is_element place ts (Some r) None rest is h = is ∙ ap Some (both_are None None r rest h).1
  is_element place ts (Some r) (Some p) rest is h = let same = both_are None (Some p) r rest h in absurd cc
  is_element place ts None None rest is h = absurd (row_found place ts (after_begin_array ts) None rest refl h)
  is_element place ts None (Some p) rest is h = (is, row_found place ts (after_begin_array ts) (Some p) rest refl h)

  abbrev ElementTree : ℕ → List Token → List (Data × Data) → List Token → Type 0
  ElementTree place ts ps rest =
      (js : json.Items) × ((n : ℕ) → length ts ≤ n → items (value 126) n ts ≡ Some (js, rest))
      × (ds : Items) × (of_items js ≡ Some ds) × (row_pairs key key_item json_item place ds ≡ Ok ps)

  no_more_elements : (place : ℕ) (ts rest : List Token) → turn key key_item json_item false place ts ≡ Ok (None, rest) → ElementTree place ts [] rest
  no_more_elements place ts rest h =
      let closed = is_element place ts (after_end_array ts) None rest refl h in
      (json.no_items, λ n enough. items_end (value 126) n ts rest enough closed, no_items, refl, refl)

  one_more_element : (place : ℕ) (ts r rest : List Token) (p : Data × Data) (ps : List (Data × Data))
      → turn key key_item json_item false place ts ≡ Ok (Some p, r) → ElementTree (place + 1) r ps rest → ElementTree place ts (p ∷ ps) rest
  one_more_element place ts r rest p ps h t =
      let m = is_element place ts (after_end_array ts) (Some p) r refl h in
      let s = m.1.0 in
      let a = taken_is key_item 125 s p.0 m.1.1 m.1.5 in
      let b = taken_is json_item 125 m.1.1 p.1 m.1.2 m.1.7 in
      let two = json.item a.0 (json.item b.0 json.no_items) in
      let read = ap (value 126) m.1.3 ∙ value-begin_array 126 s (omega arith)
      ∙ ap (parse_map json.array) (two_values 125 (length s) s m.1.1 m.1.2 r a.0 b.0 (omega arith) m.1.4 a.1 m.1.6 b.1 m.1.8) in
      let less = value_shorter 126 ts r (json.array two) read in (
        json.item (json.array two) t.0,
        λ n enough. items_more (value 126) n ts r (json.array two) (omega (arith, enough, less)) m.0 read
            ∙ ap (parse_map (json.item (json.array two))) (t.1 (n - 1) (omega (arith, enough, less))),
        item (pair_json a.2 b.2) t.2,
        rw (a.3, b.3, t.3) refl,
        rw (a.4, b.4, t.4) refl,
      )

  -- ---- the whole text

  abbrev HasPairs : List Token → List (Data × Data) → Type 0
  HasPairs ts ps = (j : json.Json) × (value 127 ts ≡ Some (j, [])) × (d : Data) × (in_order j ≡ Some d) × (pairs key key_item json_item d ≡ Ok ps)

  members_found : (ts : List Token) (ps : List (Data × Data)) → MemberTree 0 ts ps [] → HasPairs (Token.begin_object ∷ ts) ps
  members_found ts ps t = (
    json.object t.0,
    value-begin_object 127 ts (omega arith) ∙ ap (parse_map json.object) (t.1 (length ts) (omega arith)),
    object t.2,
    rw t.3 refl,
    t.4,
  )

  elements_found : (ts : List Token) (ps : List (Data × Data)) → ElementTree 0 ts ps [] → HasPairs (Token.begin_array ∷ ts) ps
  elements_found ts ps t = (
    json.array t.0,
    value-begin_array 127 ts (omega arith) ∙ ap (parse_map json.array) (t.1 (length ts) (omega arith)),
    array t.2,
    rw t.3 refl,
    t.4,
  )

  ended_is : (f : Found) (ps : List (Data × Data)) → ended f ≡ Ok ps → f ≡ Ok (ps, [])
  ended_is (Err e) ps h = absurd cc
  ended_is (Ok (qs, [])) ps h = let same : qs ≡ ps = cc in ap (λ l. Ok (l, [])) same
  ended_is (Ok (qs, t ∷ ts)) ps h = absurd cc

  tokens_found : (ts : List Token) (ps : List (Data × Data)) → opened_pairs key key_item json_item (opened ts) ≡ Ok ps → HasPairs ts ps
  tokens_found (Token.begin_object ∷ ts) ps h =
      let f = all_turns (turn key key_item json_item true) 0 (suc (length ts)) ts in
      members_found ts ps (turns_found (turn key key_item json_item true) MemberTree no_more_members one_more_member (suc (length ts)) 0 ts ps []
      (ended_is f ps h))
  tokens_found (Token.begin_array ∷ ts) ps h =
      let f = all_turns (turn key key_item json_item false) 0 (suc (length ts)) ts in
      elements_found ts ps (turns_found (turn key key_item json_item false) ElementTree no_more_elements one_more_element (suc (length ts)) 0 ts ps []
      (ended_is f ps h))
  tokens_found _ ps h = absurd cc

  pub text_found : (text : List ℕ) (ps : List (Data × Data)) → text_pairs key key_item json_item text ≡ Ok ps
      → (d : Data) × (read_in_order text ≡ Some d) × (pairs key key_item json_item d ≡ Ok ps)
  text_found text ps h =
      let f = tokens_found (tokens text) ps h in
      (f.2, ap (λ o. option_and_then in_order (option_and_then (λ p. json.if_last p.0 p.1) o)) f.1 ∙ f.3, f.4)

-- ---- a text that has a tree in its order has a tree

abbrev HasMembers : json.Members → Type 0
HasMembers ms = (so_far ds : Members) → members_in_order ms ≡ Some ds → (es : Members) × (of_members ms so_far ≡ Some es)

member_tree : (s : List ℕ) (ms : json.Members) (d : Option Data) (o : Option Members) (so_far ds : Members) → HasMembers ms → members_in_order ms ≡ o
    → option_and_then (λ x. option_map (member s x) o) d ≡ Some ds
    → (es : Members) × (option_and_then (λ x. of_members ms (put s x so_far)) d ≡ Some es)
member_tree s ms None o so_far ds all is h = absurd cc
member_tree s ms (Some x) None so_far ds all is h = absurd cc
member_tree s ms (Some x) (Some es) so_far ds all is h = all (put s x so_far) es is

members_tree : (ms : json.Members) → HasMembers ms
members_tree json.no_members so_far ds h = (so_far, refl)
members_tree (json.member s j ms) so_far ds h = member_tree s ms (of_json j) (members_in_order ms) so_far ds (members_tree ms) refl h

object_tree : (ms : json.Members) (o : Option Members) (d : Data) → members_in_order ms ≡ o → option_map object o ≡ Some d
    → (e : Data) × (of_json (json.object ms) ≡ Some e)
object_tree ms None d is h = absurd cc
object_tree ms (Some ds) d is h = let t = members_tree ms no_members ds is in (object t.0, ap (option_map object) t.1)

json_tree : (j : json.Json) (d : Data) → in_order j ≡ Some d → (e : Data) × (of_json j ≡ Some e)
json_tree (json.object ms) d h = object_tree ms (members_in_order ms) d refl h
json_tree (json.array js) d h = (d, h)
json_tree (json.string s) d h = (d, h)
json_tree (json.number s) d h = (d, h)
json_tree (json.boolean b) d h = (d, h)
json_tree json.null d h = (d, h)

last_tree : (o : Option json.Json) (d : Data) → option_and_then in_order o ≡ Some d → (e : Data) × (option_and_then of_json o ≡ Some e)
last_tree None d h = absurd cc
last_tree (Some j) d h = json_tree j d h

pub has_tree : (text : List ℕ) (d : Data) → read_in_order text ≡ Some d → (e : Data) × (read text ≡ Some e)
has_tree text d h = last_tree (option_and_then (λ p. json.if_last p.0 p.1) (value 127 (tokens text))) d h

pub some_text : (key : List ℕ → Option Data) (key_item json_item : Data → Result Data ItemFault) (text : List ℕ) (ps : List (Data × Data))
    → text_pairs key key_item json_item text ≡ Ok ps → text ≢ []
unfolding lex punctuate
some_text key key_item json_item [] ps h = absurd cc
some_text key key_item json_item (x ∷ text) ps h = λ e. cc
