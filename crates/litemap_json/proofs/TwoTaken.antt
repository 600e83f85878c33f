-- The array of two items, taken one by one.
use Rattle.std.proofs.Common.{◌≡◌, inl, ℕ, ◌-◌, ◌<◌, ◌≤◌, List, ◌∷◌, length, Option, Some, None, option_and_then, option_map, Result, Ok, Err}
use Rattle.std.proofs.Common.{refl, sym, ap, ◌∙◌, arith, subst}
use Rattle.std.specs.Prelude.{IfSome}
use Rattle.json.specs.Token.{Token}
use Rattle.json.specs.Json as json
use Rattle.json.specs.Json.{after_end_array, items, parse_map, value}
use Rattle.json.proofs.Grammar.{items_end, items_fail, items_more, value-begin_array}
use Rattle.serde_json.specs.Data.{Data, Items, Num, array, item, no_items, number}
use Rattle.serde_json.specs.Read.{converted, number_of, of_items, of_json}
use Rattle.litemap_json.specs.Item.{pair_item, pair_json}
use Rattle.litemap_json.specs.Taken.{Refuses, TakesItem, after_begin_array, item_of, not_closed, scalar, taken, then_first, then_second}
use Rattle.litemap_json.specs.Taken.{two_closed, two_taken, with_rest}
use Rattle.litemap_json.specs.declared.item.ItemFault.{ItemFault}
use Rattle.litemap_json.specs.declared.item.ItemFault.TheVariants.{NoValue, Shape}
use Rattle.litemap_json.proofs.FirstItem.{other}
use Rattle.litemap_json.proofs.TextOrder.{begins_array, value_shorter}

module _ (f g : Data → Result Data ItemFault) (d : ℕ) where
  -- the pair that the values of an array are
  abbrev of_values : Option (json.Items × List Token) → Result (Data × List Token) ItemFault
  of_values o = item_of (pair_item f g) (converted of_json (parse_map json.array o))

  abbrev of_trees : Option Items → List Token → Result (Data × List Token) ItemFault
  of_trees c rest = item_of (pair_item f g) (option_map {U = Data × List Token} (λ b. (b, rest)) (option_map array c))

  abbrev IsNone : Result (Data × List Token) ItemFault → Type 0
  IsNone r = r ≡ Err NoValue

  first_none : (a : json.Json) (o : Option (json.Items × List Token)) → of_json a ≡ None → IsNone (of_values (parse_map (json.item a) o))
  first_none a None e = refl
  first_none a (Some p) e = rw e refl

  refused_first : (x : Data) (e : ItemFault) (c : Option Items) (rest : List Token) → f x ≡ Err e → IsNone (of_trees (option_map (item x) c) rest)
  refused_first x e None rest h = refl
  refused_first x e (Some no_items) rest h = refl
  refused_first x e (Some (item y no_items)) rest h = rw h refl
  refused_first x e (Some (item y (item z ds))) rest h = refl

  first_refused : (a : json.Json) (x : Data) (e : ItemFault) (o : Option (json.Items × List Token)) → of_json a ≡ Some x → f x ≡ Err e
      → IsNone (of_values (parse_map (json.item a) o))
  first_refused a x e None tree h = refl
  first_refused a x e (Some p) tree h = rw tree (refused_first x e (of_items p.0) p.1 h)

  module _ (a : json.Json) (x first : Data) (tree : of_json a ≡ Some x) (is : f x ≡ Ok first) where
    second_none : (b : json.Json) (o : Option (json.Items × List Token)) → of_json b ≡ None
        → IsNone (of_values (parse_map (json.item a) (parse_map (json.item b) o)))
    second_none b None e = refl
    second_none b (Some p) e = rw (tree, e) refl

    refused_second : (y : Data) (e : ItemFault) (c : Option Items) (rest : List Token) → g y ≡ Err e
        → IsNone (of_trees (option_map (item x) (option_map (item y) c)) rest)
    refused_second y e None rest h = refl
    refused_second y e (Some no_items) rest h = rw (is, h) refl
    refused_second y e (Some (item z ds)) rest h = refl

    second_refused : (b : json.Json) (y : Data) (e : ItemFault) (o : Option (json.Items × List Token)) → of_json b ≡ Some y → g y ≡ Err e
        → IsNone (of_values (parse_map (json.item a) (parse_map (json.item b) o)))
    second_refused b y e None here h = refl
    second_refused b y e (Some p) here h = rw (tree, here) (refused_second y e (of_items p.0) p.1 h)

    third_tree : (y : Data) (c : Option Data) (o : Option Items) (rest : List Token)
        → IsNone (of_trees (option_map (item x) (option_map (item y) (option_and_then (λ z. option_map (item z) o) c))) rest)
    third_tree y None o rest = refl
    third_tree y (Some z) None rest = refl
    third_tree y (Some z) (Some ds) rest = refl

    third : (b c : json.Json) (y : Data) (o : Option (json.Items × List Token)) → of_json b ≡ Some y
        → IsNone (of_values (parse_map (json.item a) (parse_map (json.item b) (parse_map (json.item c) o))))
    third b c y None here = refl
    third b c y (Some p) here = rw (tree, here) (third_tree y (of_json c) (of_items p.0) p.1)

    abbrev after_two : json.Json → ℕ → List Token → Result (Data × List Token) ItemFault
    after_two b n v = of_values (parse_map (json.item a) (parse_map (json.item b) (items (value d) n v)))

    third_value : (b : json.Json) (y : Data) (n : ℕ) (v : List Token) (o : Option (json.Json × List Token)) → of_json b ≡ Some y → length v ≤ n
        → after_end_array v ≡ None → value d v ≡ o → IsNone (after_two b n v)
    third_value b y n v None here enough going e = rw (items_fail (value d) n v going e) refl
    third_value b y n v (Some p) here enough going e =
        rw (items_more (value d) n v p.1 p.0 (omega (arith, enough, value_shorter d v p.1 p.0 e)) going e)
        (third b p.0 y (items (value d) (n - 1) p.1) here)

    third_end : (b : json.Json) (y second : Data) (n : ℕ) (v : List Token) (o : Option (List Token)) → of_json b ≡ Some y → g y ≡ Ok second
        → length v ≤ n → after_end_array v ≡ o → after_two b n v ≡ two_closed (pair_json first second) o
    third_end b y second n v None here same enough e = third_value b y n v (value d v) here enough e refl
    third_end b y second n v (Some r) here same enough e = rw (items_end (value d) n v r enough e, tree, here, is, same) refl

    second_item : (b : json.Json) (y : Data) (n : ℕ) (v : List Token) (i : Result Data ItemFault) → of_json b ≡ Some y → g y ≡ i → length v ≤ n
        → after_two b n v ≡ then_second first (with_rest y v i)
    second_item b y n v (Err e) here h enough = second_refused b y e (items (value d) n v) here h
    second_item b y n v (Ok second) here h enough = third_end b y second n v (after_end_array v) here h enough refl

    second_tree : (b : json.Json) (n : ℕ) (v : List Token) (c : Option Data) → of_json b ≡ c → length v ≤ n
        → after_two b n v ≡ then_second first (item_of g (option_map {U = Data × List Token} (λ y. (y, v)) c))
    second_tree b n v None here enough = second_none b (items (value d) n v) here
    second_tree b n v (Some y) here enough = second_item b y n v (g y) here refl enough

    second_value : (n : ℕ) (u : List Token) (o : Option (json.Json × List Token)) → length u ≤ n → after_end_array u ≡ None → value d u ≡ o
        → of_values (parse_map (json.item a) (items (value d) n u)) ≡ then_second first (item_of g (converted of_json o))
    second_value n u None enough going e = rw (items_fail (value d) n u going e) refl
    second_value n u (Some p) enough going e =
        let less = value_shorter d u p.1 p.0 e in
        rw (items_more (value d) n u p.1 p.0 (omega (arith, enough, less)) going e)
        (second_tree p.0 (n - 1) p.1 (of_json p.0) refl (omega (arith, enough, less)))

    second_end : (n : ℕ) (u : List Token) (o : Option (List Token)) → length u ≤ n → after_end_array u ≡ o
        → of_values (parse_map (json.item a) (items (value d) n u)) ≡ not_closed o (then_second first (taken g d u))
    second_end n u None enough e = second_value n u (value d u) enough e refl
    second_end n u (Some r) enough e = rw (items_end (value d) n u r enough e, tree) refl

  first_item : (a : json.Json) (x : Data) (n : ℕ) (u : List Token) (i : Result Data ItemFault) → of_json a ≡ Some x → f x ≡ i → length u ≤ n
      → of_values (parse_map (json.item a) (items (value d) n u)) ≡ then_first g d (with_rest x u i)
  first_item a x n u (Err e) here h enough = first_refused a x e (items (value d) n u) here h
  first_item a x n u (Ok first) here h enough = second_end a x first here h n u (after_end_array u) enough refl

  first_tree_is : (a : json.Json) (n : ℕ) (u : List Token) (c : Option Data) → of_json a ≡ c → length u ≤ n
      → of_values (parse_map (json.item a) (items (value d) n u)) ≡ then_first g d (item_of f (option_map {U = Data × List Token} (λ x. (x, u)) c))
  first_tree_is a n u None here enough = first_none a (items (value d) n u) here
  first_tree_is a n u (Some x) here enough = first_item a x n u (f x) here refl enough

  first_value : (n : ℕ) (ts : List Token) (o : Option (json.Json × List Token)) → length ts ≤ n → after_end_array ts ≡ None → value d ts ≡ o
      → of_values (items (value d) n ts) ≡ then_first g d (item_of f (converted of_json o))
  first_value n ts None enough going e = rw (items_fail (value d) n ts going e) refl
  first_value n ts (Some p) enough going e =
      let less = value_shorter d ts p.1 p.0 e in
      rw (items_more (value d) n ts p.1 p.0 (omega (arith, enough, less)) going e)
      (first_tree_is p.0 (n - 1) p.1 (of_json p.0) refl (omega (arith, enough, less)))

  first_end : (n : ℕ) (ts : List Token) (o : Option (List Token)) → length ts ≤ n → after_end_array ts ≡ o
      → of_values (items (value d) n ts) ≡ not_closed o (then_first g d (taken f d ts))
  first_end n ts None enough e = first_value n ts (value d ts) enough e refl
  first_end n ts (Some r) enough e = rw (items_end (value d) n ts r enough e) refl

-- ---- a pair, from its opening bracket on

module _ (f g : Data → Result Data ItemFault) where
  abbrev pair : Data → Result Data ItemFault
  pair = pair_item f g

  pub pair_taken : {T : Type 0} (see : T → Data × List Token) (depth : ℕ) (ts rest : List Token) (r : Result T ItemFault) → 0 < depth
      → after_begin_array ts ≡ Some rest → TakesItem see (two_taken f g (depth - 1) rest) r → TakesItem see (taken pair depth ts) r
  pair_taken see depth ts rest r some begins h =
      subst (λ t. TakesItem see t r) (sym (ap (taken pair depth) (begins_array ts rest begins)
      ∙ ap (λ o. item_of pair (converted of_json o)) (value-begin_array depth rest some)
      ∙ first_end f g (depth - 1) (length rest) rest (after_end_array rest) (omega arith) refl)) h

  pub too_deep : (depth : ℕ) (ts rest : List Token) (e : ItemFault) → depth ≡ 0 → after_begin_array ts ≡ Some rest → Refuses (taken pair depth ts) e
  unfolding value
  too_deep depth ts rest e none begins = rw (none, begins_array ts rest begins) tt

  number_no_pair : (n : Option Num) (e : ItemFault) → IfSome (option_map number n) (λ _. e ≡ Shape)
      → IfSome (option_map number n) (λ d. (pair d ≡ Err Shape) × (e ≡ Shape))
  number_no_pair None e h = tt
  number_no_pair (Some n) e h = (refl, h)

  scalar_no_pair : (ts : List Token) (e : ItemFault) → IfSome (scalar ts) (λ _. e ≡ Shape) → IfSome (scalar ts) (λ d. (pair d ≡ Err Shape) × (e ≡ Shape))
  scalar_no_pair (Token.string s ∷ ts) e h = (refl, h)
  scalar_no_pair (Token.number s ∷ ts) e h = number_no_pair (number_of s) e h
  scalar_no_pair (Token.boolean b ∷ ts) e h = (refl, h)
  scalar_no_pair (Token.null ∷ ts) e h = (refl, h)
  scalar_no_pair _ e h = tt

  pub no_pair : (depth : ℕ) (ts : List Token) (e : ItemFault) → after_begin_array ts ≡ None → IfSome (scalar ts) (λ _. e ≡ Shape)
      → Refuses (taken pair depth ts) e
  no_pair depth ts e shut h = other pair (λ _. refl) e depth ts (inl shut) (scalar_no_pair ts e h)
