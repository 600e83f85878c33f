-- What a lookup by a string finds in lists of one tree.
--     values_seen      items of one tree, or nothing in either;  same_values      if a tree tells the item, the same
use Rattle.std.proofs.Common.{◌≡◌, ℕ, true, false, cond, List, [], ◌∷◌, Option, Some, None, option_map, String, string_bytes, refl, ap}
use Rattle.std.specs.Cmp.Lexicographic.{slice_cmp}
use Rattle.std.specs.Ordering.{is_eq, nat_cmp}
use Rattle.serde_json.specs.Data.{Data, string}
use Rattle.litemap_store.specs.Pairs.{at, value_at}
use Rattle.litemap_store.specs.Queries.{by_string}
use Rattle.litemap_json.specs.Reading.{pair_seen, seen}

abbrev tree_of : {Z : Type 0} → String Z → Data
tree_of s = string (string_bytes s)

module _ {Z V : Type 0} (json : V → Data) (text : List ℕ) where
  pub values_seen : (L M : List (String Z × V)) → seen tree_of json L ≡ seen tree_of json M → option_map json (value_at by_string L text)
      ≡ option_map json (value_at by_string M text)
  values_seen [] [] e = refl
  values_seen (p ∷ L) (q ∷ M) e =
      let here : pair_seen tree_of json p ≡ pair_seen tree_of json q = cc in
      let keys : tree_of p.0 ≡ tree_of q.0 = ap (λ (d : Data × Data). d.0) here in
      let items : json p.1 ≡ json q.1 = ap (λ (d : Data × Data). d.1) here in
      let bytes : string_bytes p.0 ≡ string_bytes q.0 = cc in
      let rest : seen tree_of json L ≡ seen tree_of json M = cc in
      let value : Option (String Z × V) → Option Data = λ found. option_map json (option_map (λ r. r.1) found) in
      let compared : is_eq (by_string p.0 text) ≡ is_eq (by_string q.0 text) = ap (λ s. is_eq (slice_cmp nat_cmp s text)) bytes in
      rw compared (elim (is_eq (by_string q.0 text)) as (λ b. value (cond b (Some p) (at by_string L text)) ≡ value (cond b (Some q) (at by_string M text)))
      [ true ↦ ap Some items | false ↦ values_seen L M rest ])
  values_seen _ _ e = absurd cc

pub same_values : {V : Type 0} (json : V → Data) → ((v w : V) → json v ≡ json w → v ≡ w) → (a b : Option V) → option_map json a ≡ option_map json b → a ≡ b
same_values json one None None e = refl
same_values json one (Some v) (Some w) e = (let same : json v ≡ json w = cc in ap Some (one v w same))
same_values json one _ _ e = absurd cc
