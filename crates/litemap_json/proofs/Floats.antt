-- A tree of keys and items with no float has no float: its compact text is then known.
use Rattle.std.proofs.Common.{◌≡◌, ℕ, ◌+◌, List, [], ◌∷◌, true, false, cond, is_some, Option, Some, None, Ok, Ordering, Less, Equal, Greater, refl, sym}
use Rattle.std.proofs.Common.{nat_cmp}
use Rattle.std.proofs.lemmas.Bool.{or_parts, or_from}
use Rattle.std.specs.Cmp.Lexicographic.{slice_cmp}
use Rattle.std.specs.Ordering.{match_ordering}
use Rattle.serde_json.specs.Data.{Data, array, object, no_items, Members, no_members, member, put}
use Rattle.serde_json.specs.Written.{has_float, items_have_float, members_have_float}
use Rattle.litemap_json.specs.Json.{object_with, named, rows, row, tree}

put_at : (o : Ordering) (s l : List ℕ) (d e : Data) (ms : Members) → has_float d ≡ false → has_float e ≡ false → members_have_float ms ≡ false
    → members_have_float (put s d ms) ≡ false
    → members_have_float (match_ordering o (member s d (member l e ms)) (member l d ms) (member l e (put s d ms))) ≡ false
put_at Less s l d e ms hd he hm rest = or_from (has_float d) _ hd (or_from (has_float e) _ he hm)
put_at Equal s l d e ms hd he hm rest = or_from (has_float d) _ hd hm
put_at Greater s l d e ms hd he hm rest = or_from (has_float e) _ he rest

put_no_float : (s : List ℕ) (d : Data) (ms : Members) → has_float d ≡ false → members_have_float ms ≡ false → members_have_float (put s d ms) ≡ false
put_no_float s d no_members hd hm = or_from (has_float d) false hd refl
put_no_float s d (member l e ms) hd hm =
    let parts = or_parts (has_float e) (members_have_float ms) hm in
    put_at (slice_cmp nat_cmp s l) s l d e ms hd parts.0 parts.1 (put_no_float s d ms hd parts.1)

module _ {K V : Type 0} (text : K → Option (List ℕ)) (key_json : K → Data) (json : V → Data) (keys : (k : K) → has_float (key_json k) ≡ false)
    (items : (v : V) → has_float (json v) ≡ false) where
  rows_no_float : (ps : List (K × V)) → items_have_float (rows text key_json json ps) ≡ false
  rows_no_float [] = refl
  rows_no_float (p ∷ ps) =
      or_from (has_float (row text key_json json p)) (items_have_float (rows text key_json json ps))
      (or_from (has_float (key_json p.0)) _ (keys p.0) (or_from (has_float (json p.1)) false (items p.1) refl)) (rows_no_float ps)

  object_no_float : (ps : List (K × V)) (place : ℕ) (ms : Members) (d : Data) → members_have_float ms ≡ false → object_with text key_json json place ms ps
      ≡ Ok d → has_float d ≡ false
  object_no_float [] place ms d hm e = let same : object ms ≡ d = cc in rw (sym same) hm
  object_no_float (p ∷ ps) place ms d hm e =
      elim (text p.0) as (λ t. named place t (λ s. object_with text key_json json (place + 1) (put s (json p.1) ms) ps) ≡ Ok d → has_float d ≡ false)
      [ None ↦ λ h. absurd cc | Some s ↦ object_no_float ps (place + 1) (put s (json p.1) ms) d (put_no_float s (json p.1) ms (items p.1) hm) ] e

  pub tree_no_float : (ps : List (K × V)) (d : Data) → tree text key_json json ps ≡ Ok d → has_float d ≡ false
  tree_no_float [] d e = let same : array no_items ≡ d = cc in rw (sym same)
  tree_no_float (p ∷ ps) d e =
      elim (is_some (text p.0)) as (λ b. cond b (object_with text key_json json 0 no_members (p ∷ ps)) (Ok (array (rows text key_json json (p ∷ ps)))) ≡ Ok d
      → has_float d ≡ false) [
        | true ↦ object_no_float (p ∷ ps) 0 no_members d refl
        | false ↦ λ h.
            (let same : array (rows text key_json json (p ∷ ps)) ≡ d = cc in rw (sym same) (rows_no_float (p ∷ ps)))
      ] e
