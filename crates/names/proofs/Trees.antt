-- The JSON value of ascending strings is an object of the pairs in their order, and its text that of the pairs one by one.
use Rattle.std.proofs.Common.{◌≡◌, ℕ, ◌+◌, List, [], ◌∷◌, ◌++◌, true, Some, Ok, Less, inl, inr, nat_cmp, refl, sym, ap, ◌∙◌, append_assoc}
use Rattle.std.specs.Cmp.Lexicographic.{slice_cmp}
use Rattle.json.specs.Print.{quoted}
use Rattle.serde_json.specs.Data.{Data, string, array, object, no_items, Members, no_members, member}
use Rattle.serde_json.specs.Written.{compact_text, members_text}
use Rattle.litemap_store.specs.Last.{In}
use Rattle.litemap_store.specs.Pairs.{Rising}
use Rattle.litemap_store.proofs.Lists.Membership.{each}
use Rattle.litemap_json.specs.Json.{object_with, tree}
use Rattle.litemap_json.proofs.Joined.{IsAbove, above, above-joined, joined, joined-none, joined-one, put-above}
use Rattle.names_core.specs.Told.{json_text, later_members, member_text}

-- pairs of strings, by their bytes
abbrev Texts : Type 0
Texts = List (List ℕ × List ℕ)

-- the members of the pairs, in their order
abbrev members_of : Texts → Members
members_of [] = no_members
members_of (p ∷ L) = member p.0 (string p.1) (members_of L)

-- what ascending pairs leave if they are above all members
object_with-rising : (place : ℕ) (ms : Members) (L : Texts) → Rising (slice_cmp nat_cmp) L → ((q : List ℕ × List ℕ) → In q L → IsAbove q.0 ms)
    → object_with (λ k. Some k) string string place ms L ≡ Ok (object (joined ms (members_of L)))
object_with-rising place ms [] r h = ap (λ m. Ok (object m)) (sym (joined-none ms))
object_with-rising place ms (p ∷ L) r h =
    rw (put-above p.0 (string p.1) ms (h p (inl refl)))
    (object_with-rising (place + 1) (joined ms (member p.0 (string p.1) no_members)) L r.1
    (λ q i. above-joined q.0 p.0 (string p.1) ms (h q (inr i)) (above p.0 q.0 (each (λ (x : List ℕ × List ℕ). slice_cmp nat_cmp p.0 x.0 ≡ Less) L r.0 q i)))
    ∙ ap (λ m. Ok (object m)) (joined-one ms (members_of L) p.0 (string p.1)))

-- a member's text with what follows it
regroup : (name value rest : List ℕ) → name ++ (58 ∷ (value ++ rest)) ≡ (name ++ (58 ∷ value)) ++ rest
regroup name value rest = sym (append_assoc name (58 ∷ value) rest)

members_text-later : (L : Texts) → members_text true (members_of L) ≡ later_members L ++ (125 ∷ [])
members_text-later [] = refl
members_text-later (p ∷ L) =
    ap (λ t. 44 ∷ t)
    (regroup (quoted p.0) (quoted p.1) (members_text true (members_of L))
    ∙ ap (λ t. member_text p ++ t) (members_text-later L)
    ∙ sym (append_assoc (member_text p) (later_members L) (125 ∷ [])))

-- the text of ascending pairs is that of their tree
pub json_text-tree : (L : Texts) → Rising (slice_cmp nat_cmp) L
    → (value : Data) × (tree (λ key. Some key) string string L ≡ Ok value) × (json_text L ≡ compact_text value)
json_text-tree [] r = (array no_items, refl, refl)
json_text-tree (p ∷ L) r = (
  object (members_of (p ∷ L)),
  object_with-rising 0 no_members (p ∷ L) r (λ q i. tt),
  ap (λ t. 123 ∷ t) (sym (regroup (quoted p.0) (quoted p.1) (members_text true (members_of L)) ∙ ap (λ t. member_text p ++ t) (members_text-later L))),
)
