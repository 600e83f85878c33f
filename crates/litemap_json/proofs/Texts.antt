-- The tokens of a map, pair by pair, and their text.
use Rattle.std.proofs.Common.{◌≡◌, ℕ, ◌+◌, ◌<◌, ◌≤◌, List, [], ◌∷◌, ◌++◌, length, get_or, drop, Option, Some, Ok, Less, Greater, nat_cmp, refl, sym, ap, ap₂}
use Rattle.std.proofs.Common.{subst, ◌∙◌, arith, append_assoc}
use Rattle.std.proofs.lemmas.List.{drop_all}
use Rattle.std.specs.Cmp.Lexicographic.{slice_cmp, nat_list_cmp_total}
use Rattle.json.specs.Json as json
use Rattle.json.specs.Lex.{tokens}
use Rattle.json.specs.Print.{print}
use Rattle.json.specs.Token.{Token, begin_array, begin_object, end_array, end_object, key}
use Rattle.json.specs.Tree.{items_tokens, json_tokens, members_tokens}
use Rattle.serde_json.specs.Data.{Data, array, object, Items, Members, no_members, member}
use Rattle.serde_json.specs.Written.{blank_items, blank_members, IsInOrder, items_outline, members_outline}
use Rattle.serde_json.proofs.Texts.{print-outline, tokens_from_order}
use Rattle.litemap_json.specs.Json.{object_with, row, rows}
use Rattle.litemap_json.specs.Written.{IsTextOf, named, WritesTree}
use Rattle.litemap_json.proofs.ByPlace.{made_step, next}
use Rattle.litemap_json.proofs.Joined.{IsAbove, above, above-joined, below, joined, joined-none, joined-one, put-above}

-- the new tokens are those of the items, or of the members, and of the bracket that closes them
abbrev pub WritesItems : Items → List Token → List Token → Type 0
WritesItems ds old new = (js : json.Items) × (new ≡ old ++ items_tokens js) × (blank_items js ≡ items_outline ds)

abbrev pub WritesMembers : Members → List Token → List Token → Type 0
WritesMembers ms old new = (js : json.Members) × (new ≡ old ++ members_tokens js) × (blank_members js ≡ members_outline ms)

pub text_of_tree : (d : Data) (ts : List Token) (text : List ℕ) → WritesTree d [] ts → text ≡ print ts → tokens text ≡ ts → IsTextOf d text
text_of_tree d ts text w e same =
    let order : IsInOrder text d = (w.0, same ∙ w.1, w.2) in
    record {
      compact = λ h. e ∙ ap print (sym same ∙ tokens_from_order text d order h) ∙ print-outline d;
      order = order;
      no_space = e ∙ ap print (sym same);
    }

-- a member before others
member_before : (s : List ℕ) (d : Data) (ms : Members) (mid new end : List Token) → WritesTree d (mid ++ key s ∷ []) new → WritesMembers ms new end
    → WritesMembers (member s d ms) mid end
member_before s d ms mid new end w more = (
  json.member s w.0 more.0,
  more.1 ∙ ap (λ ts. ts ++ members_tokens more.0) w.1 ∙ append_assoc (mid ++ key s ∷ []) (json_tokens w.0) (members_tokens more.0)
      ∙ append_assoc mid (key s ∷ []) (json_tokens w.0 ++ members_tokens more.0),
  ap₂ (json.member s) w.2 more.2,
)

module _ {N V : Type 0} (bytes : N → List ℕ) (json_of : V → Data) where
  -- the members of the named items before an index are written
  abbrev pub NamedHeld : List (N × V) → ℕ → List Token → Type 0
  NamedHeld M i mid = (end : List Token) → WritesMembers (named bytes json_of (drop i M)) mid end
      → WritesMembers (named bytes json_of M) (begin_object ∷ []) end

  pub named_more : (M : List (N × V)) (i : ℕ) (x : N × V) (mid new : List Token) → i < length M → x ≡ get_or M i x
      → WritesTree (json_of x.1) (mid ++ key (bytes x.0) ∷ []) new → NamedHeld M i mid → NamedHeld M (i + 1) new
  named_more M i x mid new h e w held = λ end rest. held end (subst (λ N. WritesMembers (named bytes json_of N) mid end) (sym (next M i x h e))
      (member_before (bytes x.0) (json_of x.1) (named bytes json_of (drop (i + 1) M)) mid new end w rest))

  pub named_end : (M : List (N × V)) (i : ℕ) (mid new : List Token) → length M ≤ i → new ≡ mid ++ end_object ∷ [] → NamedHeld M i mid
      → WritesTree (object (named bytes json_of M)) [] new
  named_end M i mid new h e held =
      let all = held new (subst (λ N. WritesMembers (named bytes json_of N) mid new) (sym (drop_all i M h)) (json.no_members, e, refl)) in
      (json.object all.0, all.1, ap json.object all.2)

module _ {K V : Type 0} (text : K → Option (List ℕ)) (key_json : K → Data) (json_of : V → Data) where
  -- the rows of the pairs before an index are written
  abbrev pub RowsHeld : List (K × V) → ℕ → List Token → Type 0
  RowsHeld L i mid = (end : List Token) → WritesItems (rows text key_json json_of (drop i L)) mid end
      → WritesItems (rows text key_json json_of L) (begin_array ∷ []) end

  pub rows_more : (L : List (K × V)) (i : ℕ) (x : K × V) (mid new : List Token) → i < length L → x ≡ get_or L i x
      → WritesTree (row text key_json json_of x) mid new
      → RowsHeld L i mid → RowsHeld L (i + 1) new
  rows_more L i x mid new h e w held = λ end rest. held end (subst (λ M. WritesItems (rows text key_json json_of M) mid end) (sym (next L i x h e)) (
    json.item w.0 rest.0,
    rest.1 ∙ ap (λ ts. ts ++ items_tokens rest.0) w.1 ∙ append_assoc mid (json_tokens w.0) (items_tokens rest.0),
    ap₂ json.item w.2 rest.2,
  ))

  pub rows_end : (L : List (K × V)) (i : ℕ) (mid new : List Token) → length L ≤ i → new ≡ mid ++ end_array ∷ [] → RowsHeld L i mid
      → WritesTree (array (rows text key_json json_of L)) [] new
  rows_end L i mid new h e held =
      let all = held new (subst (λ M. WritesItems (rows text key_json json_of M) mid new) (sym (drop_all i L h)) (json.no_items, e, refl)) in
      (json.array all.0, all.1, ap json.array all.2)

  -- The members of the pairs before an index are written, and `last` is the name of the last of them. A name above it is above
  -- each.
  abbrev pub PairsHeld : List (K × V) → ℕ → List ℕ → List Token → Type 0
  PairsHeld L i last mid = (ms : Members)
      × ((s : List ℕ) → (0 < i → slice_cmp nat_cmp s last ≡ Greater) → IsAbove s ms)
      × (object_with text key_json json_of i ms (drop i L) ≡ object_with text key_json json_of 0 no_members L)
      × ((rest : Members) (end : List Token) → WritesMembers rest mid end → WritesMembers (joined ms rest) (begin_object ∷ []) end)

  pub pairs_none : (L : List (K × V)) (last : List ℕ) → PairsHeld L 0 last (begin_object ∷ [])
  pairs_none L last = (no_members, λ s h. tt, refl, λ rest end w. w)

  pub pairs_more : (L : List (K × V)) (i : ℕ) (x : K × V) (last s : List ℕ) (mid new : List Token) → i < length L → x ≡ get_or L i x → text x.0 ≡ Some s
      → (0 < i → slice_cmp nat_cmp last s ≡ Less) → WritesTree (json_of x.1) (mid ++ key s ∷ []) new → PairsHeld L i last mid → PairsHeld L (i + 1) s new
  pairs_more L i x last s mid new h e is rises w held =
      let d = json_of x.1 in
      let ms = held.0 in
      let after = put-above s d ms (held.1 s (λ later. above last s (rises later))) in (
        joined ms (member s d no_members),
        λ r up. above-joined r s d ms (held.1 r (λ later. above last r (nat_list_cmp_total.trans last s r (rises later) (below r s (up (omega arith))))))
            (up (omega arith)),
        subst (λ m. object_with text key_json json_of (i + 1) m (drop (i + 1) L) ≡ object_with text key_json json_of 0 no_members L) after
            (made_step text key_json json_of L i x s ms (object_with text key_json json_of 0 no_members L) h e is held.2),
        λ rest end more. subst (λ m. WritesMembers m (begin_object ∷ []) end) (sym (joined-one ms rest s d))
            (held.3 (member s d rest) end (member_before s d rest mid new end w more)),
      )

  pub pairs_end : (L : List (K × V)) (i : ℕ) (last : List ℕ) (mid new : List Token) → length L ≤ i → new ≡ mid ++ end_object ∷ [] → PairsHeld L i last mid
      → (d : Data) × (object_with text key_json json_of 0 no_members L ≡ Ok d) × WritesTree d [] new
  pairs_end L i last mid new h e held =
      let ms = held.0 in
      let all = subst (λ m. WritesMembers m (begin_object ∷ []) new) (joined-none ms) (held.3 no_members new (json.no_members, e, refl)) in (
        object ms,
        sym held.2 ∙ ap (object_with text key_json json_of i ms) (drop_all i L h),
        (json.object all.0, all.1, ap json.object all.2),
      )
