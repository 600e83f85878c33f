-- What is no array of two.
use Rattle.std.proofs.Common.{◌≡◌, List, [], ◌∷◌, length, None, Some, refl}
use Rattle.serde_json.specs.Data.{Data, array}
use Rattle.serde_json.specs.Find.{as_array}
use Rattle.serde_json.specs.View.{items_view}
use Rattle.serde_json.specs.declared.value.Value.{Value}
use Rattle.litemap_json.specs.Item.{two_of, two_items}

pub no_array : (d : Data) → as_array d ≡ None → None ≡ two_of d
no_array (array ds) e = cc
no_array _ e = refl

not_two_items : (vs : List Value) → (length vs ≡ 2 → ⊥) → None ≡ two_items (items_view vs)
not_two_items (v ∷ w ∷ []) h = absurd (h refl)
not_two_items _ h = refl

pub not_two : (d : Data) (vs : List Value) → as_array d ≡ Some (items_view vs) → (length vs ≡ 2 → ⊥) → None ≡ two_of d
not_two (array ds) vs e h = let same : ds ≡ items_view vs = cc in rw same (not_two_items vs h)
not_two _ vs e h = refl
