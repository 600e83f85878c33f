-- What a short store is after a value was written in place.
use Rattle.std.proofs.Common.{◌≡◌, ℕ, ◌<◌, zero, suc, length, Some, slice_get, slice_set, refl, ap, ◌∙◌, sym, arith}
use Rattle.std.specs.Option.{option_map_or}
use Rattle.litemap_store.specs.Contents.{Contents, with_value}
use Rattle.litemap_short.specs.Storage.{storage_items, storage_room, storage_with_item}
use Rattle.litemap_short.specs.declared.storage.Storage.{Storage}
use Rattle.litemap_short.specs.declared.storage.Storage.TheVariants.{Empty, Inline, Heap}

module _ {T A : Type 0} where
  pub items-with_item : (storage : Storage T A) (i : ℕ) (x : T) → i < length (storage_items storage) → storage_items (storage_with_item storage i x)
      ≡ slice_set (storage_items storage) i x
  items-with_item Empty i x within = absurd (omega arith)
  items-with_item (Inline _ _) zero x within = refl
  items-with_item (Inline _ _) (suc i) x within = absurd (omega arith)
  items-with_item (Heap items) i x within = refl

  pub room-with_item : (storage : Storage T A) (i : ℕ) (x : T) → storage_room (storage_with_item storage i x) ≡ storage_room storage
  room-with_item Empty i x = refl
  room-with_item (Inline _ _) i x = refl
  room-with_item (Heap items) i x = refl

module _ {K V A : Type 0} where
  -- what a contract sees of a short store
  abbrev pub contents : Storage (K × V) A → Contents K V
  contents storage = record { entries = storage_items storage; room = storage_room storage }

  pub written : (storage : Storage (K × V) A) (i : ℕ) (p : K × V) (w : V) → i < length (storage_items storage) → slice_get (storage_items storage) i ≡ Some p
      → contents (storage_with_item storage i (p.0, w)) ≡ with_value (contents storage) i w
  written storage i p w within at =
      ap (λ L. record { entries = L; room = storage_room (storage_with_item storage i (p.0, w)) }) (items-with_item storage i (p.0, w) within)
      ∙ ap (λ r. record { entries = slice_set (storage_items storage) i (p.0, w); room = r }) (room-with_item storage i (p.0, w))
      ∙ sym (ap (λ o. record
      { entries = option_map_or (λ q. slice_set (storage_items storage) i (q.0, w)) o (storage_items storage); room = storage_room storage }) at)
