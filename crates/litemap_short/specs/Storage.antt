-- The items of a short store, and how many further ones it takes without failing.
use Rattle.std.specs.Prelude.{ℕ, List, [], ◌∷◌, ⊤}
use Rattle.std.specs.Vec.{with_item}
use Rattle.litemap_store.specs.VecStore.{vec_room}
use Rattle.litemap_short.specs.declared.storage.Storage.{Storage}
use Rattle.litemap_short.specs.declared.storage.Storage.TheVariants.{Empty, Inline, Heap}

module _ {T A : Type 0} where
  abbrev pub storage_items : Storage T A → List T
  storage_items Empty = []
  storage_items (Inline item _) = item ∷ []
  storage_items (Heap items) = items.items

  -- the first item always has room
  abbrev pub storage_room : Storage T A → ℕ
  storage_room Empty = 1
  storage_room (Inline _ _) = 0
  storage_room (Heap items) = vec_room items

  -- there is no vector
  abbrev pub IsFew : Storage T A → Type 0
  IsFew Empty = ⊤
  IsFew (Inline _ _) = ⊤
  IsFew (Heap _) = ⊥

  -- it holds one item itself
  abbrev pub IsOne : Storage T A → Type 0
  IsOne Empty = ⊥
  IsOne (Inline _ _) = ⊤
  IsOne (Heap _) = ⊥

  -- the same with another item at an index
  abbrev pub storage_with_item : Storage T A → ℕ → T → Storage T A
  storage_with_item Empty i x = Empty
  storage_with_item (Inline _ none) i x = Inline x none
  storage_with_item (Heap items) i x = Heap (with_item items i x)
