-- What a map is once a reference to one of its values has ended. A contract passes what `K.row`, `S.pairs` and the like are,
-- since the map's type takes them in the logic.
use Rattle.std.specs.Prelude.{◌≡◌, ℕ, List, Option, OnSome, IfNone, ⊤}
use Rattle.std.specs.Borrow.{Array, Fml, GName, RattleType, MutBor, Lends, LendsIf, LendsSo, follows, follows_so}
use mathlib.Core.Option.{none}
use Rattle.std.specs.Option.{option_copied_mut}
use Rattle.std.specs.BTreeMap.Lent.{OrdMembers}
use Rattle.std.specs.declared.cmp.Ordering.{Ordering}
use Rattle.litemap_store.specs.Pairs.{set_value, value_in, write}
use Rattle.litemap_store.specs.Contents.{Contents, with_pairs}
use Rattle.litemap_store.specs.Lent.{set_values}
use Rattle.litemap.specs.contracts.map.LiteMap.{the_row}

module _ (K V S : RattleType) (key : OrdMembers K.Denot) (pairs : S.Denot → List (K.Denot × V.Denot)) (room : S.Denot → ℕ) where
  -- the map's type, as the logic holds it
  abbrev pub map_row : RattleType
  map_row =
      the_row K V S (record { cmp = key.cmp }) (record { eq = key.eq }) (record { partial_cmp = key.partial_cmp })
      (record { pairs = pairs; room = room })

  module _ (m : MutBor (Contents K.Denot V.Denot)) where
    -- once the reference in r ends, the map has the last value written through it at the key that is equal to q; if there is
    -- none the map stays
    abbrev pub LendsValue : {Q : Type 0} → (K.Denot → Q → Ordering) → Q → Option (MutBor V.Denot) → Fml
    LendsValue order q r = LendsIf map_row V m r (λ v. with_pairs m.now (write order m.now.entries q v)) m.now

    -- once the reference in r ends, the map has the last value written through it at index i; if there is none, the map stays
    abbrev pub LendsIndex : ℕ → Option (MutBor V.Denot) → Fml
    LendsIndex i r = LendsIf map_row V m r (λ v. with_pairs m.now (set_value m.now.entries i v)) m.now

    -- once the reference in r ends, the map has the last value written through it at an index that may be found, where the value
    -- that r refers to stood; if there is none, the map stays
    abbrev pub LendsFound : (ℕ → Type 0) → Option (MutBor V.Denot) → Fml
    LendsFound IsFound r =
        LendsSo map_row V m r
        (λ n v. OnSome r ((i : ℕ) × IsFound i × (value_in m.now.entries i ≡ option_copied_mut r)
        × (n ≡ with_pairs m.now (set_value m.now.entries i v))))
        (λ n. IfNone r (n ≡ m.now))

    -- the same of the value at index i, which is below the length
    abbrev pub LendsThere : ℕ → MutBor V.Denot → Fml
    LendsThere i r = Lends map_row V m r (λ v. with_pairs m.now (set_value m.now.entries i v))

    -- once the reference r ends, the map has the last value written through it at the key that is equal to q
    abbrev pub LendsKey : {Q : Type 0} → (K.Denot → Q → Ordering) → Q → MutBor V.Denot → Fml
    LendsKey order q r = Lends map_row V m r (λ v. with_pairs m.now (write order m.now.entries q v))

    -- once all borrows of the map have ended, P holds of it
    abbrev pub RestsAs : (Contents K.Denot V.Denot → Type 0) → Fml
    RestsAs P = follows_so map_row map_row m.ghost_name none (λ _ _. ⊤) P

    -- once the loan of that name ends, the map has the last values written through it
    abbrev pub LendsValues : GName → Fml
    LendsValues r = follows map_row (Array V 0) m.ghost_name r (λ values. with_pairs m.now (set_values m.now.entries values))
