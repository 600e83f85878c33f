-- What an insertion, a removal, a renaming and a merge return and leave.
use Rattle.std.specs.Prelude.{◌≡◌, ◌↔◌, ◌+◌, ◌<◌, ◌≤◌, Bool, List, Option, None, is_some, Result, IsNone, IsSome, IfSome}
use Rattle.std.specs.Prelude.{IfOk, IfErr, OnOk, OnErr}
use Rattle.std.specs.Bool.{IsFalse}
use Rattle.std.specs.declared.cmp.Ordering.{Ordering}
use Rattle.litemap_store.specs.declared.no_room.NoRoom.{NoRoom}
use Rattle.litemap_store.specs.Merge.{MergesInto}
use Rattle.litemap_store.specs.Pairs.{at, cut, put, value_at}
use Rattle.litemap_store.specs.Contents.{Contents}

module _ {K V : Type 0} where
  -- a call that may add the pair p fails only at room 0: the list stays, and the error has the pair
  pub record RefusedFull {A : Type 0} (p : K × V) (before after : Contents K V)
      (result : Result A (NoRoom (K × V))) : Type 0 where
    pub unchanged : OnErr result (after.entries ≡ before.entries)
    pub full : OnErr result (before.room ≡ 0)
    pub back : IfErr result (λ refused. refused.back ≡ p)
    -- whether it fails or not, the room is lowered by at most one
    pub room : before.room ≤ after.room + 1

  -- if `CanAdd` holds, the pair p is added, and the list is L; else the pair is returned
  pub record AddsIf (CanAdd : Type 0) (L : List (K × V)) (p : K × V) (before after : Contents K V)
      (result : Result (Option (K × V)) (NoRoom (K × V))) : Type 0 where
    pub added : IfOk result (λ back. IsNone back ↔ CanAdd)
    pub put : IfOk result (λ back. IsNone back → after.entries ≡ L)
    pub returned : IfOk result (λ back. IfSome back (λ q. q ≡ p))
    pub unchanged : IfOk result (λ back. IsSome back → after ≡ before)
    -- it fails only if the pair is to be added
    pub can_add : OnErr result CanAdd
    pub refused : RefusedFull p before after result

module _ {K Q V : Type 0} (order : K → Q → Ordering) (key : Q) where
  -- the pair of a key is removed, if there is one; the result has what is returned of it
  pub record Removes {A : Type 0} (keeps_memory : Type 0) (before after : Contents K V) (result : Option A) : Type 0 where
    pub cut : after.entries ≡ cut order before.entries key
    pub unchanged : IsNone (at order before.entries key) → after ≡ before
    -- if the store keeps its memory, there is room for another pair then
    pub room : keeps_memory → IsSome result → before.room < after.room

  -- the value of a key, if it is present, moves to a new key
  pub record Renames (cmp : K → K → Ordering) (new_key : K) (before after : Contents K V) (result : Bool) : Type 0 where
    pub there : result ≡ is_some (at order before.entries key)
    pub moved : IfSome (value_at order before.entries key) (λ value.
        after.entries ≡ put cmp (cut order before.entries key) new_key value)
    pub unchanged : IsFalse result → after ≡ before
    pub room : before.room ≤ after.room

module _ {K V : Type 0} (cmp : K → K → Ordering) where
  -- the pair is inserted into the map `before`, which is then `after`
  pub record Inserts (key : K) (value : V) (before after : Contents K V)
      (result : Result (Option V) (NoRoom (K × V))) : Type 0 where
    -- the list after the call, and the old value
    pub put : OnOk result (after.entries ≡ put cmp before.entries key value)
    pub old : IfOk result (λ old. old ≡ value_at cmp before.entries key)
    -- it fails only if the key is absent
    pub absent : OnErr result (at cmp before.entries key ≡ None)
    pub refused : RefusedFull (key, value) before after result
    -- the room is kept if the key is present
    pub room_kept : IsSome (at cmp before.entries key) → after.room ≡ before.room

  -- the map `other` is merged into the map `before`, which is then `after`
  abbrev pub IsMergedInto : (other before after : Contents K V)
      (result : Result (Option (Contents K V)) (NoRoom (Contents K V))) → Type 0
  IsMergedInto = MergesInto cmp (λ m. m.entries) (λ m. m.room)
