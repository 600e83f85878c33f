-- What a call of a map returns and leaves, and what a list of calls does. `old` is the map before a call, its list and its
-- room, `new` the map after it.
use Rattle.std.specs.Prelude.{◌≡◌, ◌⊎◌, ◌+◌, ◌<◌, ◌≤◌, List, [], ◌∷◌, ◌++◌, length, is_some, Some, None, IsSome, IsNone}
use Rattle.std.specs.declared.cmp.Ordering.{Ordering}
use Rattle.litemap_store.specs.Last.{Last}
use Rattle.litemap_store.specs.Pairs.{AllBelow, at, cut, index_of, put, value_at, value_in}
use Rattle.litemap_store.specs.Contents.{Contents}
use Rattle.litemap_read.specs.declared.calls.Answer.{Answer}
use Rattle.litemap_read.specs.declared.calls.Answer.TheVariants.{Back, Done, Flag, NoRoom, Number, Place, Value}
use Rattle.litemap_read.specs.declared.calls.Call.{Call}
use Rattle.litemap_read.specs.declared.calls.Call.TheVariants as call

module _ {K V : Type 0} (cmp : K → K → Ordering) where
  -- the pair was inserted: the list is L, and the room is lowered by one at most
  abbrev pub Adds : Contents K V → List (K × V) → Contents K V → Type 0
  Adds old L new = (new.entries ≡ L) × (old.room ≤ new.room + 1)

  -- a pair that would be added has no room, and is returned
  abbrev pub HasNoRoom : Contents K V → K → V → Answer K V → Contents K V → Type 0
  HasNoRoom old k v answer new = (answer ≡ NoRoom (Some (k, v))) × (old.room ≡ 0) × (new.entries ≡ old.entries)

module _ {K V A : Type 0} (cmp : K → K → Ordering) where
  -- the call is done
  abbrev pub IsDone : Contents K V → Call K V A → Answer K V → Contents K V → Type 0
  IsDone old (call.Get k) answer new = (answer ≡ Value (value_at cmp old.entries k)) × (new ≡ old)
  IsDone old (call.ValueAt i) answer new = (answer ≡ Value (value_in old.entries i)) × (new ≡ old)
  IsDone old (call.Contains k) answer new = (answer ≡ Flag (is_some (at cmp old.entries k))) × (new ≡ old)
  IsDone old (call.Find k) answer new = (answer ≡ Place (index_of cmp old.entries k)) × (new ≡ old)
  IsDone old call.Len answer new = (answer ≡ Number (length old.entries)) × (new ≡ old)
  IsDone old (call.Insert k v) answer new =
      (answer ≡ Value (value_at cmp old.entries k)) × Adds cmp old (put cmp old.entries k v) new
      × (IsSome (at cmp old.entries k) → new.room ≡ old.room)
  IsDone old (call.TryInsert k v) answer new =
      (IsSome (at cmp old.entries k) × (answer ≡ Back (Some (k, v))) × (new ≡ old))
      ⊎ (IsNone (at cmp old.entries k) × (answer ≡ Back None) × Adds cmp old (put cmp old.entries k v) new)
  IsDone old (call.TryAppend k v) answer new =
      (¬ (AllBelow cmp old.entries k) × (answer ≡ Back (Some (k, v))) × (new ≡ old))
      ⊎ (AllBelow cmp old.entries k × (answer ≡ Back None) × Adds cmp old (old.entries ++ (k, v) ∷ []) new)
  IsDone old (call.Remove k) answer new =
      (answer ≡ Value (value_at cmp old.entries k)) × (new.entries ≡ cut cmp old.entries k)
      × (IsNone (at cmp old.entries k) → new.room ≡ old.room)
  IsDone old (call.Extend v) answer new = (answer ≡ Done) × Last cmp (old.entries ++ v.items) new.entries
  IsDone old (call.Reserve n) answer new =
      (answer ≡ Done) × (new.entries ≡ old.entries) × (old.room ≤ new.room) × (n ≤ new.room)
  IsDone old call.Clear answer new = (answer ≡ Done) × (new.entries ≡ [])

  -- the call fails because memory runs out
  abbrev pub IsRefused : Contents K V → Call K V A → Answer K V → Contents K V → Type 0
  IsRefused old (call.Insert k v) answer new = IsNone (at cmp old.entries k) × HasNoRoom cmp old k v answer new
  IsRefused old (call.TryInsert k v) answer new = IsNone (at cmp old.entries k) × HasNoRoom cmp old k v answer new
  IsRefused old (call.TryAppend k v) answer new = AllBelow cmp old.entries k × HasNoRoom cmp old k v answer new
  IsRefused old (call.Extend v) answer new = (answer ≡ NoRoom None) × (new.entries ≡ old.entries)
  IsRefused old (call.Reserve n) answer new =
      (answer ≡ NoRoom None) × (new.entries ≡ old.entries) × (old.room ≤ new.room) × (old.room < n)
  IsRefused old call answer new = ⊥

  -- the call returns this, and leaves the map `new`
  abbrev pub Step : Contents K V → Call K V A → Answer K V → Contents K V → Type 0
  Step old call answer new = IsDone old call answer new ⊎ IsRefused old call answer new

  -- as many `Answer`s as calls, and a chain of steps, one for each call with the `Answer` at its index
  abbrev pub Run : Contents K V → List (Call K V A) → List (Answer K V) → Contents K V → Type 0
  Run start [] [] end = end ≡ start
  Run start (call ∷ calls) (answer ∷ answers) end =
      (next : Contents K V) × Step start call answer next × Run next calls answers end
  Run start calls answers end = ⊥
