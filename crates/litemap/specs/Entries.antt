-- What an entry shows: the map that it borrows, its key, its value, and what calls on it make of the pairs.
use Rattle.std.specs.Prelude.{◌≡◌, ℕ, ◌+◌, ◌<◌, ◌≤◌, List, [], Option, Some, None, IsSome, Result, Ok, Err, IfErr, IsOk, OnErr, ⊤}
use Rattle.std.specs.Prelude.{length, slice_get}
use Rattle.std.proofs.Common.{subst, sym}
use Rattle.std.specs.declared.cmp.Ordering.{Ordering}
use Rattle.std.specs.declared.cmp.Ord as ord
use Rattle.std.specs.declared.cmp.PartialEq as eq
use Rattle.std.specs.declared.cmp.PartialOrd as partial
use Rattle.std.specs.Borrow.{Bor, Fml, RattleType, RestsIfErr, RestsIfNone, MutBor, follows, follows_so, name_if_ok}
use Rattle.std.specs.Fn.{FnOnceReturnsAt, FnOnceTakesAt, Once}
use Rattle.std.specs.List.{remove}
use Rattle.std.specs.Option.{option_map}
use mir.Syntax.{named}
use Rattle.litemap_store.specs.declared.no_room.NoRoom.{NoRoom}
use Rattle.litemap_store.specs.declared.store.Store as store
use Rattle.litemap_store.specs.Pairs.{at, cut, key_or, put, set_value, value_at, value_in, write}
use Rattle.litemap_store.proofs.Lists.Seams.{length-set_value}
use Rattle.litemap_store.specs.Contents.{Contents, with_pairs}
use Rattle.litemap.specs.declared.map.entry.OccupiedEntry.{OccupiedEntry}
use Rattle.litemap.specs.declared.try_fault.TryFault.{TryFault}
use Rattle.litemap.specs.TryFault.{IfClosure, IfNoRoom}
use Rattle.litemap.specs.Updates.{Finds, KeysStay, Updates}
use Rattle.litemap.specs.declared.map.entry.VacantEntry.{VacantEntry}
use Rattle.litemap.specs.declared.map.entry.Entry.{Entry}
use Rattle.litemap.specs.declared.map.entry.Entry.TheVariants as variants
use Rattle.litemap.specs.contracts.map.LiteMap.{the_row}
use Rattle.litemap.specs.contracts.map.entry.OccupiedEntry as occupied

module _ {K V S : Type 0} {g : ord.Ghosts K} {g' : eq.Ghosts K} {g'' : partial.Ghosts K} {s : store.Ghosts S K V} where
  -- the occupied entry o, as an `Entry`
  abbrev pub Occupied : OccupiedEntry K V S g g' g'' s → Entry K V S g g' g'' s
  Occupied o = variants.Occupied o

  -- the vacant entry e, as an `Entry`
  abbrev pub Vacant : VacantEntry K V S g g' g'' s → Entry K V S g g' g'' s
  Vacant e = variants.Vacant e

  -- P if the entry is occupied, and Q if it is vacant
  abbrev pub MatchEntry : Entry K V S g g' g'' s → Type 0 → Type 0 → Type 0
  MatchEntry (variants.Occupied o) P Q = P
  MatchEntry (variants.Vacant e) P Q = Q

  -- the reference to the map
  abbrev pub entry_map : Entry K V S g g' g'' s → MutBor (Contents K V)
  entry_map (variants.Occupied o) = o.map
  entry_map (variants.Vacant e) = e.map

  -- the key in the map, or the key looked up if it is absent
  abbrev pub entry_key : Entry K V S g g' g'' s → Option K
  entry_key (variants.Occupied o) = option_map (λ p. p.0) (slice_get o.map.now.entries o.index)
  entry_key (variants.Vacant e) = Some e.key

  -- the value at the key, if it is present
  abbrev pub entry_value : Entry K V S g g' g'' s → Option V
  entry_value (variants.Occupied o) = value_in o.map.now.entries o.index
  entry_value (variants.Vacant e) = None

  -- the pairs of the map with v at the entry's key: written if it is present, else inserted
  abbrev pub pairs_with : Entry K V S g g' g'' s → V → List (K × V)
  pairs_with (variants.Occupied o) v = set_value o.map.now.entries o.index v
  pairs_with (variants.Vacant e) v = put g.cmp e.map.now.entries e.key v

  -- the pairs of the map without the entry's key
  abbrev pub pairs_without : Entry K V S g g' g'' s → List (K × V)
  pairs_without (variants.Occupied o) = remove o.map.now.entries o.index
  pairs_without (variants.Vacant e) = e.map.now.entries

  -- the map with v at the key of an occupied entry
  abbrev pub map_with_value : OccupiedEntry K V S g g' g'' s → V → Contents K V
  map_with_value o v = with_pairs o.map.now (set_value o.map.now.entries o.index v)

  -- the index of an entry is still within the list after a write of its value
  pub still_within : (o : OccupiedEntry K V S g g' g'' s) (v : V) → o.index < length (set_value o.map.now.entries o.index v)
  still_within o v = subst (λ n. o.index < n) (sym (length-set_value o.map.now.entries o.index v)) o.within

  -- an occupied entry with v as its value
  abbrev pub with_entry_value : OccupiedEntry K V S g g' g'' s → V → OccupiedEntry K V S g g' g'' s
  with_entry_value o v = record { map = record o.map { now = map_with_value o v }; index = o.index; within = still_within o v }

  -- the second entry is the first with the value v: calls on it make the same of the pairs
  pub record IsWritten (old : Entry K V S g g' g'' s) (v : V) (new : Entry K V S g g' g'' s) : Type 0 where
    pub value : entry_value new ≡ Some v
    pub same_key : entry_key new ≡ entry_key old
    pub same_writes : (w : V) → pairs_with new w ≡ pairs_with old w
    pub same_removal : pairs_without new ≡ pairs_without old
    pub same_map : (entry_map new).ghost_name ≡ (entry_map old).ghost_name
    pub same_room : (entry_map new).now.room ≡ (entry_map old).now.room

  -- the map n has v at the entry's key; the room is kept if the key was present, else lowered by at most one
  pub record Leaves (e : Entry K V S g g' g'' s) (n : Contents K V) (v : V) : Type 0 where
    pub pairs : n.entries ≡ pairs_with e v
    pub room : (entry_map e).now.room ≤ n.room + 1
    pub room_kept : IsSome (entry_value e) → n.room ≡ (entry_map e).now.room

  -- the occupied entry is the entry e once v is its value: calls on it make the same of the pairs
  pub record IsInserted (e : Entry K V S g g' g'' s) (v : V) (o : OccupiedEntry K V S g g' g'' s) : Type 0 where
    pub value : entry_value (Occupied o) ≡ Some v
    pub same_key : entry_key (Occupied o) ≡ entry_key e
    pub same_writes : (w : V) → pairs_with (Occupied o) w ≡ pairs_with e w
    pub same_removal : pairs_without (Occupied o) ≡ pairs_without e
    pub same_map : o.map.ghost_name ≡ (entry_map e).ghost_name
    pub leaves : Leaves e o.map.now v

  -- the vacant entry b is the entry e, whose key is absent, of a map whose room is 0
  pub record IsGivenBack (e : Entry K V S g g' g'' s) (b : VacantEntry K V S g g' g'' s) : Type 0 where
    pub absent : entry_value e ≡ None
    pub full : (entry_map e).now.room ≡ 0
    pub same_key : entry_key e ≡ Some b.key
    pub same_pairs : b.map.now.entries ≡ (entry_map e).now.entries
    pub same_map : b.map.ghost_name ≡ (entry_map e).ghost_name

  -- it fails only if the key is absent and the room is 0: the error has the key, and a value of which P holds
  pub record EntryRefused (e : Entry K V S g g' g'' s) (P : V → Type 0) {A : Type 0}
      (result : Result A (NoRoom (K × V))) : Type 0 where
    pub absent : OnErr result (entry_value e ≡ None)
    pub full : OnErr result ((entry_map e).now.room ≡ 0)
    pub back : IfErr result (λ refused. (entry_key e ≡ Some refused.back.0) × P refused.back.1)

  -- the occupied entry is that of the pair at index i of the list
  pub record IsEntryAt (L : List (K × V)) (i : ℕ) (o : OccupiedEntry K V S g g' g'' s) : Type 0 where
    pub key : entry_key (Occupied o) ≡ option_map (λ p. p.0) (slice_get L i)
    pub value : entry_value (Occupied o) ≡ value_in L i
    pub writes : (v : V) → pairs_with (Occupied o) v ≡ set_value L i v
    pub removes : pairs_without (Occupied o) ≡ remove L i
    -- what lookups find after a write
    pub updates : (p : K × V) (v : V) → slice_get L i ≡ Some p → Updates g.cmp p.0 (Some v) L (pairs_with (Occupied o) v)

  -- the entry is that of the key k in the list
  pub record IsEntryOf (L : List (K × V)) (k : K) (e : Entry K V S g g' g'' s) : Type 0 where
    pub key : entry_key e ≡ Some (key_or (at g.cmp L k) k)
    pub value : entry_value e ≡ value_at g.cmp L k
    pub writes : (v : V) → pairs_with e v ≡ put g.cmp L k v
    pub removes : pairs_without e ≡ cut g.cmp L k
    -- what lookups find after a write
    pub updates : (v : V) → Updates g.cmp k (Some v) L (pairs_with e v)

  -- the entry is that of the key in the list which is equal to q
  pub record IsFoundBy {Q : Type 0} (order : K → Q → Ordering) (L : List (K × V)) (q : Q) (e : Entry K V S g g' g'' s) : Type 0 where
    pub key : entry_key e ≡ option_map (λ p. p.0) (at order L q)
    pub value : entry_value e ≡ value_at order L q
    pub writes : (v : V) → pairs_with e v ≡ write order L q v
    pub removes : pairs_without e ≡ cut order L q
    -- what lookups find after a write, by any query and by a key
    pub updates : (v : V) → Finds order q (Some v) L (pairs_with e v)
    pub others : (v : V) → KeysStay g.cmp order q L (pairs_with e v)

  -- if the key is absent, f may be called on it
  abbrev pub IsTakenFor : {F : Type 0} → Once F (Bor K × Unit {0}) V → F → Entry K V S g g' g'' s → Type 0
  IsTakenFor call f (variants.Occupied o) = ⊤
  IsTakenFor call f (variants.Vacant e) = FnOnceTakesAt call f e.key

  -- if the key is absent, f returns v for it
  abbrev pub IsMadeFor : {F : Type 0} → Once F (Bor K × Unit {0}) V → F → Entry K V S g g' g'' s → V → Type 0
  IsMadeFor call f (variants.Occupied o) v = ⊤
  IsMadeFor call f (variants.Vacant e) v = FnOnceReturnsAt call f e.key v

  -- it fails only if the key is absent: with an error of which Made holds; or at room 0, with the key and a value of which it
  -- does
  pub record EntryFails {A E : Type 0} (e : Entry K V S g g' g'' s) (Made : Result V E → Type 0)
      (result : Result A (TryFault K V E)) : Type 0 where
    pub absent : OnErr result (entry_value e ≡ None)
    pub closure : IfClosure result (λ error. Made (Err error))
    pub full : IfNoRoom result (λ _ _. (entry_map e).now.room ≡ 0)
    pub back : IfNoRoom result (λ k v. (entry_key e ≡ Some k) × Made (Ok v))

module _ (K V S : RattleType) {g : ord.Ghosts K.Denot} {g' : eq.Ghosts K.Denot} {g'' : partial.Ghosts K.Denot}
    {s : store.Ghosts S.Denot K.Denot V.Denot} where
  -- once the reference r ends, the map has the last value written through it at the key of the occupied entry
  abbrev pub IntoLends : OccupiedEntry K.Denot V.Denot S.Denot g g' g'' s → MutBor V.Denot → Fml
  IntoLends o r = follows (the_row K V S g g' g'' s) V o.map.ghost_name r.ghost_name (map_with_value o)

  -- once the reference r ends, the entry has the last value written through it. (The entry's lifetime is the second of the
  -- signature)
  abbrev pub OccupiedLends : MutBor (OccupiedEntry K.Denot V.Denot S.Denot g g' g'' s) → MutBor V.Denot → Fml
  OccupiedLends o r =
      follows (occupied.the_row (record { mir = named 1; lft = [] }) K V S g g' g'' s) V o.ghost_name r.ghost_name
      (with_entry_value o.now)

  -- once the reference in r ends, the map has the last value written through it at the entry's key; at Err the pairs stay
  abbrev pub EntryLends : {E : Type 0} → Entry K.Denot V.Denot S.Denot g g' g'' s → Result (MutBor V.Denot) E → Fml
  EntryLends e r =
      follows_so (the_row K V S g g' g'' s) V (entry_map e).ghost_name (name_if_ok (λ x. x.ghost_name) r)
      (λ v n. IsOk r → Leaves e n v) (λ n. OnErr r (n.entries ≡ (entry_map e).now.entries))

  -- if there is no entry, the map stays
  abbrev pub RestsIfEmpty : MutBor (Contents K.Denot V.Denot) → Option (OccupiedEntry K.Denot V.Denot S.Denot g g' g'' s) → Fml
  RestsIfEmpty m r = RestsIfNone (the_row K V S g g' g'' s) m (λ o. o.map.ghost_name) r (λ n. n ≡ m.now)

  -- if the call fails, the map stays
  abbrev pub RestsIfRefused : {E : Type 0} → MutBor (Contents K.Denot V.Denot) → Result (Entry K.Denot V.Denot S.Denot g g' g'' s) E → Fml
  RestsIfRefused m r = RestsIfErr (the_row K V S g g' g'' s) m (λ e. (entry_map e).ghost_name) r (λ n. n ≡ m.now)
