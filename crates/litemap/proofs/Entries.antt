-- From what is at the index of an entry to what its calls promise.
use Rattle.litemap.proofs.Common.{◌≡◌, ℕ, zero, suc, ◌<◌, List, [], ◌∷◌, length, Some, slice_get, slice_set, refl, sym, ap, ◌∙◌}
use Rattle.litemap.proofs.Common.{Err, Ok, Result, arith, remove, unwrap_or, Ordering, slice_get_within, option_map, option_map_or, above, at}
use Rattle.litemap.proofs.Common.{below, key_or, place, put, put_value, set_value, value_in, put_get, set_value-suc}
use Rattle.std.proofs.Math.Seq.{set-append_seam}
use Rattle.std.specs.Coded.{le_prop}
use Rattle.std.specs.declared.cmp.Ord as ord
use Rattle.std.specs.declared.cmp.PartialEq as eq
use Rattle.std.specs.declared.cmp.PartialOrd as partial
use Rattle.litemap_store.specs.declared.store.Store as store
use Rattle.litemap_store.specs.Splits.{IsMissingAt}
use Rattle.litemap_store.proofs.Lists.Seams.{remove-seam}
use Rattle.litemap.specs.declared.map.entry.OccupiedEntry.{OccupiedEntry}
use Rattle.litemap.specs.declared.map.entry.Entry.{Entry}
use Rattle.litemap_store.specs.declared.no_room.NoRoom.{NoRoom}
use Rattle.litemap.specs.Entries.{EntryRefused, IsInserted, IsWritten, Occupied, map_with_value, still_within, with_entry_value}

-- a write at the index of a key that was just put
pub set_value-put : {K V : Type 0} (cmp : K → K → Ordering) (L : List (K × V)) (k : K) (v w : V) (i : ℕ) → i ≡ place cmp L k
    → set_value (put cmp L k v) i w ≡ put cmp L k w
set_value-put cmp L k v w i p =
    ap (λ j. set_value (put cmp L k v) j w) p
    ∙ ap (λ o. option_map_or (λ q. slice_set (put cmp L k v) (place cmp L k) (q.0, w)) o (put cmp L k v)) (put_get cmp L k v)
    ∙ set-append_seam (below cmp L k) (key_or (at cmp L k) k, v) (above cmp L k) (key_or (at cmp L k) k, w)

-- which is an index of the list
pub within-put : {K V : Type 0} (cmp : K → K → Ordering) (L : List (K × V)) (k : K) (v : V) (i : ℕ) → i ≡ place cmp L k → i < length (put cmp L k v)
within-put cmp L k v i p = slice_get_within (put cmp L k v) i _ (ap (slice_get (put cmp L k v)) p ∙ put_get cmp L k v)

-- of two writes at an index the last one stays
pub set_value-set_value : {K V : Type 0} (L : List (K × V)) (i : ℕ) (v w : V) → set_value (set_value L i v) i w ≡ set_value L i w
set_value-set_value [] i v w = refl
set_value-set_value (p ∷ L) zero v w = refl
set_value-set_value (p ∷ L) (suc i) v w =
    ap (λ M. set_value M (suc i) w) (set_value-suc p L i v) ∙ set_value-suc p (set_value L i v) i w
    ∙ ap (λ M. p ∷ M) (set_value-set_value L i v w) ∙ sym (set_value-suc p L i w)

-- a write at an index leaves the others
pub remove-set_value : {K V : Type 0} (L : List (K × V)) (i : ℕ) (v : V) → remove (set_value L i v) i ≡ remove L i
remove-set_value [] i v = refl
remove-set_value (p ∷ L) zero v = refl
remove-set_value (p ∷ L) (suc i) v = ap (λ M. remove M (suc i)) (set_value-suc p L i v) ∙ ap (λ M. p ∷ M) (remove-set_value L i v)

-- and the key there
pub key-set_value : {K V : Type 0} (L : List (K × V)) (i : ℕ) (v : V) → option_map (λ p. p.0) (slice_get (set_value L i v) i)
    ≡ option_map (λ p. p.0) (slice_get L i)
key-set_value [] i v = refl
key-set_value (p ∷ L) zero v = refl
key-set_value (p ∷ L) (suc i) v = ap (λ M. option_map (λ q. q.0) (slice_get M (suc i))) (set_value-suc p L i v) ∙ key-set_value L i v

-- the value that was written is there
pub value_in-set_value : {K V : Type 0} (L : List (K × V)) (i : ℕ) (v : V) → i < length L → value_in (set_value L i v) i ≡ Some v
value_in-set_value [] i v h = absurd (omega arith)
value_in-set_value (p ∷ L) zero v h = refl
value_in-set_value (p ∷ L) (suc i) v h = ap (λ M. value_in M (suc i)) (set_value-suc p L i v) ∙ value_in-set_value L i v (omega arith)

-- a write of the value that is there changes nothing
pub set_value-same : {K V : Type 0} (L : List (K × V)) (i : ℕ) (v : V) → value_in L i ≡ Some v → set_value L i v ≡ L
set_value-same [] i v h = refl
set_value-same (p ∷ L) zero v h = ap (λ o. (p.0, unwrap_or o v) ∷ L) (sym h)
set_value-same (p ∷ L) (suc i) v h = set_value-suc p L i v ∙ ap (λ M. p ∷ M) (set_value-same L i v h)

-- at the index of an absent key that was just put
module _ {K V : Type 0} (cmp : K → K → Ordering) (L : List (K × V)) (k : K) (v : V) (i : ℕ) (m : IsMissingAt cmp L k i) where
  pub remove-put : remove (put cmp L k v) i ≡ L
  remove-put =
      ap (λ j. remove (put cmp L k v) j) m.place
      ∙ remove-seam (below cmp L k) (key_or (at cmp L k) k, v) (above cmp L k) ∙ sym m.is

  pub key-put : option_map (λ p. p.0) (slice_get (put cmp L k v) i) ≡ Some k
  key-put =
      ap (λ j. option_map (λ p. p.0) (slice_get (put cmp L k v) j)) m.place
      ∙ ap (option_map (λ p. p.0)) (put_get cmp L k v) ∙ ap (λ o. Some (key_or o k)) m.missing

  pub value-put : value_in (put cmp L k v) i ≡ Some v
  value-put = ap (λ j. value_in (put cmp L k v) j) m.place ∙ put_value cmp L k v

module _ {K V S : Type 0} {g : ord.Ghosts K} {g' : eq.Ghosts K} {g'' : partial.Ghosts K} {s : store.Ghosts S K V} where
  -- two entries that differ only in a proof are one
  pub same_entry : (o : OccupiedEntry K V S g g' g'' s) (v : V) (h : o.index < length (set_value o.map.now.entries o.index v))
      → record { map = record o.map { now = map_with_value o v }; index = o.index; within = h } ≡ with_entry_value o v
  same_entry o v h =
      ap (λ (x : o.index < length (set_value o.map.now.entries o.index v)). let e : OccupiedEntry K V S g g' g'' s = record
      { map = record o.map { now = map_with_value o v }; index = o.index; within = x } in e) (le_prop h (still_within o v))

  pub written : (o : OccupiedEntry K V S g g' g'' s) (v : V) → IsWritten (Occupied o) v (Occupied (with_entry_value o v))
  written o v = record {
    value = value_in-set_value o.map.now.entries o.index v o.within;
    same_key = key-set_value o.map.now.entries o.index v;
    same_writes = λ w. set_value-set_value o.map.now.entries o.index v w;
    same_removal = remove-set_value o.map.now.entries o.index v;
    same_map = refl;
    same_room = refl;
  }

  -- what holds of the value that comes back
  pub refused_weaker : {A : Type 0} (e : Entry K V S g g' g'' s) (P Q : V → Type 0) → ((v : V) → P v → Q v) → (r : Result A (NoRoom (K × V)))
      → EntryRefused e P r → EntryRefused e Q r
  refused_weaker e P Q h (Ok a) k = record { absent = k.absent; full = k.full; back = tt }
  refused_weaker e P Q h (Err x) k = record { absent = k.absent; full = k.full; back = (k.back.0, h x.back.1 k.back.1) }

  -- an entry whose value was written, as one that has the value
  pub inserted : (i : OccupiedEntry K V S g g' g'' s) (v : V) (o : OccupiedEntry K V S g g' g'' s) → IsWritten (Occupied i) v (Occupied o)
      → IsInserted (Occupied i) v o
  inserted i v o w = record {
    value = w.value;
    same_key = w.same_key;
    same_writes = w.same_writes;
    same_removal = w.same_removal;
    same_map = w.same_map;
    leaves = record {
      pairs = sym (set_value-same o.map.now.entries o.index v w.value) ∙ w.same_writes v;
      room = omega (arith, w.same_room);
      room_kept = λ _. w.same_room;
    };
  }
