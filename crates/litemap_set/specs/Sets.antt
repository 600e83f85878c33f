-- A set as the list of its keys, in ascending order. Two keys are equal if the order returns Equal; they may be two values.
use Rattle.std.specs.Prelude.{◌≡◌, ◌⊎◌, ◌+◌, ◌<◌, ◌≤◌, ℕ, Bool, false, ◌&&◌, ◌||◌, List, ◌++◌, Option, Result, IfErr, IfOk}
use Rattle.std.specs.Prelude.{IsTrue, OnErr, OnOk, if◌then◌else◌}
use Rattle.std.specs.Prelude.{[], ◌∷◌, filter, find, length, map, not, refl, reverse, ⊤}
pub use Rattle.std.specs.Map.{keys_of}
use Rattle.std.specs.BTreeSet.{insert_key}
use Rattle.std.specs.Bool.{OnFalse}
use Rattle.std.specs.Fn.{CalledAt, Takes}
use Rattle.std.specs.declared.cmp.Ordering.{Ordering}
use Rattle.std.specs.declared.cmp.Ordering.TheVariants.{Equal}
use Rattle.std.specs.Ordering.{is_eq}
use Rattle.std.specs.List.{FoldsTo, IsAmong, list_any}
use Rattle.std.specs.List.Sorted.{IsStrictlySortedBy}
use Rattle.litemap_store.specs.declared.no_room.NoRoom.{NoRoom}
use Rattle.litemap_store.specs.Bulk.{Gives}
use Rattle.litemap_store.specs.Last.{In}
use denote.Param.Members.{Mut}
use denote.Ref.{Bor}

-- what a contract sees of a set: its keys, and how many further ones it takes without failing
pub record Keys (K : Type 0) : Type 0 where
  pub keys : List K
  pub room : ℕ

-- the pairs of a map that has the keys, and no values; no more is known of its pairs than their keys
abbrev pub units : {K : Type 0} → List K → List (K × ⊤)
units keys = map (λ k. (k, tt)) keys

pub units_keys : {K : Type 0} (L : List (K × ⊤)) → units (keys_of L) ≡ L
units_keys [] = refl
units_keys (p ∷ L) = λ i. p ∷ units_keys L i

module _ {K Q : Type 0} (order : K → Q → Ordering) (keys : List K) (q : Q) where
  -- whether a key is equal to q: `order k q` is how the key k compares with q
  abbrev pub contains : Bool
  contains = list_any (λ k. is_eq (order k q)) keys

  -- the first key that is equal to q
  abbrev pub key_at : Option K
  key_at = find (λ k. is_eq (order k q)) keys

module _ {K : Type 0} (cmp : K → K → Ordering) (A B : List K) where
  -- each key of A is in B
  abbrev pub IsSubset : Type 0
  IsSubset = (q : K) → IsTrue (contains cmp A q) → IsTrue (contains cmp B q)

  -- no key of A is in B
  abbrev pub IsDisjoint : Type 0
  IsDisjoint = (q : K) → IsTrue (contains cmp A q) → contains cmp B q ≡ false

  -- L has, in ascending order, the keys for which `holds` is true of whether A and whether B has them, of two equal keys A's own
  pub record IsCombination (holds : Bool → Bool → Bool) (L : List K) : Type 0 where
    pub members : (q : K) → contains cmp L q ≡ holds (contains cmp A q) (contains cmp B q)
    pub own : (k : K) → In k L → In k A ⊎ (In k B × (contains cmp A k ≡ false))
    pub ascending : IsStrictlySortedBy cmp L

  -- the keys that A or B has
  abbrev pub IsUnion : List K → Type 0
  IsUnion = IsCombination (λ a b. a || b)

  -- the keys that both have
  abbrev pub IsIntersection : List K → Type 0
  IsIntersection = IsCombination (λ a b. a && b)

  -- the keys that A has and B lacks
  abbrev pub IsDifference : List K → Type 0
  IsDifference = IsCombination (λ a b. a && not b)

  -- the keys that exactly one of the two has
  abbrev pub IsSymmetricDifference : List K → Type 0
  IsSymmetricDifference = IsCombination (λ a b. if a then not b else b)

  -- L has the keys that A or B has, and finds the last of equal ones, where B's come after A's
  pub record HasLast (L : List K) : Type 0 where
    pub members : (q : K) → contains cmp L q ≡ (contains cmp A q || contains cmp B q)
    pub last : (q : K) → key_at cmp L q ≡ key_at cmp (reverse (A ++ B)) q

-- iter yields the keys `given` and then ends, and new has these beside the old ones
pub record IsExtendedBy {U T K : Type 0} (cmp : K → K → Ordering) (becomes : U → T → Type 0) (steps : T → Option K → T → Type 0)
    (iter : U) (old new : List K) : Type 0 where
  pub given : List K
  pub gives : Gives becomes steps iter given
  pub last : HasLast cmp old given new

-- `key` is inserted into old, which is then new, and the result is whether it is new
pub record InsertsKey {K : Type 0} (cmp : K → K → Ordering) (key : K) (old new : Keys K) (result : Result Bool (NoRoom K)) : Type 0 where
  pub added : IfOk result (λ is_new. is_new ≡ not (contains cmp old.keys key))
  pub updates : OnOk result ((q : K) → contains cmp new.keys q ≡ (is_eq (cmp key q) || contains cmp old.keys q))
  -- the list, as std's `BTreeSet` has it: with the key in its order, unless an equal one is there
  pub keys : OnOk result (new.keys ≡ insert_key cmp old.keys key)
  pub len : IfOk result (λ is_new. length new.keys ≡ length old.keys + (if is_new then 1 else 0))
  -- an equal key stays, and so does all else
  pub present : IfOk result (λ is_new. OnFalse is_new (new.keys ≡ old.keys))
  pub room_kept : IfOk result (λ is_new. OnFalse is_new (new.room ≡ old.room))
  -- it fails only for a new key, at room 0, and then returns it
  pub absent : OnErr result (contains cmp old.keys key ≡ false)
  pub full : OnErr result (old.room ≡ 0)
  pub unchanged : OnErr result (new.keys ≡ old.keys)
  pub back : IfErr result (λ e. e.back ≡ key)
  pub room : old.room ≤ new.room + 1

-- the key that is equal to q is removed from old, which is then new, and the result is whether there is one
pub record RemovesKey {K Q : Type 0} (order : K → Q → Ordering) (q : Q) (old new : Keys K) (result : Bool) : Type 0 where
  pub found : result ≡ contains order old.keys q
  pub gone : contains order new.keys q ≡ false
  pub keys : new.keys ≡ filter (λ k. not (is_eq (order k q))) old.keys
  -- what any other lookup finds stays as it was
  pub others : (test : K → Bool) → ((k : K) → order k q ≡ Equal → test k ≡ false) → list_any test new.keys ≡ list_any test old.keys
  pub len : length new.keys + (if result then 1 else 0) ≡ length old.keys
  pub unchanged : OnFalse result (new ≡ old)
  pub room : IsTrue result → old.room < new.room

module _ {F K : Type 0} (g : Mut F (Bor K × Unit {0}) Bool) where
  -- a call of f on the key k may leave it as f'
  abbrev pub AsksOfKey : F → K → F → Type 0
  AsksOfKey f k f' = (b : Bool) × CalledAt g f k b f'

  -- f may be called on each key of the list in order, in the state s that the calls on the keys before left
  pub record TakesKeys (f : F) (keys : List K) : Type 0 where
    pub at : (before after : List K) (s : F) (k : Bor K)
        → keys ≡ before ++ k.now ∷ after → IsAmong keys k.now → FoldsTo AsksOfKey f before s → Takes g s (k, tt)

-- f returns the test of each key, and keeps no state
abbrev pub TestsKeys : {F K : Type 0} → Mut F (Bor K × Unit {0}) Bool → F → (K → Bool) → Type 0
TestsKeys {F} {K} g f test = (k : K) (b : Bool) (f' : F) → CalledAt g f k b f' → (b ≡ test k) × (f' ≡ f)
