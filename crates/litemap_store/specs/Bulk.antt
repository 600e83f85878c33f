-- What bulk input leaves: the last pairs of the old ones followed by those that an iterator yields.
use Rattle.std.specs.Prelude.{◌≡◌, ◌⊎◌, ◌+◌, ◌*◌, List, ◌++◌, Option, Some, length, reverse}
use Rattle.std.specs.declared.cmp.Ordering.{Ordering}
use Rattle.std.specs.Iterator.{Drains}
use Rattle.std.specs.Option.{option_or}
use Rattle.litemap_store.specs.declared.count.Count.{Count}
use Rattle.litemap_store.specs.Counts.{RisesByAtMost}
use Rattle.litemap_store.specs.Last.{Last, Rises}
use Rattle.litemap_store.specs.Pairs.{Rising, value_at}

-- iter becomes an iterator that yields the items and then ends
abbrev pub Gives : {U T X : Type 0} → (U → T → Type 0) → (T → Option X → T → Type 0) → U → List X → Type 0
Gives {U} {T} becomes steps iter items = (it : T) × becomes iter it × Drains steps it items

-- iter becomes an iterator that yields items of which P holds, and then ends
abbrev pub GivesSuch : {U T X : Type 0} → (U → T → Type 0) → (T → Option X → T → Type 0) → U → (List X → Type 0) → Type 0
GivesSuch {X = X} becomes steps iter P = (items : List X) × Gives becomes steps iter items × P items

-- iter becomes an iterator that yields an item first
abbrev pub GivesSome : {U T X : Type 0} → (U → T → Type 0) → (T → Option X → T → Type 0) → U → Type 0
GivesSome {U} {T} {X} becomes steps iter = (it rest : T) × (x : X) × becomes iter it × steps it (Some x) rest

-- what a failed call returns of the pairs that it was given: these, or the last of each key, in ascending order
abbrev pub IsHandedBack : {K V : Type 0} → (K → K → Ordering) → List (K × V) → List (K × V) → Type 0
IsHandedBack cmp given back = (back ≡ given) ⊎ Last cmp given back

-- how many comparisons are counted at most if the pairs `given` are added to the old ones
pub record IsCountedFor {K V : Type 0} (cmp : K → K → Ordering) (old given : List (K × V)) (before after : Count) : Type 0 where
  -- if they ascend above the last old key: one for each new pair
  pub all_above : Rises cmp old given → RisesByAtMost (length given) before after
  -- if they ascend: one for each old and two for each new pair
  pub rising : Rising cmp given → RisesByAtMost (length old + 2 * length given) before after

-- M has the last pairs of L followed by J
pub record Extends {K V : Type 0} (cmp : K → K → Ordering) (L J M : List (K × V)) : Type 0 where
  pub last : Last cmp (L ++ J) M
  -- what a key finds: its last value in J, if there is one, else what it finds in L
  pub found : (k : K) → value_at cmp M k ≡ option_or (value_at cmp (reverse J) k) (value_at cmp L k)
  -- if all keys ascend, the pairs stay as they are
  pub stays : Rising cmp (L ++ J) → M ≡ L ++ J

-- pairs are given, and new has the last pairs of the old ones followed by these
pub record IsGathered {K V : Type 0} (cmp : K → K → Ordering) (AreGiven : List (K × V) → Type 0)
    (old new : List (K × V)) : Type 0 where
  pub given : List (K × V)
  pub gives : AreGiven given
  pub last : Last cmp (old ++ given) new
  -- what a key finds: the last value that it is given, if there is one, else what it found before
  pub found : (k : K) → value_at cmp new k ≡ option_or (value_at cmp (reverse given) k) (value_at cmp old k)
  -- if all keys ascend, the pairs stay as they are
  pub stays : Rising cmp (old ++ given) → new ≡ old ++ given

module _ {U T K V : Type 0} (cmp : K → K → Ordering) (becomes : U → T → Type 0) (steps : T → Option (K × V) → T → Type 0) where
  -- iter yields the pairs, as `IsGathered` says, and how many comparisons are counted at most
  pub record IsExtendedCounted (iter : U) (old new : List (K × V)) (before after : Count) : Type 0 where
    pub given : List (K × V)
    pub gives : Gives becomes steps iter given
    pub last : Last cmp (old ++ given) new
    -- if the given pairs ascend above the last old key: one for each
    pub all_above : Rises cmp old given → RisesByAtMost (length given) before after
    -- if they ascend: one for each old and two for each given pair
    pub rising : Rising cmp given → RisesByAtMost (length old + 2 * length given) before after

  -- if the call fails, none was counted, or no more than for the pairs that iter yields before it ends
  abbrev pub IsRefusedCounted : U → List (K × V) → Count → Count → Type 0
  IsRefusedCounted iter old before after = RisesByAtMost 0 before after
      ⊎ GivesSuch becomes steps iter (λ given. IsCountedFor cmp old given before after)
