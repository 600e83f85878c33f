-- What a call that goes over all pairs of a map requires of the closure that it calls on each.
use Rattle.std.specs.Prelude.{◌≡◌, Bool, List, ◌++◌, ◌∷◌, Some}
use Rattle.std.specs.declared.cmp.Ordering.{Ordering}
use Rattle.std.specs.Fn.{Takes}
use Rattle.std.specs.List.{FoldsTo, IsAmong}
use Rattle.std.specs.Map.{values_of}
use Rattle.litemap_store.specs.Pairs.{value_at}
use Rattle.litemap_store.specs.Retain.{AsksOfPair}
use Rattle.litemap.specs.KeptWritten.{AsksOfValue}
use denote.Param.Members.{Mut}
use denote.Ref.{Bor, MutBor}

-- k and v are a pair of L, between those before and those after: one of its pairs, and what its key finds
pub record IsPairOf {K V : Type 0} (cmp : K → K → Ordering) (L before after : List (K × V)) (k : K) (v : V) : Type 0 where
  pub between : L ≡ before ++ (k, v) ∷ after
  pub found : value_at cmp L k ≡ Some v
  pub pair : IsAmong L (k, v)
  pub value : IsAmong (values_of L) v

module _ {F K V : Type 0} (g : Mut F (Bor K × (Bor V × Unit {0})) Bool) (cmp : K → K → Ordering) where
  -- f may be called on each pair of L in order, in the state s that the calls on the pairs before left
  pub record TakesPairs (f : F) (L : List (K × V)) : Type 0 where
    pub at : (before after : List (K × V)) (s : F) (k : Bor K) (v : Bor V)
        → IsPairOf cmp L before after k.now v.now → FoldsTo (AsksOfPair g) f before s → Takes g s (k, (v, tt))

module _ {F K V R : Type 0} (g : Mut F (Bor K × (MutBor V × Unit {0})) (R × (MutBor V × Unit {0}))) (cmp : K → K → Ordering) where
  -- f, which may write values, may be called on each pair of L in order, in the state s that the calls on the pairs before left
  pub record TakesValues (f : F) (L : List (K × V)) : Type 0 where
    pub at : (before after : List (K × V)) (s : F) (k : Bor K) (v : MutBor V)
        → IsPairOf cmp L before after k.now v.now → FoldsTo (AsksOfValue g) f before s → Takes g s (k, (v, tt))
