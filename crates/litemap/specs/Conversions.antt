-- What keys and values become if a map is made of another.
use Rattle.std.specs.Prelude.{◌≡◌, List, [], Result, IfOk, IsOk}
use Rattle.std.specs.declared.cmp.Ordering.{Ordering}
use Rattle.std.specs.declared.cmp.Ordering.TheVariants.{Less}
use Rattle.litemap_store.specs.Clones.{PairsBecame}
use Rattle.litemap_store.specs.Contents.{Contents}
use Rattle.litemap_store.specs.Last.{In}
use denote.Param.Members.{Shared}
use denote.Ref.{Bor}

-- the pairs of a map become those of another, or memory runs out; it never does for no pairs
pub record Converts {K L V W E : Type 0} (key_became : K → L → Type 0) (value_became : V → W → Type 0) (before : List (K × V))
    (result : Result (Contents L W) E) : Type 0 where
  pub became : IfOk result (λ m. PairsBecame key_became value_became before m.entries)
  pub succeeds : before ≡ [] → IsOk result

module _ {K L V : Type 0} where
  -- of two keys of the list, the lesser becomes the lesser
  abbrev pub KeysKeepOrder : (K → K → Ordering) → (L → L → Ordering) → (K → L → Type 0) → List (K × V) → Type 0
  KeysKeepOrder cmp new_cmp became list =
      (p q : K × V) (a b : L) → In p list → In q list → became p.0 a → became q.0 b → cmp p.0 q.0 ≡ Less → new_cmp a b ≡ Less

module _ {F K L V : Type 0} (g : Shared F (Bor K × Unit {0}) L) where
  -- f may be called on each key of the list
  abbrev pub TakesKeys : F → List (K × V) → Type 0
  TakesKeys f list = (p : K × V) → In p list → (k : Bor K) → k.now ≡ p.0 → g.pre f (k, tt)
