-- What keys and values become in another list: clones, for one. A clone need not be the same value as its original: that of a
-- string has bytes of its own.
use Rattle.std.specs.Prelude.{◌≡◌, List}
use Rattle.std.specs.List.{AllZip}
use Rattle.std.specs.declared.cmp.Ordering.{Ordering}
use Rattle.std.specs.declared.cmp.Ordering.TheVariants.{Equal}
use Rattle.litemap_store.specs.Last.{In}

-- a clone of a key of the list compares Equal to its original
abbrev pub ClonesCompareEqual : {K V : Type 0} → (K → K → Ordering) → (K → K → Type 0) → List (K × V) → Type 0
ClonesCompareEqual {K} {V} cmp is_clone list = (p : K × V) (clone : K) → In p list → is_clone p.0 clone → cmp p.0 clone ≡ Equal

-- a clone is the same value as its original
abbrev pub ClonesAreSame : {X : Type 0} → (X → X → Type 0) → Type 0
ClonesAreSame {X} is_clone = (x y : X) → is_clone x y → y ≡ x

-- each key and each value of the second list is what that of the first became
abbrev pub PairsBecame : {K L V W : Type 0} → (K → L → Type 0) → (V → W → Type 0) → List (K × V) → List (L × W) → Type 0
PairsBecame key_became value_became before after = AllZip (λ p q. key_became p.0 q.0 × value_became p.1 q.1) before after
