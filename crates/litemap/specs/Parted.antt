-- What is left of a list of pairs, and what goes, if a closure is called on each and says which go.
use Rattle.std.specs.Prelude.{◌≡◌, Bool, List, [], ◌∷◌, if◌then◌else◌}
use Rattle.litemap_store.specs.Retain.{CalledOnPair}
use denote.Param.Members.{Mut}
use denote.Ref.{Bor}

module _ {F K V : Type 0} (g : Mut F (Bor K × (Bor V × Unit {0})) Bool) where
  -- f is called on each pair of L in order, its state passing on: B has those for which it returned true, and A the others
  abbrev pub Parted : F → List (K × V) → List (K × V) → List (K × V) → Type 0
  Parted f [] A B = (A ≡ []) × (B ≡ [])
  Parted f (p ∷ L) A B = (b : Bool) × (f' : F) × CalledOnPair g f p b f' × (M N : List (K × V)) × Parted f' L M N
      × (A ≡ (if b then M else p ∷ M)) × (B ≡ (if b then p ∷ N else N))
