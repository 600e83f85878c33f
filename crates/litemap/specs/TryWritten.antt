-- What is left of a list of pairs if a closure, which may write values, is called on each up to its first error.
use Rattle.std.specs.Prelude.{◌≡◌, List, [], ◌∷◌, Result, Ok, Err, MatchResult}
use Rattle.litemap.specs.KeptWritten.{LeavesPair}
use denote.Param.Members.{Mut}
use denote.Ref.{Bor, MutBor}

module _ {F K V E : Type 0} (g : Mut F (Bor K × (MutBor V × Unit {0})) (Result (Unit {0}) E × (MutBor V × Unit {0}))) where
  -- f is called on each pair of L in order, its state passing on, up to its first error, which is r: M has the pairs that the
  -- calls left, and those after them
  abbrev pub WrittenUntil : F → List (K × V) → List (K × V) → Result (Unit {0}) E → Type 0
  WrittenUntil f [] M r = (M ≡ []) × (r ≡ Ok tt)
  WrittenUntil f (p ∷ L) M r =
      (q : K × V) × (f' : F) × (answer : Result (Unit {0}) E) × LeavesPair g f p answer f' q
      × MatchResult answer (λ _. (N : List (K × V)) × WrittenUntil f' L N r × (M ≡ q ∷ N)) (λ e. (r ≡ Err e) × (M ≡ q ∷ L))

  -- f leaves of each pair the value that `write` computes of it, and keeps no state
  abbrev pub TryWrites : F → (K → V → V) → Type 0
  TryWrites f write = (p q : K × V) (answer : Result (Unit {0}) E) (f' : F) → LeavesPair g f p answer f' q → (q ≡ (p.0, write p.0 p.1)) × (f' ≡ f)
