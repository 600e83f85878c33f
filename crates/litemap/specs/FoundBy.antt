-- What a call returns and leaves, by the index that a search found.
use Rattle.std.specs.Prelude.{◌≡◌, ◌<◌, ℕ, List, length, slice_get, Option, Some, None, IfSome, Result, Ok, Err, IfOk, IfErr, ◌≤◌}
use Rattle.std.specs.Option.{option_map}
use Rattle.std.specs.declared.cmp.Ordering.{Ordering}
use Rattle.std.specs.List.{remove}
use Rattle.litemap_store.specs.Pairs.{at, index_of, place, value_at, value_in}
use Rattle.litemap_store.specs.Search.{Found}
use denote.Param.Members.{Mut}
use denote.Ref.{Bor}

module _ {K V : Type 0} where
  -- the value at the index that was found
  abbrev pub value_found : List (K × V) → Result ℕ ℕ → Option V
  value_found L (Ok i) = value_in L i
  value_found L (Err i) = None

  -- the list without the pair that was found
  abbrev pub without_found : List (K × V) → Result ℕ ℕ → List (K × V)
  without_found L (Ok i) = remove L i
  without_found L (Err i) = L

module _ {F K V : Type 0} (g : Mut F (Bor K × Unit {0}) Ordering) (L : List (K × V)) (f : F) where
  -- v is the value at an index that a search by f may find, if it finds one
  pub record GetsFound (v : Option V) : Type 0 where
    pub place : Result ℕ ℕ
    pub found : Found g L f place
    pub value : v ≡ value_found L place

  -- v is the value at an index that a search by f may find, and M is the list without its pair
  pub record RemovesFound (v : Option V) (M : List (K × V)) : Type 0 where
    pub place : Result ℕ ℕ
    pub found : Found g L f place
    pub value : v ≡ value_found L place
    pub pairs : M ≡ without_found L place

module _ {K Q V : Type 0} (order : K → Q → Ordering) (L : List (K × V)) (q : Q) where
  -- the index of the key that is equal to q, and its pair is there; or the index where it would be inserted
  pub record FindsIndex (found : Result ℕ ℕ) : Type 0 where
    pub place : found ≡ index_of order L q
    pub within : IfOk found (λ index. index < length L)
    pub there : IfOk found (λ index. slice_get L index ≡ at order L q)
    pub up_to : IfErr found (λ index. index ≤ length L)

  -- the index of the key that is equal to q, and its value, if there is one
  pub record GetsWithIndex (found : Option (ℕ × Bor V)) : Type 0 where
    pub value : option_map (λ x. x.1.now) found ≡ value_at order L q
    pub place : IfSome found (λ x. x.0 ≡ place order L q)
    pub within : IfSome found (λ x. x.0 < length L)
    pub there : IfSome found (λ x. value_in L x.0 ≡ Some x.1.now)
