-- What a source of pairs gives. A source s may be able to give several lists, `gives s`, if a contract tells values apart that
-- the source doesn't. If it gives one, read `gives s L` as 'L is the list of s'.
use Rattle.std.specs.Prelude.{◌≡◌, ◌↔◌, ◌≤◌, ℕ, ◌+◌, List, [], ◌∷◌, ◌++◌, Result, Ok, Err, Option, Some, None}
use Rattle.std.specs.Prelude.{IfErr, OnErr, OnOk}
use Rattle.litemap_read.specs.ReadFault.{IfSource}
use Rattle.litemap_read.specs.declared.source.ReadFault.{ReadFault}
use Rattle.litemap_read.specs.declared.source.ReadFault.TheVariants.{NoRoom}

module _ {S P : Type 0} (gives : S → List P → Type 0) where
  -- there are pairs such that each list that t can give, s can give after them
  abbrev pub IsLater : S → S → Type 0
  IsLater s t = (front : List P) × ((rest : List P) → gives t rest → gives s (front ++ rest))

module _ {S P : Type 0} (gives : S → List P → Type 0) (left : S → ℕ) where
  -- t has the list of s
  abbrev pub SameList : S → S → Type 0
  SameList s t = ((L : List P) → gives t L ↔ gives s L) × (left t ≡ left s)

  -- s returned this and became t: the first pair of its list, and t has the rest; or `None`, if s may end and the list is
  -- empty; or an error that it allows, and t has the list of s
  abbrev pub GivesNext : {E : Type 0} → (S → E → Type 0) → (S → Type 0) → S → Result (Option P) E → S → Type 0
  GivesNext allows ends s (Ok (Some p)) t = ((rest : List P) → gives t rest → gives s (p ∷ rest)) × (left s ≡ left t + 1)
  GivesNext allows ends s (Ok None) t = ends s × SameList s t × gives t [] × (left t ≡ 0)
  GivesNext allows ends s (Err e) t = allows s e × SameList s t

-- the source s is read up to its end, or until it returns an error that it allows or memory runs out, and is then t: what is
-- left of its list comes after what it gave. Memory doesn't run out before the first pair
pub record IsAsked {S P E A : Type 0} (gives : S → List P → Type 0) (left : S → ℕ) (allows : S → E → Type 0)
    (may_end : S → Type 0) (leads_to : S → S → Type 0) (s t : S) (result : Result A (ReadFault E)) : Type 0 where
  pub ends : OnOk result (may_end s)
  pub empty : OnOk result (gives t [])
  pub error : IfErr result (λ error. IfSource error (allows s))
  pub rest : OnErr result (IsLater gives s t)
  pub leads : leads_to s t
  pub refused_some : IfErr result (λ error. error ≡ NoRoom → 1 ≤ left s)
