-- What is left of a list of pairs if a closure, which may write values, is called on each and says which stay.
use Rattle.std.specs.Prelude.{◌≡◌, Bool, List, ◌++◌, ◌∷◌, None, Option, Some, ⊤}
use Rattle.std.specs.Cmp.{IsTotalOrder}
use Rattle.std.specs.declared.cmp.Ordering.{Ordering}
use Rattle.std.specs.Fn.{Called, Takes}
use Rattle.std.specs.List.{FoldsTo}
use Rattle.std.specs.List.Retain.{RetainsInTurn}
use Rattle.litemap_store.specs.Pairs.{Rising}
use denote.Param.Members.{Mut}
use denote.Ref.{Bor, MutBor}

-- there was no value and there is none; or R relates what was there to what is there; or there is none now, and D holds of what was
abbrev pub KeepsOrDrops : {V : Type 0} → (V → V → Type 0) → (V → Type 0) → Option V → Option V → Type 0
KeepsOrDrops R D None None = ⊤
KeepsOrDrops R D None (Some w) = ⊥
KeepsOrDrops R D (Some v) None = D v
KeepsOrDrops R D (Some v) (Some w) = R v w

module _ {F K V R : Type 0} (g : Mut F (Bor K × (MutBor V × Unit {0})) (R × (MutBor V × Unit {0}))) where
  -- f, called on the key and the value of the pair p, returns r and leaves the pair q, which has p's key, and is then f'
  pub record LeavesPair (f : F) (p : K × V) (r : R) (f' : F) (q : K × V) : Type 0 where
    pub key : Bor K
    pub value : MutBor V
    pub left : MutBor V
    pub shows : (key.now ≡ p.0) × (value.now ≡ p.1)
    pub called : Called g f (key, (value, tt)) (r, (left, tt)) f'
    pub leaves : q ≡ (p.0, left.now)

  -- a call of f on p may leave it as f'
  abbrev pub AsksOfValue : F → K × V → F → Type 0
  AsksOfValue f p f' = (r : R) × (q : K × V) × LeavesPair f p r f' q

  -- f may be called on each pair of L in order, in the state that the calls on the pairs before left
  pub record CallableOnValues (f : F) (L : List (K × V)) : Type 0 where
    pub at : (before after : List (K × V)) (f' : F) (p : K × V) → L ≡ before ++ p ∷ after → FoldsTo AsksOfValue f before f'
        → (k : Bor K) (v : MutBor V) → k.now ≡ p.0 → v.now ≡ p.1 → Takes g f' (k, (v, tt))

module _ {F K V : Type 0} (g : Mut F (Bor K × (MutBor V × Unit {0})) (Bool × (MutBor V × Unit {0}))) where
  -- f is called on each pair of L in order, its state passing on: M has those for which it returned true, as it left them
  abbrev pub KeptWritten : F → List (K × V) → List (K × V) → Type 0
  KeptWritten f L M = RetainsInTurn (LeavesPair g) f L M

  -- f leaves of each pair the value that `write` computes of it, returns what `test` does, and keeps no state
  abbrev pub WritesAndTests : F → (K → V → V) → (K → V → Bool) → Type 0
  WritesAndTests f write test = (p q : K × V) (b : Bool) (f' : F) → LeavesPair g f p b f' q → (q ≡ (p.0, write p.0 p.1)) × (b ≡ test p.0 p.1) × (f' ≡ f)

  -- f keeps M of L, whose keys ascend: from this lemmas conclude what lookups find
  pub record KeepsOf (f : F) (cmp : K → K → Ordering) (L M : List (K × V)) : Type 0 where
    pub in_turn : KeptWritten f L M
    pub rising : Rising cmp L
    pub total : IsTotalOrder cmp
