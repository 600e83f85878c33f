-- The two errors of `try_get_or_insert`.
use Rattle.std.specs.Prelude.{◌≡◌, ℕ, ◌+◌, ◌≤◌, List, Result, Ok, Err, Some, IsNone, IsSome, IfOk, OnErr, MatchResult, ⊤}
use Rattle.std.specs.Fn.{FnOnceReturnsAt, Once}
use Rattle.std.specs.declared.cmp.Ordering.{Ordering}
use Rattle.litemap_store.specs.Contents.{Contents}
use Rattle.litemap_store.specs.Pairs.{at, put, value_in}
use Rattle.litemap.specs.declared.try_fault.TryFault.{TryFault}
use Rattle.litemap.specs.declared.try_fault.TryFault.TheVariants.{Closure, NoRoom}
use denote.Ref.{Bor}

module _ {A K V E : Type 0} where
  -- if it is the closure's error, P holds of that
  abbrev pub IfClosure : Result A (TryFault K V E) → (E → Type 0) → Type 0
  IfClosure (Ok a) P = ⊤
  IfClosure (Err (Closure e)) P = P e
  IfClosure (Err (NoRoom k v)) P = ⊤

  -- if memory ran out, P holds of the key and the value that come back
  abbrev pub IfNoRoom : Result A (TryFault K V E) → (K → V → Type 0) → Type 0
  IfNoRoom (Ok a) P = ⊤
  IfNoRoom (Err (Closure e)) P = ⊤
  IfNoRoom (Err (NoRoom k v)) P = P k v

module _ {F K V E : Type 0} (g : Once F (Bor K × Unit {0}) (Result V E)) (f : F) (key : K) (room : ℕ) where
  -- a call that fails has the closure's error; or the room is 0, and the key and what the closure returned come back
  pub record FailsAs {A : Type 0} (result : Result A (TryFault K V E)) : Type 0 where
    pub closure : IfClosure result (λ error. FnOnceReturnsAt g f key (Err error))
    pub full : IfNoRoom result (λ _ _. room ≡ 0)
    pub back : IfNoRoom result (λ k v. (k ≡ key) × FnOnceReturnsAt g f key (Ok v))

-- the second result is the first, with the value at the index
abbrev pub Shown : {K V E : Type 0} → List (K × V) → Result ℕ E → Result (ℕ × Bor V) E → Type 0
Shown L found shown =
    MatchResult shown (λ there. (found ≡ Ok there.0) × (value_in L there.0 ≡ Some there.1.now)) (λ error. found ≡ Err error)

module _ {F K V E : Type 0} (g : Once F (Bor K × Unit {0}) (Result V E)) (f : F) (cmp : K → K → Ordering) (key : K)
    (old : Contents K V) (result : Result (ℕ × Bor V) (TryFault K V E)) where
  -- what the map `old` is after the call: the same if the key is present, else with the value that is returned
  pub record IsInsertedAt (n : Contents K V) : Type 0 where
    pub present : IsSome (at cmp old.entries key) → n ≡ old
    pub put : IsNone (at cmp old.entries key) → IfOk result (λ there. n.entries ≡ put cmp old.entries key there.1.now)
    pub room : old.room ≤ n.room + 1
    pub unchanged : OnErr result (n.entries ≡ old.entries)
    pub unchanged_by_closure : IfClosure result (λ _. n ≡ old)
