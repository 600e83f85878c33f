-- What is left of a list of pairs if a closure, which may write values, is called on each.
use Rattle.std.specs.Prelude.{◌≡◌, Bool, true, List, [], ◌∷◌, None, Option, Some, find, option_map, ⊤}
use Rattle.litemap.specs.KeptWritten.{LeavesPair}
use denote.Param.Members.{Mut}
use denote.Ref.{Bor, MutBor}

-- there was no value and there is none, or R relates what was there to what is there
abbrev pub Relates : {V : Type 0} → (V → V → Type 0) → Option V → Option V → Type 0
Relates R None None = ⊤
Relates R None (Some w) = ⊥
Relates R (Some v) None = ⊥
Relates R (Some v) (Some w) = R v w

module _ {F K V : Type 0} (g : Mut F (Bor K × (MutBor V × Unit {0})) (Unit {0} × (MutBor V × Unit {0}))) where
  -- f, called on the key and the value of the pair p, leaves the pair q, which has p's key, and is then f'
  abbrev pub WritesPair : F → K × V → K × V → F → Type 0
  WritesPair f p q f' = LeavesPair g f p tt f' q

  -- f is called on each pair of L in order, its state passing on: M has the pairs that the calls left
  abbrev pub Written : F → List (K × V) → List (K × V) → Type 0
  Written f [] M = M ≡ []
  Written f (p ∷ L) M = (q : K × V) × (f' : F) × (N : List (K × V)) × WritesPair f p q f' × Written f' L N × (M ≡ q ∷ N)

  -- f leaves of each pair the value that `write` computes of it, and keeps no state
  abbrev pub Writes : F → (K → V → V) → Type 0
  Writes f write = (p q : K × V) (f' : F) → WritesPair f p q f' → (q ≡ (p.0, write p.0 p.1)) × (f' ≡ f)

  -- what a query finds in M: what h makes of the value that it finds in L, if f leaves that; its test is of the key alone
  pub record LeavesOf (f : F) (L M : List (K × V)) : Type 0 where
    pub written : Written f L M
    pub found : (test : K × V → Bool) (h : V → V) → ((k : K) (v w : V) → test (k, v) ≡ test (k, w))
        → ((p q : K × V) (f' : F) → WritesPair f p q f' → (f' ≡ f) × (test p ≡ true → q.1 ≡ h p.1))
        → option_map (λ p. p.1) (find test M) ≡ option_map h (option_map (λ p. p.1) (find test L))
    pub stays : (test : K × V → Bool) → ((k : K) (v w : V) → test (k, v) ≡ test (k, w))
        → ((p q : K × V) (f' : F) → WritesPair f p q f' → (f' ≡ f) × (test p ≡ true → q.1 ≡ p.1)) → find test M ≡ find test L
