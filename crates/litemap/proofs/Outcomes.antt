-- From what a call promises for each outcome.
use Rattle.litemap.proofs.Common.{◌≡◌, ◌+◌, ◌≤◌, ℕ, true, false, List, [], ◌∷◌, arith, cond, is_some, length, length-append}
use Rattle.litemap.proofs.Common.{Result, Ok, Err, OnOk, OnErr, IsOk, IsSome, refl, sym, subst, is_gt, is_lt, Ordering, Less, Equal, Greater}
use Rattle.litemap.proofs.Common.{above, at, below, cut}
use Rattle.litemap_store.specs.Splits.{IsMissingAt}

-- what holds after either outcome holds after the call
pub either_way : {A E X : Type 0} (P : X → Type 0) (r : Result A E) (x a b : X) → OnOk r (x ≡ a) → OnErr r (x ≡ b) → P a → P b → P x
either_way P (Ok y) x a b h t p q = subst P (sym h) p
either_way P (Err y) x a b h t p q = subst P (sym t) q

-- a call that fails only without room succeeds
pub has_room : {A E : Type 0} (r : Result A E) {room : ℕ} → OnErr r (room ≡ 0) → 1 ≤ room → IsOk r
has_room (Ok _) full some = refl
has_room (Err _) full some = absurd (omega arith)

-- a key that is there is not missing
pub not_missing : {K Q V : Type 0} (order : K → Q → Ordering) (L : List (K × V)) (q : Q) {i : ℕ} → IsSome (at order L q) → IsMissingAt order L q i → ⊥
not_missing order L q h m = let none : false ≡ true = subst (λ a. is_some a ≡ true) m.missing h in cc

-- a list without a key is no longer
pub length-cut : {K Q V : Type 0} (order : K → Q → Ordering) (L : List (K × V)) (q : Q) → length (cut order L q) ≤ length L
length-cut {K} {Q} {V} order L q = omega (arith, length-append (below order L q) (above order L q), parts L)
  where
    parts : (M : List (K × V)) → length (below order M q) + length (above order M q) ≤ length M
    parts [] = omega arith
    parts (p ∷ M) = elim (order p.0 q) as
        (λ r. length (cond (is_lt r) (p ∷ below order M q) (below order M q)) + length (cond (is_gt r) (p ∷ above order M q) (above order M q))
        ≤ length (p ∷ M)) [
          | Less ↦ omega (arith, parts M)
          | Equal ↦ omega (arith, parts M)
          | Greater ↦ omega (arith, parts M)
        ]
