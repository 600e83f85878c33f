-- Whether an iterator yields a pair.
--     GivesSome-from_Yields      if any call yielded one, the first did;  GivesSome-from_some      if there is one;  some_refused, GivesSome-from_refused
-- if appending the pairs fails
use Rattle.litemap_store.proofs.Names.{[], ℕ, ◌∷◌, ◌≤◌, arith, BelowAll, Err, Gives, GivesSome, IsOk, length, List, Ok, OnErr}
use Rattle.litemap_store.proofs.Names.{IsCountedFor, Option, Ordering, Result, Rises, RisesByAtMost, Some, subst, sym, Yields}
use Rattle.litemap_store.specs.declared.count.Count.{Count}
use Rattle.litemap_store.proofs.Stores.Counting.{in_turn}
use Rattle.litemap_store.proofs.Lists.Membership.{from_each}

module _ {U T X : Type 0} (becomes : U → T → Type 0) (steps : T → Option X → T → Type 0) (iter : U) where
  pub GivesSome-from_Yields : (it s t : T) (items : List X) (x : X) → becomes iter it → Yields steps it items s → steps s (Some x) t
      → GivesSome becomes steps iter
  GivesSome-from_Yields it s t [] x is e step = (it, t, x, is, subst (λ u. steps u (Some x) t) (sym e) step)
  GivesSome-from_Yields it s t (y ∷ items) x is e step = (it, e.0, y, is, e.1)

  pub GivesSome-from_some : (given : List X) → Gives becomes steps iter given → 1 ≤ length given → GivesSome becomes steps iter
  GivesSome-from_some [] g some = absurd (omega (arith, some))
  GivesSome-from_some (x ∷ given) g some = (g.0, g.2.1.1.0, x, g.1, g.2.1.1.1)

pub Rises-none : {K V : Type 0} (cmp : K → K → Ordering) (old : List (K × V)) → Rises cmp old []
Rises-none {K} {V} cmp old = record { rising = tt; below = from_each (λ (p : K × V). BelowAll {K = K} {V = V} cmp p.0 []) old (λ x i. tt) }

-- a count in which nothing is compared after that
pub counted_then : {K V : Type 0} {cmp : K → K → Ordering} {old given : List (K × V)} {a b c : Count}
    → IsCountedFor cmp old given a b → RisesByAtMost 0 b c → IsCountedFor cmp old given a c
counted_then n none = record { all_above = λ h. in_turn _ 0 _ (omega arith) (n.all_above h) none; rising = λ h. in_turn _ 0 _ (omega arith) (n.rising h) none }

-- pairs for which a call fails are not none
pub some_refused : {K V R E : Type 0} (cmp : K → K → Ordering) (r : Result R E) (old given : List (K × V)) (room : ℕ)
    → (Rises cmp old given → length given ≤ room → IsOk r) → OnErr r (1 ≤ length given)
some_refused cmp (Ok x) old given room ok = tt
some_refused cmp (Err e) old [] room ok = absurd (cc (ok (Rises-none cmp old) (omega arith)))
some_refused cmp (Err e) old (x ∷ given) room ok = omega arith

module _ {U T K V : Type 0} (cmp : K → K → Ordering) (becomes : U → T → Type 0) (steps : T → Option (K × V) → T → Type 0) (iter : U) where
  pub GivesSome-from_refused : {R E : Type 0} (r : Result R E) (old given : List (K × V)) (room : ℕ) → Gives becomes steps iter given
      → (Rises cmp old given → length given ≤ room → IsOk r) → OnErr r (GivesSome becomes steps iter)
  GivesSome-from_refused (Ok x) old given room g ok = tt
  GivesSome-from_refused {R} (Err e) old given room g ok = GivesSome-from_some becomes steps iter given g (some_refused {R = R} cmp (Err e) old given room ok)
