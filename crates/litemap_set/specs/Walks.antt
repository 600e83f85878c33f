-- A walk along two ascending lists of keys, side by side.
use Rattle.std.specs.Prelude.{Bool, List, [], ◌∷◌, if◌then◌else◌}
use Rattle.std.specs.declared.cmp.Ordering.{Ordering}
use Rattle.std.specs.Ordering.{match_ordering}

-- the list, with x before it if `told` is true
abbrev pub cons_if : {K : Type 0} → Bool → K → List K → List K
cons_if told x L = if told then x ∷ L else L

-- the list, or none of it
abbrev pub all_if : {K : Type 0} → Bool → List K → List K
all_if told L = if told then L else []

-- a walk yields the keys of the first list alone, of both lists, and of the second list alone, each if so told
module _ {K : Type 0} (cmp : K → K → Ordering) (yields : Bool × Bool × Bool) where
  -- what a walk along x ∷ A and the last argument yields, where `on` walks along A and a list
  abbrev pub walk_on : K → List K → (List K → List K) → List K → List K
  walk_on x A on [] = all_if yields.0 (x ∷ A)
  walk_on x A on (y ∷ B) = match_ordering (cmp x y)
      (cons_if yields.0 x (on (y ∷ B)))
      (cons_if yields.1 x (on B))
      (cons_if yields.2 y (walk_on x A on B))

  -- what a walk along both lists yields; of two equal keys, the first list's
  abbrev pub walk : List K → List K → List K
  walk [] B = all_if yields.2 B
  walk (x ∷ A) B = walk_on x A (walk A) B
