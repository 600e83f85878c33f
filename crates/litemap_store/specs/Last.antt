-- The last pair of each key: what is left of a list of pairs if a later pair replaces every earlier one with an equal key. Keys
-- are equal if the order returns Equal; a pair that is left has its own key and value.
use Rattle.std.specs.Prelude.{◌≡◌, ◌≢◌, ◌⊎◌, ◌↔◌, List, [], ◌∷◌}
use Rattle.std.specs.declared.cmp.Ordering.{Ordering}
use Rattle.std.specs.declared.cmp.Ordering.TheVariants.{Equal}
use Rattle.std.specs.List.{AllByRecursion}
use Rattle.litemap_store.specs.Pairs.{BelowAll, Rising}

-- x is in the list
abbrev pub In : {X : Type 0} → X → List X → Type 0
In x [] = ⊥
In x (y ∷ L) = (y ≡ x) ⊎ In x L

module _ {K V : Type 0} (cmp : K → K → Ordering) where
  -- no pair of the list has a key equal to k
  abbrev pub NoneEqual : K → List (K × V) → Type 0
  NoneEqual k L = AllByRecursion (λ q. cmp k q.0 ≢ Equal) L

  -- p is in the list, and no later pair has an equal key
  abbrev pub StandsLast : K × V → List (K × V) → Type 0
  StandsLast p [] = ⊥
  StandsLast p (q ∷ L) = ((q ≡ p) × NoneEqual p.0 L) ⊎ StandsLast p L

  -- M has, in ascending order, the last pair of each key in J: exactly those with no later pair of an equal key
  pub record Last (J M : List (K × V)) : Type 0 where
    pub rising : Rising cmp M
    pub exactly : (p : K × V) → In p M ↔ StandsLast p J

  -- the keys of B ascend, and all are above every key of A
  pub record Rises (A B : List (K × V)) : Type 0 where
    pub rising : Rising cmp B
    pub below : AllByRecursion (λ p. BelowAll cmp p.0 B) A
