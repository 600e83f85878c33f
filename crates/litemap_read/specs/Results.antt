-- What is read from an iterator of results.
use Rattle.std.specs.Prelude.{List, Ok, Err, Option, Some, Result, map}
use Rattle.std.specs.Iterator.{YieldsThen}
use Rattle.litemap_store.specs.Bulk.{Gives}

module _ {U T P E : Type 0} (becomes : U → T → Type 0) (steps : T → Option (Result P E) → T → Type 0) where
  -- iter gives the pairs and no error, and then ends
  abbrev pub GivesPairs : U → List P → Type 0
  GivesPairs iter pairs = Gives becomes steps iter (map (λ p. Ok p) pairs)

  -- iter gives some pairs, and then the error in place of one
  abbrev pub GivesFault : U → E → Type 0
  GivesFault iter e = (given : List P) × (it : T) × becomes iter it
      × ((u : T) × YieldsThen steps it (map (λ p. Ok p) given) (Some (Err e)) u)
