-- What a chain of iterators that begins at a map gives: `rest s` are the pairs that the iterator s has still to yield.
use Rattle.std.specs.Prelude.{List, Option}
use Rattle.std.specs.Iterator.Runs.{EveryRun, ItemsMapTo}
use Rattle.std.specs.Map.{keys_of, values_of}
use Rattle.std.specs.Map.Iter.{TakesFirst, deref}

-- each run of calls of `next` shows what was left, in order
abbrev pub RunsInOrder : {I A X : Type 0} → (I → Option A → I → Type 0) → (A → X) → (I → List X) → Type 0
RunsInOrder next shows rest = EveryRun next (λ p. ItemsMapTo p shows (rest p.from))

module _ {I K V : Type 0} (rest : I → List (K × V)) where
  -- each run of an iterator over the keys
  abbrev pub KeysInOrder : Type 0
  KeysInOrder = RunsInOrder (λ s r t. TakesFirst deref (keys_of (rest s)) r (keys_of (rest t))) deref (λ s. keys_of (rest s))

  -- each run of an iterator over the values
  abbrev pub ValuesInOrder : Type 0
  ValuesInOrder = RunsInOrder (λ s r t. TakesFirst deref (values_of (rest s)) r (values_of (rest t))) deref (λ s. values_of (rest s))
