-- The size hint of an iterator that knows how many items are left.
use Rattle.std.specs.Prelude.{◌≡◌, ℕ, Option, Some, IfSome}
use Rattle.std.specs.Iterator.{at_most, UpTo}
use Rattle.std.specs.Iterator.SizeHint.{IsWithinCount}

-- both bounds are n, the number of items left; `lower` and `upper` say what every hint has to say
pub record HintsExactly (n : ℕ) (hint : ℕ × Option ℕ) : Type 0 where
  pub lower : IsWithinCount hint.0 (at_most n)
  pub upper : IfSome hint.1 (UpTo (at_most n))
  pub exact : (hint.0 ≡ n) × (hint.1 ≡ Some n)
