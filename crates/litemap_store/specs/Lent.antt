-- A list of pairs with other values.
use Rattle.std.specs.Prelude.{List, length}
use Rattle.std.specs.List.{refill, zip}
use Rattle.std.specs.Map.{keys_of, values_of}

-- with ws as the values, as far as there are pairs, and the old values after them
abbrev pub set_values : {K V : Type 0} → List (K × V) → List V → List (K × V)
set_values L ws = zip (keys_of L) (refill (length L) (values_of L) ws)
