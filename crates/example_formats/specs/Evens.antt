-- The keys that even numbers' texts spell.
use Rattle.std.specs.Prelude.{ℕ, ◌%◌, ◌==◌, List, Option, pos, negsuc, option_map}
use Rattle.serde_json.specs.Data.{Data}
use Rattle.litemap_json.specs.Item.{kept, unsigned_fits, whole_json, whole_of_text}
use Rattle.std.specs.Prelude.{Bool, ℤ, false}

abbrev is_even : ℤ → Bool
is_even (pos n) = n % 2 == 0
is_even (negsuc n) = false

-- an even number's decimal text
abbrev pub even_key : List ℕ → Option Data
even_key s = option_map whole_json (kept is_even (kept (unsigned_fits 32) (whole_of_text s)))
