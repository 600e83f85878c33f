-- The decimal digits of a number.
use Rattle.std.specs.Prelude.{ℕ, ◌-◌, ◌*◌, ◌/◌, ◌^◌, decimal, length}

-- for a private clause: the first 19 digits of a number of at most 20, with zeros after fewer
abbrev pub first_digits : ℕ → ℕ
first_digits n = n * 10 ^ (20 - length (decimal n)) / 10
