-- How the call of a reader or a writer for tests fails.
use Rattle.std.specs.Prelude.{◌≡◌, ℕ, true, Result, Ok, is_err}
use Rattle.names.specs.declared.fail_at.Fault.{Fault}
use Rattle.names.specs.declared.fail_at.Fault.TheVariants as does

-- the call failed so: with an error, or with no byte moved
abbrev pub Meets : {E : Type 0} → Fault → Result ℕ E → Type 0
Meets (does.Answers kind) answer = is_err answer ≡ true
Meets does.MovesNothing answer = answer ≡ Ok 0
