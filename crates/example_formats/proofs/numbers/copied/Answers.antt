use Rattle.std.proofs.Common.{◌≡◌, ℕ}
use Rattle.serde_json.specs.Data.{number, unsigned}
use Rattle.litemap_json.proofs.ByText.{same_values}
use Rattle.example_formats.proofs.numbers.copied.Goals as goal

one_number : (m n : ℕ) → number (unsigned m) ≡ number (unsigned n) → m ≡ n
one_number m n e = cc

pub returns : goal.returns
returns c = λ name.
    same_values (λ n. number (unsigned n)) one_number _ _ (c.one_reading_by_string.ensures _ _ _ c.in-Ok-from_json.ensures.read c.in-Ok.ensures.reads_back name)
