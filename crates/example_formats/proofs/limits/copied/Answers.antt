use Rattle.std.proofs.Common.{◌≡◌, ℕ, refl}
use Rattle.serde_json.specs.Data.{number, unsigned}
use Rattle.litemap_json.proofs.OneMap.{same_pairs}
use Rattle.example_formats.specs.Levels.{json_of}
use Rattle.example_formats.specs.declared.levels.Level.TheVariants.{High, Low, Middle}
use Rattle.example_formats.specs.declared.levels.Level.{Level}
use Rattle.example_formats.proofs.limits.copied.Goals as goal

one_level : (x y : Level) → json_of x ≡ json_of y → x ≡ y
one_level Low Low e = refl
one_level Low Middle e = cc
one_level Low High e = cc
one_level Middle Low e = cc
one_level Middle Middle e = refl
one_level Middle High e = cc
one_level High Low e = cc
one_level High Middle e = cc
one_level High High e = refl

one_number : (m n : ℕ) → number (unsigned m) ≡ number (unsigned n) → m ≡ n
one_number m n e = cc

pub returns : goal.returns
returns c =
    let same = c.one_reading.ensures _ _ _ c.in-Ok-from_json.ensures.read c.in-Ok.ensures.reads_back in
    same_pairs json_of (λ n. number (unsigned n)) one_level one_number _ c.args.limits.now.entries same
