use Rattle.std.proofs.Common.{string_bytes}
use Rattle.std.proofs.lemmas.Map.Lookups.{exact_bytes}
use Rattle.litemap_json.proofs.laws.one_name_by_string.Goals as goal

pub returns : goal.returns
returns c = λ x y s t e f same. let one = exact_bytes (string_bytes x) (string_bytes y) same in cc
