use Rattle.std.specs.String.{string_cmp_total}
use Rattle.litemap_json.specs.OneTree.{text_one_tree}
use Rattle.litemap_json.proofs.ByText.{values_seen}
use Rattle.litemap_json.proofs.OneMap.{one_reading}
use Rattle.litemap_json.proofs.laws.one_reading_by_string.Goals as goal

pub returns : goal.returns
returns g c = λ d L M l m text.
    values_seen g.V.JsonItem.json text L M (one_reading _ string_cmp_total _ g.V.JsonItem.json text_one_tree _ _ g.V.JsonItem.item d L M l m)
