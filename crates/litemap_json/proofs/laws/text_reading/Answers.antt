use Rattle.litemap_json.proofs.FromText.{text_reads}
use Rattle.litemap_json.proofs.laws.text_reading.Goals as goal

pub returns : goal.returns
returns g c =
    λ one_name. text_reads g.K.Ord.cmp g.met.K.Ord.total g.K.JsonKey.key g.K.JsonItem.item g.V.JsonItem.item g.K.JsonItem.json g.V.JsonItem.json
    g.met.K.JsonKey.one_tree one_name
