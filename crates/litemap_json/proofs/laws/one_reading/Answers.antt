use Rattle.litemap_json.proofs.OneMap.{one_reading}
use Rattle.litemap_json.proofs.laws.one_reading.Goals as goal

pub returns : goal.returns
returns g c = one_reading g.K.Ord.cmp g.met.K.Ord.total g.K.JsonItem.json g.V.JsonItem.json g.met.K.JsonKey.one_tree g.K.JsonKey.key g.K.JsonItem.item
    g.V.JsonItem.item
