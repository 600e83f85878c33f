use Rattle.serde_json.specs.View.{members_view}
use Rattle.litemap_json.proofs.Again.{Gathers}
use Rattle.litemap_json.proofs.write.object_of.Given as goal

abbrev pub invariant-loop-place : goal.invariant-loop-place
invariant-loop-place g l =
    Gathers g.K.Ord.cmp g.met.K.Ord.total g.K.JsonKey.text g.K.JsonKey.key g.K.JsonItem.item g.V.JsonItem.item g.K.JsonItem.json g.V.JsonItem.json l.map.entries
    l.place (members_view l.members.entries)
