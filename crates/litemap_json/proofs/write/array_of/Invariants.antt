use Rattle.std.proofs.Common.{◌≡◌, map, take}
use Rattle.serde_json.specs.View.{view}
use Rattle.litemap_json.specs.Json.{row}
use Rattle.litemap_json.specs.Reading.{AllReadBack}
use Rattle.litemap_json.proofs.write.array_of.Given as goal

-- the rows so far, each of which is read back
abbrev pub invariant-loop-place : goal.invariant-loop-place
invariant-loop-place g l = record {
  made : map view l.list.items ≡ map (row g.K.JsonKey.text g.K.JsonItem.json g.V.JsonItem.json) (take l.place l.map.entries);
  readable : AllReadBack g.K.JsonItem.item g.V.JsonItem.item g.K.JsonItem.json g.V.JsonItem.json (take l.place l.map.entries);
}
