use Rattle.std.proofs.Common.{◌≡◌, drop}
use Rattle.serde_json.specs.View.{items_view}
use Rattle.litemap_json.specs.Json.{row_pairs}
use Rattle.litemap_json.specs.Reading.{after, seen}
use Rattle.litemap_json.proofs.read.read_rows.Given as goal

abbrev pub invariant-loop-place : goal.invariant-loop-place
invariant-loop-place g l =
    row_pairs g.K.JsonKey.key g.K.JsonItem.item g.V.JsonItem.item 0 (items_view l.row-items)
    ≡ after (seen g.K.JsonItem.json g.V.JsonItem.json l.found.items)
    (row_pairs g.K.JsonKey.key g.K.JsonItem.item g.V.JsonItem.item l.place (items_view (drop l.place l.row-items)))
