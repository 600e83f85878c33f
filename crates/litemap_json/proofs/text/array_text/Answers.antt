use Rattle.std.proofs.Common.{arith, ◌∙◌, string_bytes}
use Rattle.serde_json.specs.Data.{array}
use Rattle.litemap_json.specs.Json.{rows}
use Rattle.litemap_json.proofs.ByPlace.{at_place}
use Rattle.litemap_json.proofs.Texts.{rows_end, rows_more, text_of_tree}
use Rattle.litemap_json.proofs.text.array_text.Goals as goal

pub loop-place-preserved : goal.loop-place-preserved
loop-place-preserved g c =
    let L = c.args.map.now.entries in
    let x : g.row.K.Denot × g.row.V.Denot = (c.pair_at.result.0.now, c.pair_at.result.1.now) in
    let found = at_place L c.loop-place.place x c.pair_at.ensures in (
      c.write_two.ensures.before ∙ c.loop-place.invariant.0,
      rows_more g.K.JsonKey.text g.K.JsonItem.json g.V.JsonItem.json L c.loop-place.place x c.loop-place.out.tokens c.write_two.new.out.tokens found.0 found.1
          c.in_ok-write_two.ensures.tree c.loop-place.invariant.1,
    )

pub returns : goal.returns
returns g c =
    let L = c.args.map.now.entries in
    let w = rows_end g.K.JsonKey.text g.K.JsonItem.json g.V.JsonItem.json L c.loop-place.place c.loop-place.out.tokens c.end_array.new.self.tokens
    (omega arith) c.in_ok-end_array.ensures.ok c.loop-place.invariant.1 in
    text_of_tree (array (rows g.K.JsonKey.text g.K.JsonItem.json g.V.JsonItem.json L)) c.end_array.new.self.tokens
    (string_bytes c.text_of.result) w c.text_of.ensures.text c.text_of.ensures.tokens
