use Rattle.std.proofs.Common.{◌≡◌, arith, ◌∙◌, option_map, Some, string_bytes, sym, ap}
use Rattle.litemap_json.proofs.ByPlace.{at_place, made_stop}
use Rattle.litemap_json.proofs.Texts.{pairs_end, pairs_more, pairs_none, text_of_tree}
use Rattle.litemap_json.proofs.text.object_text.Goals as goal

pub loop-place-init : goal.loop-place-init
loop-place-init g c = (
  c.begin_object.ensures.room.0 ∙ c.in_ok-out.ensures.0,
  rw (c.in_ok-begin_object.ensures.ok, c.in_ok-out.ensures.1) (pairs_none g.K.JsonKey.text g.K.JsonItem.json g.V.JsonItem.json c.args.map.now.entries _),
)

pub returns-in_default-clause-error : goal.returns-in_default-clause-error
returns-in_default-clause-error g c =
    λ _. made_stop g.K.JsonKey.text g.K.JsonItem.json g.V.JsonItem.json string_bytes c.args.map.now.entries c.loop-place.place _ _ _ _ c.pair_at.ensures
    c.in_ok-name.ensures.text c.in_default.is c.loop-place.invariant.1.2

pub loop-place-preserved : goal.loop-place-preserved
loop-place-preserved g c =
    let L = c.args.map.now.entries in
    let x : g.row.K.Denot × g.row.V.Denot = (c.pair_at.result.0.now, c.pair_at.result.1.now) in
    let found = at_place L c.loop-place.place x c.pair_at.ensures in
    let s = string_bytes c.in-Some.name in
    let named : g.K.JsonKey.text x.0 ≡ Some s = sym c.in_ok-name.ensures.text ∙ ap (option_map string_bytes) c.in-Some.is in (
      c.write_member.ensures.before ∙ c.loop-place.invariant.0,
      pairs_more g.K.JsonKey.text g.K.JsonItem.json g.V.JsonItem.json L c.loop-place.place x
          (string_bytes c.loop-place.last) s c.loop-place.out.tokens c.write_member.new.out.tokens
          found.0 found.1 named (c.rises.ensures c.if-not-rises.false) c.in_ok-write_member.ensures.tree c.loop-place.invariant.1,
    )

pub returns-clause-text : goal.returns-clause-text
returns-clause-text g c =
    let made = pairs_end g.K.JsonKey.text g.K.JsonItem.json g.V.JsonItem.json c.args.map.now.entries c.loop-place.place
    (string_bytes c.loop-place.last) c.loop-place.out.tokens c.end_object.new.self.tokens
    (omega arith) c.in_ok-end_object.ensures.ok c.loop-place.invariant.1 in
    (made.0, made.1, text_of_tree made.0 c.end_object.new.self.tokens (string_bytes c.text_of.result) made.2 c.text_of.ensures.text c.text_of.ensures.tokens)
