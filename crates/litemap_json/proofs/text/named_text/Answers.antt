use Rattle.std.proofs.Common.{arith, ◌∙◌, string_bytes}
use Rattle.serde_json.specs.Data.{object}
use Rattle.litemap_json.specs.Written.{named}
use Rattle.litemap_json.proofs.ByPlace.{at_place}
use Rattle.litemap_json.proofs.Texts.{named_end, named_more, text_of_tree}
use Rattle.litemap_json.proofs.text.named_text.Goals as goal

pub loop-place-preserved : goal.loop-place-preserved
loop-place-preserved g c =
    let M = c.args.items.now.entries in
    let found = at_place M c.loop-place.place _ c.pair_at.ensures in (
      c.write_member.ensures.before ∙ c.loop-place.invariant.0,
      named_more g.N.Name.bytes (λ r. g.V.JsonItem.json r.now) M c.loop-place.place _ c.loop-place.out.tokens c.write_member.new.out.tokens found.0 found.1
          c.in_ok-write_member.ensures.tree c.loop-place.invariant.1,
    )

pub returns : goal.returns
returns g c =
    let M = c.args.items.now.entries in
    let w = named_end g.N.Name.bytes (λ r. g.V.JsonItem.json r.now) M c.loop-place.place c.loop-place.out.tokens c.end_object.new.self.tokens
    (omega arith) c.in_ok-end_object.ensures.ok c.loop-place.invariant.1 in
    text_of_tree (object (named g.N.Name.bytes (λ r. g.V.JsonItem.json r.now) M)) c.end_object.new.self.tokens
    (string_bytes c.text_of.result) w c.text_of.ensures.text c.text_of.ensures.tokens
