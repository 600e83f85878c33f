use Rattle.std.proofs.Common.{arith, ◌≡◌, Some, string_bytes, option_map, refl, sym, ap, ◌∙◌}
use Rattle.serde_json.specs.View.{view, members_view}
use Rattle.serde_json.specs.Data.{no_members}
use Rattle.litemap_json.proofs.Again.{gathered_none, object_step, object_end}
use Rattle.litemap_json.proofs.ByPlace.{made_stop}
use Rattle.litemap_json.proofs.write.object_of.Goals as goal

pub returns-in_default-clause-error : goal.returns-in_default-clause-error
returns-in_default-clause-error g c =
    λ _. made_stop g.K.JsonKey.text g.K.JsonItem.json g.V.JsonItem.json string_bytes c.args.map.now.entries c.loop-place.place _ _ _ _ c.pair_at.ensures
    c.in_ok-name.ensures.text c.in_default.is c.loop-place.invariant.0

pub loop-place-preserved : goal.loop-place-preserved
loop-place-preserved g c =
    let x : g.row.K.Denot × g.row.V.Denot = (c.pair_at.result.0.now, c.pair_at.result.1.now) in
    let s = string_bytes c.in-Some.name in
    let named : g.K.JsonKey.text x.0 ≡ Some s = sym c.in_ok-name.ensures.text ∙ ap (option_map string_bytes) c.in-Some.is in
    let known : g.K.JsonKey.key s ≡ Some (g.K.JsonItem.json x.0) = rw named at c.in_ok-name.ensures.reads_back in
    rw (c.in_ok-put_member-2.ensures, c.in_ok-item.ensures.tree)
    (object_step g.K.Ord.cmp g.met.K.Ord.total g.K.JsonKey.text g.K.JsonKey.key g.K.JsonItem.item g.V.JsonItem.item g.K.JsonItem.json g.V.JsonItem.json
    g.met.K.JsonKey.one_tree
    c.args.map.now.entries c.loop-place.place x s (members_view c.loop-place.members.entries) c.pair_at.ensures c.len-place-end.ensures.rising named known
    c.in_ok-item.ensures.reads_back c.loop-place.invariant)

pub returns-clause-reads_back : goal.returns-clause-reads_back
returns-clause-reads_back g c =
    object_end g.K.Ord.cmp g.met.K.Ord.total g.K.JsonKey.text g.K.JsonKey.key g.K.JsonItem.item g.V.JsonItem.item g.K.JsonItem.json g.V.JsonItem.json
    c.args.map.now.entries c.loop-place.place (members_view c.loop-place.members.entries) (view c.from.result)
    (omega arith) c.len-place-end.ensures.rising c.from.ensures c.loop-place.invariant

pub loop-place-init : goal.loop-place-init
loop-place-init g c =
    let x : g.row.K.Denot × g.row.V.Denot = (c.requires.0, c.args.item.now) in
    let none : members_view c.new-members.result.entries ≡ no_members = ap members_view c.new-members.ensures.empty in
    rw (c.in_ok-put_member.ensures, c.in_ok-to_value.ensures.tree, none)
    (object_step g.K.Ord.cmp g.met.K.Ord.total g.K.JsonKey.text g.K.JsonKey.key g.K.JsonItem.item g.V.JsonItem.item g.K.JsonItem.json g.V.JsonItem.json
    g.met.K.JsonKey.one_tree
    c.args.map.now.entries 0 x (string_bytes c.args.name) no_members c.requires.1 c.len-place-end.ensures.rising c.requires.2 c.requires.3
    c.in_ok-to_value.ensures.reads_back (
      refl,
      gathered_none g.K.Ord.cmp g.met.K.Ord.total g.K.JsonKey.text g.K.JsonKey.key g.K.JsonItem.item g.V.JsonItem.item g.K.JsonItem.json
          g.V.JsonItem.json,
    ))
