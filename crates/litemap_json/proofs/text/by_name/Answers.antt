use Rattle.std.proofs.Common.{◌≡◌, arith, ◌∙◌, option_map, Some, sym, ap, refl}
use Rattle.litemap_json.proofs.ByPlace.{at_place, made_stop}
use Rattle.litemap_json.proofs.NamedItems.{name_end, name_more, name_none}
use Rattle.litemap_json.proofs.text.by_name.Goals as goal

pub loop-place-init : goal.loop-place-init
loop-place-init g c =
    name_none g.N.Name.bytes (λ r. g.V.JsonItem.json r.now) g.K.JsonKey.text g.K.JsonItem.json g.V.JsonItem.json c.args.map.now.entries _
    c.in_ok-items.ensures.items

pub returns-in_default-clause-error : goal.returns-in_default-clause-error
returns-in_default-clause-error g c =
    λ _. made_stop g.K.JsonKey.text g.K.JsonItem.json g.V.JsonItem.json g.N.Name.bytes c.args.map.now.entries c.loop-place.place _ _ _ _ c.pair_at.ensures
    c.in_ok-name.ensures c.in_default.is c.loop-place.invariant.2

pub loop-place-preserved : goal.loop-place-preserved
loop-place-preserved g c =
    let L = c.args.map.now.entries in
    let x : g.row.K.Denot × g.row.V.Denot = (c.pair_at.result.0.now, c.pair_at.result.1.now) in
    let found = at_place L c.loop-place.place x c.pair_at.ensures in
    let named : g.K.JsonKey.text x.0 ≡ Some (g.N.Name.bytes c.in-Some.name) = sym c.in_ok-name.ensures ∙ ap (option_map g.N.Name.bytes) c.in-Some.is in
    rw c.in_ok-push_pair.ensures
    (name_more g.N.Name.bytes (λ r. g.V.JsonItem.json r.now) g.K.JsonKey.text g.K.JsonItem.json g.V.JsonItem.json L c.loop-place.place x
    (c.in-Some.name, c.pair_at.result.1) c.loop-place.items.items
    found.0 found.1 named refl c.loop-place.invariant)

pub returns-in-Ok-clause-named : goal.returns-in-Ok-clause-named
returns-in-Ok-clause-named g c =
    name_end g.N.Name.bytes (λ r. g.V.JsonItem.json r.now) g.K.JsonKey.text g.K.JsonItem.json g.V.JsonItem.json c.args.map.now.entries c.loop-place.place
    c.loop-place.items.items c.in-Ok.named.entries
    (omega arith) c.loop-place.invariant (rw g.met.N.Name.by_bytes at c.in-Ok.ensures.made)
