-- the names so far
use Rattle.litemap_json.proofs.NamedItems.{Named}
use Rattle.litemap_json.proofs.text.by_name.Given as goal

abbrev pub invariant-loop-place : goal.invariant-loop-place
invariant-loop-place g l =
    Named g.N.Name.bytes (λ r. g.V.JsonItem.json r.now) g.K.JsonKey.text g.K.JsonItem.json g.V.JsonItem.json l.map.entries l.place l.items.items
