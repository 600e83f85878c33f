-- the members so far
use Rattle.std.proofs.Common.{◌≡◌, []}
use Rattle.litemap_json.proofs.Texts.{NamedHeld}
use Rattle.litemap_json.proofs.text.named_text.Given as goal

abbrev pub invariant-loop-place : goal.invariant-loop-place
invariant-loop-place g l = (l.out.before ≡ []) × NamedHeld g.N.Name.bytes (λ r. g.V.JsonItem.json r.now) l.items.entries l.place l.out.tokens
