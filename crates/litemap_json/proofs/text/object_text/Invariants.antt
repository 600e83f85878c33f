-- the members so far
use Rattle.std.proofs.Common.{◌≡◌, [], string_bytes}
use Rattle.litemap_json.proofs.Texts.{PairsHeld}
use Rattle.litemap_json.proofs.text.object_text.Given as goal

abbrev pub invariant-loop-place : goal.invariant-loop-place
invariant-loop-place g l =
    (l.out.before ≡ []) × PairsHeld g.K.JsonKey.text g.K.JsonItem.json g.V.JsonItem.json l.map.entries l.place (string_bytes l.last) l.out.tokens
