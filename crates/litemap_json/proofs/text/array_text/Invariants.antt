-- the rows so far
use Rattle.std.proofs.Common.{◌≡◌, []}
use Rattle.litemap_json.proofs.Texts.{RowsHeld}
use Rattle.litemap_json.proofs.text.array_text.Given as goal

abbrev pub invariant-loop-place : goal.invariant-loop-place
invariant-loop-place g l =
    (l.out.before ≡ []) × RowsHeld g.K.JsonKey.text g.K.JsonItem.json g.V.JsonItem.json l.map.entries l.place l.out.tokens
