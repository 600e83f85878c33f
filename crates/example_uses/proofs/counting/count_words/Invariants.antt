use Rattle.std.proofs.Common.{◌≡◌, take, unwrap_or}
use Rattle.litemap.specs.Words.{count_by, get, is_eq}
use Rattle.example_uses.proofs.counting.count_words.Given as goal

abbrev pub invariant-loop-word : goal.invariant-loop-word
invariant-loop-word g l =
    (word : g.row.K.Denot) → unwrap_or (get g.K.Ord.cmp l.counts word) 0 ≡ count_by (λ w. is_eq (g.K.Ord.cmp w word)) (take l.word-index l.words)
