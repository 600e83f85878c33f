use Rattle.std.proofs.Common.{◌≡◌, ◌++◌, map}
use Rattle.example_uses.proofs.words.all_ranked.Given as goal

abbrev pub invariant-loop-word : goal.invariant-loop-word
invariant-loop-word l = map (λ r. (r.1, r.0.0)) l.all.items ++ l.word-iterator ≡ l.fn.counts.entries
