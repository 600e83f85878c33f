use Rattle.std.proofs.Common.{◌≡◌, ◌++◌, filter, nat_lt}
use Rattle.example_uses.proofs.words.words_over.Given as goal

abbrev pub invariant-loop-word : goal.invariant-loop-word
invariant-loop-word l = l.over.items ++ filter (λ p. nat_lt l.fn.bound p.1) l.word-iterator ≡ filter (λ p. nat_lt l.fn.bound p.1) l.fn.counts.entries
