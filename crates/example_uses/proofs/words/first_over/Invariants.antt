use Rattle.std.proofs.Common.{◌≡◌, find, nat_lt}
use Rattle.example_uses.proofs.words.first_over.Given as goal

abbrev pub invariant-loop-word : goal.invariant-loop-word
invariant-loop-word l = find (λ p. nat_lt l.fn.bound p.1) l.word-iterator ≡ find (λ p. nat_lt l.fn.bound p.1) l.fn.counts.entries
