use Rattle.std.proofs.Common.{ℕ, List}
use Rattle.std.proofs.lemmas.Result.{IfOk-weaker}
use Rattle.std.specs.Cmp.Lexicographic.{on_texts}
use Rattle.litemap_read.proofs.ReadLookups.{value_at-read}
use Rattle.example_uses.proofs.message.read_headers.Goals as goal
use denote.Ref.{Bor}

-- the last value of a name is found
pub returns-clause-last : goal.returns-clause-last
returns-clause-last c =
    IfOk-weaker c.read_pairs.result _ _ (λ headers r. value_at-read _ _ headers.entries (λ L h. h) r (on_texts (λ (a : Bor (List ℕ)). a.now)))
    c.read_pairs.ensures.read
