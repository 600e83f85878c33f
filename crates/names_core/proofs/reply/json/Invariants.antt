-- the tokens so far are those of the pairs so far
use Rattle.std.proofs.Common.{◌≡◌, ◌∷◌, [], flat_map, take}
use Rattle.json.specs.Token.{begin_object}
use Rattle.names_core.specs.Reply.{pair_bytes, pair_tokens}
use Rattle.names_core.proofs.reply.json.Given as goal

abbrev pub invariant-loop-index : goal.invariant-loop-index
invariant-loop-index g l =
    (l.writer.before ≡ []) × (l.writer.tokens ≡ begin_object ∷ flat_map (λ pair. pair_tokens (pair_bytes pair)) (take l.index l.names.entries))
