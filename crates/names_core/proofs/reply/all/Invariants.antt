-- the text so far is that of the pairs so far
use Rattle.std.proofs.Common.{◌≡◌, flat_map, string_bytes, take}
use Rattle.names_core.specs.Reply.{pair_bytes}
use Rattle.names_core.specs.Told.{pair_text}
use Rattle.names_core.proofs.reply.all.Given as goal

abbrev pub invariant-loop-index : goal.invariant-loop-index
invariant-loop-index g l = string_bytes l.text ≡ flat_map (λ pair. pair_text (pair_bytes pair)) (take l.index l.names.entries)
