use Rattle.std.proofs.Common.{length, take, Some}
use Rattle.serde.specs.Event.{Log, Logs, seq_begins, WritesEach}
use Rattle.litemap_serde.specs.Written.{SendsPair}
use Rattle.litemap_serde.proofs.pairs.serialize.Given as goal

-- after the beginning, the pairs before this index
abbrev pub invariant-loop-place : goal.invariant-loop-place
invariant-loop-place g l = (first : Log) × Logs (g.W.Serializer.written l.fn.out) first (seq_begins (Some (length l.map.entries)))
    × WritesEach (SendsPair g.K.Described.writes g.V.Described.writes) (take l.place l.map.entries) first (g.W.Serializer.written l.out)
