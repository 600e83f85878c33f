-- What the pairs of a map send as a sequence.
use Rattle.serde.specs.Event.{InSeq, Log, Then}

-- a pair is a sequence of two: the key, then the value
abbrev pub SendsPair : {K V : Type 0} → (K → Log → Log → Type 0) → (V → Log → Log → Type 0) → K × V → Log → Log → Type 0
SendsPair key value p old new = InSeq 2 (Then (key p.0) (value p.1)) old new
