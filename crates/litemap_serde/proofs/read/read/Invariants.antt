use Rattle.serde.specs.Event.{struct_begins}
use Rattle.serde.specs.Steps.{Begins}
use Rattle.serde.specs.declared.deserializer.Deserializer.{Deserializer}
use Rattle.litemap_serde.proofs.read.read.Given as goal

-- it began where the reader stood
abbrev pub invariant-loop : goal.invariant-loop
invariant-loop g l =
    (first : Deserializer g.row.F.Denot g.row.F-Error.Denot g.row.F-Mark.Denot) × Begins g.F.Format.gives g.F.Format.stays l.fn.from
    (struct_begins l.in_sequence) first
