use Rattle.std.proofs.Common.{OnOk, Result, Ok, Err}
use Rattle.litemap_serde.proofs.read.read.Goals as goal

on_ok : {T E P : Type 0} (r : Result T E) → P → OnOk r P
on_ok (Ok x) p = p
on_ok (Err e) p = tt

pub returns-in_default : goal.returns-in_default
returns-in_default g c =
    let begun = c.loop.invariant in
    record { whole = on_ok c.made.result (c.in_ok-in_sequence.in_sequence, begun.0, begun.1, (rw c.in_default.is at c.in_ok-pair.ensures.ended)) }
