use Rattle.std.proofs.Common.{sym}
use Rattle.std.proofs.lemmas.Result.{on_ok_weaker}
use Rattle.serde.specs.Event.{WritesEntry}
use Rattle.litemap_serde.proofs.Steps.{all, more}
use Rattle.litemap_serde.proofs.write.serialize.Goals as goal

pub loop-place-preserved : goal.loop-place-preserved
loop-place-preserved g c =
    let x : g.row.K.Denot × g.row.V.Denot = (c.unwrap.result.0.now, c.unwrap.result.1.now) in
    let before = c.loop-place.invariant in (
      before.0,
      before.1,
      more (WritesEntry g.K.Described.writes g.V.Described.writes) c.args.map.now.entries c.loop-place.place x before.0 _ _
          (sym (rw c.unwrap.ensures at c.get_indexed.ensures)) before.2
          (_, _, _, c.in_ok-begin_key.ensures, c.in_ok-serialize.ensures, c.in_ok-end_key.ensures, c.in_ok-serialize-2.ensures),
    )

pub returns : goal.returns
returns g c =
    let before = c.loop-place.invariant in
    let each = all (WritesEntry g.K.Described.writes g.V.Described.writes) c.args.map.now.entries c.loop-place.place before.0 _
    (rw c.len-len.ensures.len at c.loop-place-test.false) before.2 in
    on_ok_weaker c.end_map.result (λ ended. (before.0, _, before.1, each, ended)) c.end_map.ensures
