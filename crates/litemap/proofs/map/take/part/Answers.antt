use Rattle.litemap.proofs.Common.{ap, arith, false, length, refl, rules, true}
use Rattle.litemap_store.specs.Retain.{CalledOnPair}
use Rattle.litemap_store.proofs.Stores.Retaining.{CallableOnEach-first, CallableOnEach-rest}
use Rattle.litemap.proofs.Outcomes.{has_room}
use Rattle.litemap.proofs.Parting.{Parted-all, Parted-goes, Parted-stays}
use Rattle.litemap.proofs.map.take.part.Goals as goal

pub f-requires : goal.f-requires
f-requires g c =
    let first = g.met.S.KeyValueIntoIter.PairIntoIter.first _ _ _ c.in-Some.ensures.steps in
    CallableOnEach-first g.F.FnMut c.loop-key.f (c.in-Some.key, c.in-Some.value) _ (rw first at c.loop-key.invariant.callable) _ _ refl refl

pub loop-key-preserved : goal.loop-key-preserved
loop-key-preserved g c =
    let p : g.row.K.Denot × g.row.V.Denot = (c.in-Some.key, c.in-Some.value) in
    let first = g.met.S.KeyValueIntoIter.PairIntoIter.first _ _ _ c.in-Some.ensures.steps in
    let called : CalledOnPair g.F.FnMut c.loop-key.f p false c.f.new.self = record { key = _; value = _; shows = (refl, refl); called = c.if-f.ensures } in
    let long = ap length first in let inv = c.loop-key.invariant in let stays = inv.stays in let goes = inv.goes in let after = c.lm_push-else-f.ensures.room in
    record {
      can = g.met.S.KeyValueIntoIter.PairIntoIter.can _;
      ends = search rules;
      callable = CallableOnEach-rest g.F.FnMut c.loop-key.f p _ c.f.new.self _ called (rw first at inv.callable);
      stays = omega arith;
      goes = omega arith;
      so_far = rw (rw c.unwrap-else-f.ensures at c.lm_push-else-f.ensures.ok)
          (Parted-stays g.F.FnMut _ _ c.loop-key.f p _ _ _ c.f.new.self (rw first at inv.so_far) called);
    }

pub loop-key-preserved-then-f : goal.loop-key-preserved-then-f
loop-key-preserved-then-f g c =
    let p : g.row.K.Denot × g.row.V.Denot = (c.in-Some.key, c.in-Some.value) in
    let first = g.met.S.KeyValueIntoIter.PairIntoIter.first _ _ _ c.in-Some.ensures.steps in
    let called : CalledOnPair g.F.FnMut c.loop-key.f p true c.f.new.self = record { key = _; value = _; shows = (refl, refl); called = c.if-f.ensures } in
    let long = ap length first in let inv = c.loop-key.invariant in let stays = inv.stays in let goes = inv.goes in let after = c.lm_push.ensures.room in
    record {
      can = g.met.S.KeyValueIntoIter.PairIntoIter.can _;
      ends = search rules;
      callable = CallableOnEach-rest g.F.FnMut c.loop-key.f p _ c.f.new.self _ called (rw first at inv.callable);
      stays = omega arith;
      goes = omega arith;
      so_far = rw (rw c.unwrap.ensures at c.lm_push.ensures.ok)
          (Parted-goes g.F.FnMut _ _ c.loop-key.f p _ _ _ c.f.new.self (rw first at inv.so_far) called);
    }

pub returns : goal.returns
returns g c =
    Parted-all g.F.FnMut _ _ c.loop-key.f _ _
    (rw (g.met.S.KeyValueIntoIter.PairIntoIter.first _ _ _ c.in-None.ensures.steps).0 at c.loop-key.invariant.so_far)

pub unwrap-requires : goal.unwrap-requires
unwrap-requires g c =
    let shorter = ap length (g.met.S.KeyValueIntoIter.PairIntoIter.first _ _ _ c.in-Some.ensures.steps) in
    has_room _ c.lm_push.ensures.full (omega (arith, c.loop-key.invariant.goes))

pub unwrap-requires-else-f : goal.unwrap-requires-else-f
unwrap-requires-else-f g c =
    let shorter = ap length (g.met.S.KeyValueIntoIter.PairIntoIter.first _ _ _ c.in-Some.ensures.steps) in
    has_room _ c.lm_push-else-f.ensures.full (omega (arith, c.loop-key.invariant.stays))
