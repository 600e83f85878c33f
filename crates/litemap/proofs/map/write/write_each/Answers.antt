use Rattle.litemap.proofs.Common.{sym, ◌∙◌, subst, arith, refl, length-set_value}
use Rattle.litemap.specs.KeptWritten.{CallableOnValues}
use Rattle.litemap.specs.Written.{WritesPair, Written}
use Rattle.litemap.proofs.Writing.{CallableOnValues-after, CallableOnValues-here, drop-written, written_all, written_on}
use Rattle.litemap.proofs.map.write.write_each.Goals as goal

pub f-requires : goal.f-requires
f-requires g c =
    CallableOnValues-here g.F.FnMut c.loop-index.f (g.S.Store.pairs c.loop-index.store) c.loop-index.index _ c.lm_pair_mut-value.ensures.pair
    c.loop-index.invariant.callable _ _ refl refl

pub loop-index-preserved : goal.loop-index-preserved
loop-index-preserved g c =
    let f = c.loop-index.f in
    let f' = c.f.new.self in
    let store = c.loop-index.store in
    let pairs = g.S.Store.pairs store in
    let i = c.loop-index.index in
    let p : g.row.K.Denot × g.row.V.Denot = (c.lm_pair_mut-value.result.0.now, c.lm_pair_mut-value.result.1.now) in
    let w = c.f.new.arg3 in
    let there = c.lm_pair_mut-value.ensures.pair in
    let called : WritesPair g.F.FnMut f p (p.0, w) f' = record {
      key = c.lm_pair_mut-value.result.0;
      value = c.lm_pair_mut-value.result.1;
      left = record c.lm_pair_mut-value.result.1 { now = w };
      shows = (refl, refl);
      called = record { met = c.f.ensures.met };
      leaves = refl;
    } in
    let inv = c.loop-index.invariant in
    rw (g.met.S.StoreMut.writes store i w) (record {
      same_length = length-set_value pairs i w ∙ inv.same_length;
      room = g.met.S.StoreMut.keeps_room store i w ∙ inv.room;
      callable = subst (CallableOnValues g.F.FnMut f') (sym (drop-written pairs i w))
          (CallableOnValues-after g.F.FnMut f pairs i p there inv.callable tt f' (p.0, w) called);
      so_far = written_on (Written g.F.FnMut c.args.f (g.S.Store.pairs c.args.store.now)) pairs i (Written g.F.FnMut f)
          (Written g.F.FnMut f') p w there
          (λ M written. ((p.0, w), f', M, called, written, refl)) inv.so_far;
    })

pub returns-clause-written : goal.returns-clause-written
returns-clause-written g c =
    written_all (Written g.F.FnMut c.args.f (g.S.Store.pairs c.args.store.now)) (g.S.Store.pairs c.loop-index.store) c.loop-index.index
    (Written g.F.FnMut c.loop-index.f) (omega arith) refl c.loop-index.invariant.so_far
