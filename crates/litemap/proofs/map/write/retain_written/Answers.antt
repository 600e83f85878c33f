use Rattle.litemap.proofs.Common.{◌∙◌, ap, arith, length, length-set_value, refl, set_value, subst, sym}
use Rattle.litemap_store.proofs.Names.{length-swap, swap}
use Rattle.litemap.specs.KeptWritten.{CallableOnValues, LeavesPair}
use Rattle.litemap.proofs.KeptWriting.{KeptWritten-after, KeptWritten-all, KeptWritten-no, KeptWritten-yes}
use Rattle.litemap.proofs.Writing.{CallableOnValues-after, CallableOnValues-here}
use Rattle.litemap.proofs.map.write.retain_written.Goals as goal
use Rattle.litemap.proofs.map.write.retain_written.Goals.{then-stays, else-stays}

pub f-stays-requires : goal.f-stays-requires
f-stays-requires g c =
    CallableOnValues-here g.F.FnMut c.loop-index.f (g.S.Store.pairs c.loop-index.store) c.loop-index.index _ c.lm_pair_mut-value.ensures.pair
    c.loop-index.invariant.callable _ _ refl refl

pub loop-index-preserved : goal.loop-index-preserved
loop-index-preserved g c =
    let f = c.loop-index.f in
    let f' = c.f-stays.new.self in
    let store = c.loop-index.store in
    let pairs = g.S.Store.pairs store in
    let i = c.loop-index.index in
    let k = c.loop-index.kept in
    let b = c.f-stays.result in
    let p : g.row.K.Denot × g.row.V.Denot = (c.lm_pair_mut-value.result.0.now, c.lm_pair_mut-value.result.1.now) in
    let w = c.f-stays.new.arg3 in
    let called : LeavesPair g.F.FnMut f p b f' (p.0, w) = record {
      key = c.lm_pair_mut-value.result.0;
      value = c.lm_pair_mut-value.result.1;
      left = record c.lm_pair_mut-value.result.1 { now = w };
      shows = (refl, refl);
      called = record { met = c.f-stays.ensures.met };
      leaves = refl;
    } in
    let inv = c.loop-index.invariant in
    let swapped = c.lm_swap.ensures.pairs ∙ ap (λ N. swap N k i) (g.met.S.StoreMut.writes store i w) in
    let there = c.lm_pair_mut-value.ensures.pair in
    let after = KeptWritten-after g.F.FnMut c.args.f (g.S.Store.pairs c.args.store.now) f pairs k i p w b f' called _ swapped inv.within there inv.so_far in
    let callable = subst (CallableOnValues g.F.FnMut f') (sym after)
    (CallableOnValues-after g.F.FnMut f pairs i p there inv.callable b f' (p.0, w) called) in
    let len = ap length swapped ∙ length-swap (set_value pairs i w) k i ∙ length-set_value pairs i w ∙ inv.same_length in
    let room = c.lm_swap.ensures.room ∙ g.met.S.StoreMut.keeps_room store i w ∙ inv.room in
    elim c.if-stays.branch [
      | then-stays w' ↦ rw w'.kept-is
          (record {
            callable = callable;
            within = (let u = inv.within in omega arith);
            same_length = len;
            room = room;
            so_far = KeptWritten-yes g.F.FnMut _ _ f
                pairs k i p w b f' called _ swapped inv.within c.lm_pair_mut-value.ensures.pair inv.so_far w'.if-stays.true;
          })
      | else-stays w' ↦ rw w'.kept-is
          (record {
            callable = callable;
            within = (let u = inv.within in omega arith);
            same_length = len;
            room = room;
            so_far = KeptWritten-no g.F.FnMut _ _ f
                pairs k i p w b f' called _ swapped inv.within c.lm_pair_mut-value.ensures.pair inv.so_far w'.if-stays.false;
          })
    ]

pub returns-clause-kept : goal.returns-clause-kept
returns-clause-kept g c =
    rw c.lm_truncate.ensures.pairs
    (KeptWritten-all g.F.FnMut _ _ c.loop-index.f (g.S.Store.pairs c.loop-index.store) _ c.loop-index.index (omega arith) c.loop-index.invariant.so_far)
