use Rattle.litemap.proofs.Common.{◌≡◌, ◌+◌, ◌∙◌, ◌∷◌, Err, List, Ok, Result, arith, drop, drop_at, length-set_value, refl, subst, sym}
use Rattle.std.specs.Result.{MatchResult}
use Rattle.litemap.specs.KeptWritten.{CallableOnValues, LeavesPair}
use Rattle.litemap.specs.TryWritten.{WrittenUntil}
use Rattle.litemap.proofs.TryWriting.{with_written}
use Rattle.litemap.proofs.Writing.{CallableOnValues-after, CallableOnValues-here, drop-written, written_all, written_on}
use Rattle.litemap.proofs.map.write.try_write_each.Goals as goal

pub f-requires : goal.f-requires
f-requires g c =
    CallableOnValues-here g.F.FnMut c.loop-index.f (g.S.Store.pairs c.loop-index.store) c.loop-index.index _ c.lm_pair_mut-value.ensures.pair
    c.loop-index.invariant.callable _ _ refl refl

pub returns-in-Err-clause-written : goal.returns-in-Err-clause-written
returns-in-Err-clause-written g c =
    let f = c.loop-index.f in
    let f' = c.f.new.self in
    let store = c.loop-index.store in
    let pairs = g.S.Store.pairs store in
    let i = c.loop-index.index in
    let p : g.row.K.Denot × g.row.V.Denot = (c.lm_pair_mut-value.result.0.now, c.lm_pair_mut-value.result.1.now) in
    let w = c.f.new.arg3 in
    let q : g.row.K.Denot × g.row.V.Denot = (p.0, w) in
    let rest = drop (i + 1) pairs in
    let here : drop i pairs ≡ p ∷ rest = drop_at pairs i p c.lm_pair_mut-value.ensures.pair in
    let called : LeavesPair g.F.FnMut f p c.f.result f' q = record {
      key = c.lm_pair_mut-value.result.0;
      value = c.lm_pair_mut-value.result.1;
      left = record c.lm_pair_mut-value.result.1 { now = w };
      shows = (refl, refl);
      called = record { met = c.f.ensures.met };
      leaves = refl;
    } in
    let r : Result (Unit {0}) g.row.E.Denot = Err c.in-Err.error in
    let answered : MatchResult c.f.result (λ _. (N : List (g.row.K.Denot × g.row.V.Denot)) × WrittenUntil g.F.FnMut f' rest N r × (q ∷ rest ≡ q ∷ N))
    (λ e. (r ≡ Err e) × (q ∷ rest ≡ q ∷ rest)) = rw c.in-Err.is (refl, refl) in
    let done = c.loop-index.invariant.so_far r (q ∷ rest)
    (subst (λ N. WrittenUntil g.F.FnMut f N (q ∷ rest) r) (sym here) (q, f', c.f.result, called, answered)) in
    subst (λ N. WrittenUntil g.F.FnMut c.args.f (g.S.Store.pairs c.args.store.now) N r)
    (sym (g.met.S.StoreMut.writes store i w ∙ with_written pairs i p w c.lm_pair_mut-value.ensures.pair)) done

pub loop-index-preserved : goal.loop-index-preserved
loop-index-preserved g c =
    let f = c.loop-index.f in
    let f' = c.f.new.self in
    let store = c.loop-index.store in
    let pairs = g.S.Store.pairs store in
    let i = c.loop-index.index in
    let p : g.row.K.Denot × g.row.V.Denot = (c.lm_pair_mut-value.result.0.now, c.lm_pair_mut-value.result.1.now) in
    let w = c.f.new.arg3 in
    let q : g.row.K.Denot × g.row.V.Denot = (p.0, w) in
    let called : LeavesPair g.F.FnMut f p c.f.result f' q = record {
      key = c.lm_pair_mut-value.result.0;
      value = c.lm_pair_mut-value.result.1;
      left = record c.lm_pair_mut-value.result.1 { now = w };
      shows = (refl, refl);
      called = record { met = c.f.ensures.met };
      leaves = refl;
    } in
    let inv = c.loop-index.invariant in
    rw (g.met.S.StoreMut.writes store i w) (record {
      callable = subst (CallableOnValues g.F.FnMut f') (sym (drop-written pairs i w))
          (CallableOnValues-after g.F.FnMut f pairs i p c.lm_pair_mut-value.ensures.pair inv.callable c.f.result f' q called);
      same_length = length-set_value pairs i w ∙ inv.same_length;
      room = g.met.S.StoreMut.keeps_room store i w ∙ inv.room;
      so_far = λ r. written_on (λ M. WrittenUntil g.F.FnMut c.args.f (g.S.Store.pairs c.args.store.now) M r) pairs i (λ L M. WrittenUntil g.F.FnMut f L M r)
          (λ L M. WrittenUntil g.F.FnMut f' L M r) p w c.lm_pair_mut-value.ensures.pair
          (λ M written. (
            q,
            f',
            c.f.result,
            called,
            (let a : MatchResult c.f.result
                (λ _. (N : List (g.row.K.Denot × g.row.V.Denot)) × WrittenUntil g.F.FnMut f' (drop (i + 1) pairs) N r × (q ∷ M ≡ q ∷ N))
                (λ e. (r ≡ Err e) × (q ∷ M ≡ q ∷ drop (i + 1) pairs)) = rw c.in-Ok.is (M, written, refl) in a),
          )) (inv.so_far r);
    })

pub returns-clause-written : goal.returns-clause-written
returns-clause-written g c =
    let r : Result (Unit {0}) g.row.E.Denot = Ok tt in
    written_all (λ M. WrittenUntil g.F.FnMut c.args.f (g.S.Store.pairs c.args.store.now) M r) (g.S.Store.pairs c.loop-index.store) c.loop-index.index
    (λ L M. WrittenUntil g.F.FnMut c.loop-index.f L M r) (omega arith) (refl, refl) (c.loop-index.invariant.so_far r)
