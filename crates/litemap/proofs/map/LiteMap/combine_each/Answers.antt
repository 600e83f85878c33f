use Rattle.litemap.proofs.Common.{◌≡◌, ◌+◌, ◌*◌, ◌≤◌, ◌∷◌, length, drop, sym, ◌∙◌, subst, arith, refl, digits, in_turn}
use Rattle.litemap.proofs.Common.{length-set_value, drop_at}
use Rattle.litemap.specs.Combined.{CallableOnEachOf, Combined}
use Rattle.litemap.proofs.Writing.{drop-written, written_all, written_on}
use Rattle.litemap.proofs.map.LiteMap.combine_each.Goals as goal

pub combine-requires : goal.combine-requires
combine-requires g c =
    let here = drop_at (g.S.Store.pairs c.loop-index.store) c.loop-index.index _ c.lm_pair_mut-value.ensures.pair in
    (rw here at c.loop-index.invariant.callable).0

pub loop-index-preserved : goal.loop-index-preserved
loop-index-preserved g c =
    let cmp = g.K.Ord.cmp in let f = c.args.f.now in let there = c.args.self.now.entries in
    let store = c.loop-index.store in
    let pairs = g.S.Store.pairs store in
    let i = c.loop-index.index in
    let p : g.row.K.Denot × g.row.V.Denot = (c.lm_pair_mut-value.result.0.now, c.lm_pair_mut-value.result.1.now) in
    let w = c.combine.new.value in
    let here : drop i pairs ≡ p ∷ drop (i + 1) pairs = drop_at pairs i p c.lm_pair_mut-value.ensures.pair in
    let inv = c.loop-index.invariant in
    let d = digits (length there) in
    let more : i * d + d ≤ (i + 1) * d = omega arith in
    rw (g.met.S.StoreMut.writes store i w) (record {
      same_length = length-set_value pairs i w ∙ inv.same_length;
      room = g.met.S.StoreMut.keeps_room store i w ∙ inv.room;
      callable = subst (CallableOnEachOf g.F.Fn f cmp there) (sym (drop-written pairs i w)) (subst (CallableOnEachOf g.F.Fn f cmp there) here inv.callable).1;
      so_far = written_on (Combined g.F.Fn f cmp there (g.S.Store.pairs c.args.store.now)) pairs i (Combined g.F.Fn f cmp there)
          (Combined g.F.Fn f cmp there) p w
          c.lm_pair_mut-value.ensures.pair (λ M combined. (w, M, c.combine.ensures.settled, combined, refl)) inv.so_far;
      cost = in_turn (i * d) d ((i + 1) * d) more inv.cost c.combine.ensures.cost;
    })

pub returns-clause-combined : goal.returns-clause-combined
returns-clause-combined g c =
    written_all (Combined g.F.Fn c.args.f.now g.K.Ord.cmp c.args.self.now.entries (g.S.Store.pairs c.args.store.now)) (g.S.Store.pairs c.loop-index.store)
    c.loop-index.index (Combined g.F.Fn c.args.f.now g.K.Ord.cmp c.args.self.now.entries) (omega arith) refl c.loop-index.invariant.so_far
