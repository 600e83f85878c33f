use Rattle.litemap_store.proofs.Names.{◌∙◌, ap, arith, swap, sym}
use Rattle.litemap_store.proofs.Last.KeepLast.{passed_over, passed_more}
use Rattle.litemap_store.proofs.sorted.keep_last.Goals as goal
use Rattle.litemap_store.proofs.sorted.keep_last.Goals.{then-not-is_eq, else-not-is_eq}

pub loop-i-preserved : goal.loop-i-preserved
loop-i-preserved g c =
    let o = g.met.K.Ord.total in
    let inv = c.loop-i.invariant in
    let q = c.index-now-last.result in
    let p = c.index-now-i.result in
    elim c.if-not-is_eq.branch [
      | then-not-is_eq w ↦ record {
        before = (let e = w.last-is in let b = inv.before in omega arith);
        within = (let e = w.last-is in let b = inv.before in omega arith);
        kept = passed_more g.K.Ord.cmp o _ _ _ _ _ _ q p c.cmp.result inv.kept inv.before (omega arith) c.index-now-last.is c.index-now-i.is
            (rw (← c.index-now-last.is, ← c.index-now-i.is) at c.cmp.ensures) c.requires (sym c.is_eq.ensures ∙ w.if-not-is_eq.true)
            (c.swap.ensures.after ∙ ap (λ n. swap c.loop-i.pairs n c.loop-i.i) w.last-is) w.last-is;
      }
      | else-not-is_eq w ↦ record {
        before = (let e = w.last-is in let b = inv.before in omega arith);
        within = (let e = w.last-is in let b = inv.within in omega arith);
        kept = passed_over g.K.Ord.cmp o _ _ _ _ _ _ q p c.cmp.result inv.kept inv.before (omega arith) c.index-now-last.is c.index-now-i.is
            (rw (← c.index-now-last.is, ← c.index-now-i.is) at c.cmp.ensures) (sym c.is_eq.ensures ∙ w.if-not-is_eq.false)
            (c.swap.ensures.after ∙ ap (λ n. swap c.loop-i.pairs n c.loop-i.i) w.last-is) w.last-is;
      }
    ]
