use Rattle.litemap_store.proofs.Names.{arith, sym}
use Rattle.litemap_store.proofs.Lists.Alongside.{alongside-more}
use Rattle.litemap_store.proofs.store.StoreMut.lm_try_clone.Goals as goal

pub loop-index-preserved : goal.loop-index-preserved
loop-index-preserved g c =
    let pair = c.unwrap.result in
    record {
      clones = rw (rw c.unwrap-in-loop-index.ensures at c.lm_push.ensures.ok)
          (alongside-more (λ p q. g.K.Clone.is_clone p.0 q.0 × g.V.Clone.is_clone p.1 q.1) (g.Self.Store.pairs c.args.self.now)
          (g.Self.Store.pairs c.loop-index.made)
          c.loop-index.index (pair.0.now, pair.1.now) (c.in_ok-clone.field-0, c.in_ok-clone-2.field-0) (sym (rw c.unwrap.ensures at c.lm_get.ensures))
          (c.in_ok-clone.ensures.cases, c.in_ok-clone-2.ensures.cases) c.loop-index.invariant.clones);
      room = omega (arith, c.lm_push.ensures.room);
    }
