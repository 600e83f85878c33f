use Rattle.litemap_store.proofs.Names.{◌∙◌, ap, arith, length, length-swap, refl, true}
use Rattle.litemap_store.proofs.Stores.Retaining.{Kept-all, KeptSoFar-no, KeptSoFar-takes, KeptSoFar-yes, Moved_if}
use Rattle.litemap_store.proofs.retain.retain.Goals as goal
use Rattle.litemap_store.proofs.retain.retain.Goals.{then-stays, else-stays}

pub is_kept-stays-requires : goal.is_kept-stays-requires
is_kept-stays-requires g c = KeptSoFar-takes g.F.FnMut _ _ _ _ _ _ _ c.loop-index.invariant.kept c.lm_pair.ensures

pub loop-index-preserved : goal.loop-index-preserved
loop-index-preserved g c =
    let inv = c.loop-index.invariant in
    let moved = Moved_if _ _ _ _ _ c.is_kept-stays.result true inv.kept.within c.lm_pair.ensures (λ _ _. refl) c.lm_swap.ensures.pairs in
    let len = ap length c.lm_swap.ensures.pairs ∙ length-swap _ _ _ ∙ inv.len in
    let room = c.lm_swap.ensures.room ∙ inv.room in
    elim c.if-stays.branch [
      | then-stays w ↦ record {
        len = len;
        room = room;
        kept = rw w.kept-is
            (KeptSoFar-yes g.F.FnMut _ _ _ _ _ _ _ inv.kept c.lm_pair.ensures _ _ c.is_kept-stays.ensures _ moved w.if-stays.true);
      }
      | else-stays w ↦ record {
        len = len;
        room = room;
        kept = rw w.kept-is
            (KeptSoFar-no g.F.FnMut _ _ _ _ _ _ _ inv.kept c.lm_pair.ensures _ _ c.is_kept-stays.ensures _ moved w.if-stays.false);
      }
    ]

pub returns-clause-kept : goal.returns-clause-kept
returns-clause-kept g c = rw c.lm_truncate.ensures.pairs (Kept-all g.F.FnMut _ _ _ _ _ _ c.loop-index.invariant.kept (omega arith))
