use Rattle.litemap_store.proofs.Names.{◌∙◌, arith, false, refl, sym, true, true≢false}
use Rattle.litemap_store.proofs.Stores.Retaining.{KeptSoFar-no, KeptSoFar-takes, KeptSoFar-yes, Moved_if}
use Rattle.litemap_store.proofs.retain.keep_in_place.Goals as goal
use Rattle.litemap_store.proofs.retain.keep_in_place.Goals.{then-is_kept+else-kept-index, else-is_kept}

pub is_kept-requires : goal.is_kept-requires
is_kept-requires g c = KeptSoFar-takes g.F.FnMut _ _ _ _ _ _ _ c.loop-index.invariant.kept c.lm_pair.ensures

pub returns-then-kept-index-clause-kept : goal.returns-then-kept-index-clause-kept
returns-then-kept-index-clause-kept g c =
    let now = c.loop-index.invariant.kept in
    let moved = Moved_if _ _ _ _ _ c.is_kept.result true now.within c.lm_pair.ensures (λ _ _. refl) c.lm_swap.ensures.pairs in
    KeptSoFar-yes g.F.FnMut _ _ _ _ _ _ _ now c.lm_pair.ensures _ _ c.is_kept.ensures _ moved c.if-is_kept.true

pub loop-index-preserved : goal.loop-index-preserved
loop-index-preserved g c =
    let inv = c.loop-index.invariant in
    let there = Moved_if _ _ _ _ _ c.is_kept.result false inv.kept.within c.lm_pair.ensures in
    elim c.if-is_kept.branch [
      | then-is_kept+else-kept-index w ↦ record {
        len = inv.len;
        room = inv.room;
        kept = rw w.kept-is
            (KeptSoFar-yes g.F.FnMut _ _ _ _ _ _ _ inv.kept c.lm_pair.ensures _ _ c.is_kept.ensures _
            (there (λ stay lt. absurd (omega (arith, lt, w.if-kept-index.false))) refl) w.if-is_kept.true);
      }
      | else-is_kept w ↦ record {
        len = inv.len;
        room = inv.room;
        kept = rw w.kept-is
            (KeptSoFar-no g.F.FnMut _ _ _ _ _ _ _ inv.kept c.lm_pair.ensures _ _ c.is_kept.ensures _
            (there (λ stay lt. absurd (true≢false (sym stay ∙ w.if-is_kept.false))) refl) w.if-is_kept.false);
      }
    ]
