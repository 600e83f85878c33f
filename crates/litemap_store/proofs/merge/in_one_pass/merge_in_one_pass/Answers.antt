use Rattle.litemap_store.proofs.Names.{[], ◌*◌, ◌++◌, ◌+◌, ◌∙◌, ◌∷◌, ◌≡◌, ◌≤◌, above, ap, arith, at, below, digits, digits-mono, eqb-true, key_or, left, length}
use Rattle.litemap_store.proofs.Names.{length_push, Merge, nil_from_length, option_map, reverse, rules, Rising, subst, suc, suc-mul, sym, common_steps}
use Rattle.litemap_store.proofs.Merging.Down.{Merge-down, left-down, length-after, length-option, length-parts}
use Rattle.litemap_store.proofs.Merging.Joins.{Merge-none}
use Rattle.litemap_store.proofs.Search.Splitting.{Rising-filter}
use Rattle.litemap_store.proofs.Last.Taken.{Rising-left}
use Rattle.litemap_store.proofs.merge.in_one_pass.merge_in_one_pass.Goals as goal

pub loop-other-preserved : goal.loop-other-preserved
loop-other-preserved g c =
    let cmp = g.K.Ord.cmp in
    let o = g.met.K.Ord.total in
    let was = c.loop-other.invariant in
    let old = g.S.Store.pairs c.loop-other.store in
    let new = g.S.Store.pairs c.take_last-key.new.store in
    let pair = c.take_last-key.result in
    let step = c.take_above.ensures in
    let left_store = g.S.Store.pairs c.take_above.new.store in
    let first = g.S.Store.pairs c.args.store.now in
    let second = g.S.Store.pairs c.args.other in
    let all = g.S.Store.pairs c.loop-other.other in
    let split : all ≡ new ++ pair ∷ [] = c.take_last-key.ensures.pairs in
    let side : length c.take_above.new.side.items ≡ suc (length (above cmp old pair.0)) + length c.loop-other.side.items =
    length-after c.take_above.new.side.items ((key_or (at cmp old pair.0) pair.0, pair.1) ∷ above cmp old pair.0) c.loop-other.side.items step.side in
    let displaced : length c.take_above.new.displaced.items ≤ length c.loop-other.displaced.items + 1 =
    length-option c.take_above.new.displaced.items (option_map (λ p. (pair.0, p.1)) (at cmp old pair.0)) c.loop-other.displaced.items step.displaced in
    let parts : length (below cmp old pair.0) + length (above cmp old pair.0) ≤ length old = length-parts cmp o old pair.0 was.store_rises in
    let kept : length left_store ≡ length (below cmp old pair.0) = ap length step.store in
    let others : length all ≡ length new + 1 = ap length split ∙ length_push new pair in
    let total = length first + length second in
    let asked : digits (length old) ≤ digits total = digits-mono (length old) total (let k = was.fewer in omega arith) in
    let one : suc (length new) * digits total ≡ length new * digits total + digits total = suc-mul (length new) (digits total) in
    let more : length all * digits total ≡ suc (length new) * digits total =
    ap (λ n. n * digits total) (let e : length all ≡ suc (length new) = omega arith in e) in
    record {
      store_rises = rw step.store (Rising-filter cmp _ old was.store_rises);
      other_rises = Rising-left cmp new (pair ∷ []) (subst (Rising cmp) split was.other_rises);
      merged = Merge-down cmp o first second old all left_store new pair split was.other_rises step.store (reverse c.loop-other.side.items)
          (reverse c.take_above.new.side.items) was.store_rises step.side was.merged;
      left_over = left-down cmp o first second old all left_store new pair split was.other_rises step.store (reverse c.loop-other.displaced.items)
          (reverse c.take_above.new.displaced.items) step.displaced was.left_over;
      side_fits = let k = was.side_fits in let r = step.side_room in omega arith;
      side_len = let k = was.side_len in omega arith;
      displaced_fits = let k = was.displaced_fits in let r = step.displaced_room in omega arith;
      displaced_len = let k = was.displaced_len in omega arith;
      fewer = let k = was.fewer in omega arith;
      same = step.cost.same ∙ was.same;
      not_lowered = let k = was.not_lowered in let n = step.cost.not_lowered in (omega arith, omega arith);
      most = let k = was.most in let n = step.cost.most in omega arith;
    }

pub returns-clause-merges : goal.returns-clause-merges
returns-clause-merges g c =
    let cmp = g.K.Ord.cmp in
    let was = c.loop-other.invariant in
    let first = g.S.Store.pairs c.args.store.now in
    let second = g.S.Store.pairs c.args.other in
    let old = g.S.Store.pairs c.loop-other.store in
    let all = g.S.Store.pairs c.loop-other.other in
    let none : all ≡ [] = nil_from_length _ (eqb-true _ 0 (sym c.lm_is_empty.ensures ∙ c.loop-other-test.false)) in
    let kept : Merge cmp old all old = rw none (Merge-none cmp old was.store_rises) in
    let merged : Merge cmp first second (reverse c.take_from.new.side.items) = rw c.take_from.ensures.side (was.merged _ kept) in
    let left_over : reverse c.loop-other.displaced.items ≡ left cmp first second = sym (rw none at was.left_over) in
    search rules

pub take_above-requires : goal.take_above-requires
take_above-requires g c =
    let was = c.loop-other.invariant in let fits = was.side_fits in let fits_out = was.displaced_fits in
    let others : length (g.S.Store.pairs c.loop-other.other) ≡ length (g.S.Store.pairs c.take_last-key.new.store) + 1 =
    ap length c.take_last-key.ensures.pairs ∙ length_push _ _ in
    record { store = was.store_rises; side_room = omega arith; displaced_room = omega arith }

pub take_from-requires : goal.take_from-requires
take_from-requires g c = let fits = c.loop-other.invariant.side_fits in record { index = omega arith; side_room = omega arith }

pub put_up-requires : goal.put_up-requires
put_up-requires g c =
    let len = c.loop-other.invariant.side_len in let all =
    length-after c.take_from.new.side.items (g.S.Store.pairs c.loop-other.store) c.loop-other.side.items c.take_from.ensures.side in
    omega (arith, c.in-Ok.ensures.store_room)

pub loop-other-smaller : goal.loop-other-smaller
loop-other-smaller g c = grind (arith, common_steps)
