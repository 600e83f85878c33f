use Rattle.litemap_store.proofs.Names.{[], ◌++◌, ◌∙◌, ◌∷◌, append-nil, append_assoc, arith, refl}
use Rattle.litemap_store.proofs.Merging.Walking.{first_rest}
use Rattle.litemap_store.proofs.walk.walk.Goals as goal

pub loop-order-preserved : goal.loop-order-preserved
loop-order-preserved g c =
    let taken = c.take_lower-key.ensures.taken in
    let was = c.loop-order.invariant in
    let rest = first_rest g.K.Ord.cmp g.met.K.Ord.total _ _ _ _ _ _ _ _ taken.1 was.old_rises was.new_rise in
    let fewer = rest.2 in
    let done = g.S.Store.pairs c.loop-order.store in
    let out = g.C.Choice.displaced c.loop-order.choice in
    let pair = c.take_lower-key.result in
    record {
      old_rises = rest.0;
      new_rise = rest.1;
      walks = λ M D w. rw (c.push_reserved.ensures.pairs, append_assoc done (pair ∷ []) M, taken.2, append_assoc out taken.0 D)
          (was.walks (pair ∷ M) (taken.0 ++ D) (_, _, taken.0, D, taken.1, refl, w));
      room = let k = was.room in let r = c.push_reserved.ensures.room in omega arith;
      choice_room = c.take_lower-key.ensures.room;
      same = c.in-Some.ensures.cost.same ∙ was.same;
      not_lowered = let k = was.not_lowered in let a = c.in-Some.ensures.cost.not_lowered in (omega arith, omega arith);
      most = let k = was.most in let a = c.in-Some.ensures.cost.most in omega arith;
    }

pub loop-order-init : goal.loop-order-init
loop-order-init g c = record {
  old_rises = rw c.new-olds.ensures c.requires.olds;
  new_rise = rw c.new-news.ensures c.requires.news;
  walks = λ M D w. rw (c.requires.empty.0, c.requires.empty.1) w;
  room = rw (c.new-olds.ensures, c.new-news.ensures) c.requires.room;
  choice_room = rw c.new-news.ensures c.requires.choice_room;
  same = refl;
  not_lowered = (omega arith, omega arith);
  most = omega arith;
}

pub returns-clause-walks : goal.returns-clause-walks
returns-clause-walks g c =
    let end = c.in_default.ensures.lower in
    rw (append-nil, append-nil, c.new-olds.ensures, c.new-news.ensures) at (c.loop-order.invariant.walks [] [] (end.0, end.1, refl))
