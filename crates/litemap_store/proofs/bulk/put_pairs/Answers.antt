use Rattle.litemap_store.proofs.Names.{◌++◌, ◌≡◌, on_ok_weaker}
use Rattle.litemap_store.proofs.Lists.Joined.{not_above}
use Rattle.litemap_store.proofs.Last.Pairs.{Last-join_right, Last-rising}
use Rattle.litemap_store.proofs.bulk.put_pairs.Goals as goal

pub returns-then-lies_below-clause-last : goal.returns-then-lies_below-clause-last
returns-then-lies_below-clause-last g c =
    let all : g.S.Store.pairs c.append_each.new.store ≡ g.S.Store.pairs c.args.store.now ++ c.keep_rising.new.pairs.items = cc in
    rw all (Last-join_right g.K.Ord.cmp g.met.K.Ord.total _ _ _ _ c.in_ok-keep_rising.ensures.last
    (Last-rising g.K.Ord.cmp _ (c.lies_below.ensures.below.0 c.if-lies_below.true)))

pub returns-clause-last : goal.returns-clause-last
returns-clause-last g c =
    on_ok_weaker c.merge.result (λ d. Last-join_right g.K.Ord.cmp g.met.K.Ord.total _ _ _ _ c.in_ok-keep_rising.ensures.last d) c.merge.ensures.last

pub returns-clause-all_above : goal.returns-clause-all_above
returns-clause-all_above g c =
    λ h. absurd (not_above g.K.Ord.cmp _ _ _ c.requires (rw (c.keep_rising.ensures.same h.rising).1 at c.lies_below.ensures.below.1) c.if-lies_below.false h)

pub returns-clause-succeeds : goal.returns-clause-succeeds
returns-clause-succeeds g c =
    λ h r. absurd (not_above g.K.Ord.cmp _ _ _ c.requires (rw (c.keep_rising.ensures.same h.rising).1 at c.lies_below.ensures.below.1) c.if-lies_below.false h)
