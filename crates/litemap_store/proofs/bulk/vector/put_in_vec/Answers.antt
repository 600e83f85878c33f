use Rattle.litemap_store.proofs.Names.{◌+◌, ◌-◌, ◌≡◌, ap, arith, drop-append_seam, length, length-append, min, on_ok_weaker, RisesByAtMost, take-append_seam}
use Rattle.litemap_store.proofs.Names.{vec_len}
use Rattle.litemap_store.proofs.Stores.Counting.{at_most, in_turn}
use Rattle.litemap_store.proofs.Lists.Joined.{not_above}
use Rattle.litemap_store.proofs.Last.Pairs.{Last-join_right, Last-rising}
use Rattle.litemap_store.proofs.bulk.vector.put_in_vec.Given.{Over}
use Rattle.litemap_store.proofs.bulk.vector.put_in_vec.Goals as goal
use Rattle.litemap_store.proofs.bulk.vector.put_in_vec.Goals.{After-lies_below}

-- once the ends are compared
both_ends : (g : Over) (c : After-lies_below g) → RisesByAtMost (length c.args.pairs.now.items) c.args.count.now c.lies_below.new.count
both_ends g c =
    let old = c.args.pairs.now in let now = c.keep_rising.new.pairs in
    in_turn (vec_len old - 0 - 1) (min 1 (length now.items)) _ (omega (arith, old.ok.0, now.ok.0, c.keep_rising.ensures.shorter.1)) c.keep_rising.ensures.cost
    c.lies_below.ensures.cost

pub returns-then-is_few-clause-all_above : goal.returns-then-is_few-clause-all_above
returns-then-is_few-clause-all_above g c =
    let len : c.len-from.result ≡ length c.args.store.now.items = omega (arith, c.len-from.ensures, c.args.store.now.ok.0) in
    rw (
      c.in_ok-append_in_vec.ensures.appended,
      len,
      take-append_seam c.args.store.now.items c.args.pairs.now.items,
      drop-append_seam c.args.store.now.items c.args.pairs.now.items,
    ) at c.settle_few.ensures.all_above

pub returns-then-is_few-clause-cost : goal.returns-then-is_few-clause-cost
returns-then-is_few-clause-cost g c =
    let len : c.len-from.result ≡ length c.args.store.now.items = omega (arith, c.len-from.ensures, c.args.store.now.ok.0) in
    rw (c.in_ok-append_in_vec.ensures.appended, len, drop-append_seam c.args.store.now.items c.args.pairs.now.items) at c.settle_few.ensures.cost

pub returns-then-lies_below-clause-cost : goal.returns-then-lies_below-clause-cost
returns-then-lies_below-clause-cost g c =
    at_most (length c.args.pairs.now.items) _ (omega arith) (both_ends g (goal.at.returns-then-lies_below-clause-cost g c).After-lies_below)

pub returns-clause-cost : goal.returns-clause-cost
returns-clause-cost g c =
    let shorter = c.keep_rising.ensures.shorter.1 in
    in_turn (length c.args.pairs.now.items) (length c.args.store.now.items + length c.keep_rising.new.pairs.items) _
    (omega (arith, c.args.pairs.now.ok.0, c.keep_rising.new.pairs.ok.0))
    (both_ends g (goal.at.returns-clause-cost g c).After-lies_below) c.merge.ensures.cost

pub returns-clause-last : goal.returns-clause-last
returns-clause-last g c =
    on_ok_weaker c.merge.result (λ d. Last-join_right g.K.Ord.cmp g.met.K.Ord.total _ _ _ _ c.in_ok-keep_rising.ensures.last d)
    c.merge.ensures.last

pub returns-clause-all_above : goal.returns-clause-all_above
returns-clause-all_above g c =
    λ h. absurd (not_above g.K.Ord.cmp _ _ _ c.requires (rw (c.keep_rising.ensures.same h.rising).1 at c.lies_below.ensures.below.1) c.if-lies_below.false h)

pub returns-clause-succeeds : goal.returns-clause-succeeds
returns-clause-succeeds g c =
    λ h r. absurd (not_above g.K.Ord.cmp _ _ _ c.requires (rw (c.keep_rising.ensures.same h.rising).1 at c.lies_below.ensures.below.1) c.if-lies_below.false h)

pub returns-then-lies_below-clause-last : goal.returns-then-lies_below-clause-last
returns-then-lies_below-clause-last g c =
    let up = Last-rising g.K.Ord.cmp _ (c.lies_below.ensures.below.0 c.if-lies_below.true) in
    let all = Last-join_right g.K.Ord.cmp g.met.K.Ord.total _ _ _ _ c.in_ok-keep_rising.ensures.last up in
    on_ok_weaker c.append_in_vec-then-lies_below.result (λ d. rw d all) c.append_in_vec-then-lies_below.ensures.appended

pub settle_few-requires : goal.settle_few-requires
settle_few-requires g c =
    let old = c.args.store.now in let given = c.args.pairs.now in let all = c.append_in_vec.new.store in
    let len : c.len-from.result ≡ length old.items = omega (arith, c.len-from.ensures, old.ok.0) in
    let sum : vec_len all ≡ c.len-from.result + c.len.result =
    omega (
      arith,
      c.len-from.ensures,
      c.len.ensures,
      ap length c.in_ok-append_in_vec.ensures.appended,
      length-append old.items given.items,
      old.ok.0,
      given.ok.0,
      all.ok.0,
    ) in
    let new : vec_len all - c.len-from.result ≡ c.len.result = omega (arith, sum) in record {
      from = omega (arith, sum);
      rising = rw (c.in_ok-append_in_vec.ensures.appended, len, take-append_seam old.items given.items) c.requires;
      few = rw (new, sum) (c.is_few.ensures c.if-is_few.true);
    }
