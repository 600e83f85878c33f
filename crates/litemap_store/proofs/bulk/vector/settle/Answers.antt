use Rattle.litemap_store.proofs.Names.{ℕ, ◌++◌, ◌+◌, ◌-◌, ◌∙◌, ◌≡◌, ap, arith, drop, IsTotalOrder, Last, length, length-drop, length-take, List, min}
use Rattle.litemap_store.proofs.Names.{on_ok_weaker, Ordering, Rises, RisesByAtMost, Rising, subst, sym, take, take-append-drop, vec_len}
use Rattle.litemap_store.proofs.Stores.Counting.{at_most, in_turn}
use Rattle.litemap_store.proofs.Lists.Joined.{not_above}
use Rattle.litemap_store.proofs.Last.Pairs.{Last-join_right, Last-rising}
use Rattle.litemap_store.proofs.bulk.vector.settle.Given.{Over}
use Rattle.litemap_store.proofs.bulk.vector.settle.Goals as goal
use Rattle.litemap_store.proofs.bulk.vector.settle.Goals.{After-lies_below, After-split_off}

module _ {K V : Type 0} (cmp : K → K → Ordering) (from : ℕ) (L : List (K × V)) where
  -- the last pairs of those from an index on, in their place
  Last-after : IsTotalOrder cmp → (D M : List (K × V)) → Last cmp (drop from L) D → Last cmp (take from L ++ D) M → Last cmp L M
  Last-after o D M d h = subst (λ N. Last cmp N M) (take-append-drop from L) (Last-join_right cmp o (take from L) (drop from L) D M d h)

-- if the ends were compared in vain, the new pairs do not come after the old ones
mixed : (g : Over) (c : After-split_off g) → Rises g.K.Ord.cmp (take c.args.from c.args.store.now.items) (drop c.args.from c.args.store.now.items) → ⊥
mixed g c h =
    let L = c.args.store.now.items in
    let below = rw (c.new.ensures, c.new-2.ensures, ← c.split_at.ensures.by_index.0, c.deref.ensures.value) at c.lies_below.ensures.below.1 in
    not_above g.K.Ord.cmp (take c.args.from L) (drop c.args.from L) _ c.requires.rising
    (λ up. below (subst (Rising g.K.Ord.cmp) (take-append-drop c.args.from L ∙ sym (c.keep_rising.ensures.same h.rising).1) up)) c.if-lies_below.false h

-- once the ends are compared
both_ends : (g : Over) (c : After-lies_below g) → RisesByAtMost (length (drop c.args.from c.args.store.now.items)) c.args.count.now c.lies_below.new.count
both_ends g c =
    let old = c.args.store.now in
    let high : length c.new-2.result.pairs.now ≡ vec_len c.keep_rising.new.pairs - c.args.from =
    ap length (c.new-2.ensures ∙ c.split_at.ensures.back) ∙ length-drop c.args.from c.deref.result.now ∙ ap (λ n. n - c.args.from) c.deref.ensures.len in
    in_turn (vec_len old - c.args.from - 1) (min 1 (length c.new-2.result.pairs.now)) _
    (omega (arith, high, c.keep_rising.ensures.shorter.1, length-drop c.args.from old.items, old.ok.0)) c.keep_rising.ensures.cost c.lies_below.ensures.cost

pub returns-in-Err-clause-all_above : goal.returns-in-Err-clause-all_above
returns-in-Err-clause-all_above g c =
    λ h. at_most (vec_len c.args.store.now - c.args.from - 1) _ (omega (arith, length-drop c.args.from c.args.store.now.items, c.args.store.now.ok.0))
    c.keep_rising.ensures.cost

pub returns-in-Err-clause-cost : goal.returns-in-Err-clause-cost
returns-in-Err-clause-cost g c =
    at_most (vec_len c.args.store.now - c.args.from - 1) _ (omega (arith, length-drop c.args.from c.args.store.now.items, c.args.store.now.ok.0))
    c.keep_rising.ensures.cost

pub returns-in-Err-split_off-clause-cost : goal.returns-in-Err-split_off-clause-cost
returns-in-Err-split_off-clause-cost g c =
    at_most (length (drop c.args.from c.args.store.now.items)) _ (omega arith) (both_ends g (goal.at.returns-in-Err-split_off-clause-cost g c).After-lies_below)

pub returns-then-lies_below-clause-all_above : goal.returns-then-lies_below-clause-all_above
returns-then-lies_below-clause-all_above g c = λ h. both_ends g (goal.at.returns-then-lies_below-clause-all_above g c).After-lies_below

pub returns-then-lies_below-clause-cost : goal.returns-then-lies_below-clause-cost
returns-then-lies_below-clause-cost g c =
    at_most (length (drop c.args.from c.args.store.now.items)) _ (omega arith) (both_ends g (goal.at.returns-then-lies_below-clause-cost g c).After-lies_below)

pub returns-in-Ok-clause-cost : goal.returns-in-Ok-clause-cost
returns-in-Ok-clause-cost g c =
    let old = c.args.store.now in let now = c.keep_rising.new.pairs in
    let cost = rw (c.in-Ok.ensures.items, c.in-Ok.ensures.tail, c.keep_rising.ensures.before) at c.merge.ensures.cost in
    in_turn (length (drop c.args.from old.items)) (length (take c.args.from old.items) + length (drop c.args.from now.items)) _
    (omega (
      arith,
      length-take c.args.from old.items,
      length-drop c.args.from now.items,
      length-drop c.args.from old.items,
      old.ok.0,
      now.ok.0,
      c.keep_rising.ensures.shorter.1,
    )) (both_ends g (goal.at.returns-in-Ok-clause-cost g c).After-lies_below) cost

pub returns-in-Err-split_off-clause-succeeds : goal.returns-in-Err-split_off-clause-succeeds
returns-in-Err-split_off-clause-succeeds g c = λ h. absurd (mixed g (goal.at.returns-in-Err-split_off-clause-succeeds g c).After-split_off h)

pub returns-then-lies_below-clause-last : goal.returns-then-lies_below-clause-last
returns-then-lies_below-clause-last g c =
    let now = c.keep_rising.new.pairs.items in
    let kept : take c.args.from c.args.store.now.items ++ drop c.args.from now ≡ now = rw (← c.keep_rising.ensures.before) (take-append-drop c.args.from now) in
    let up : Rising g.K.Ord.cmp now =
    rw (c.new.ensures, c.new-2.ensures, ← c.split_at.ensures.by_index.0, c.deref.ensures.value) at (c.lies_below.ensures.below.0 c.if-lies_below.true) in
    Last-after g.K.Ord.cmp c.args.from c.args.store.now.items g.met.K.Ord.total (drop c.args.from now) now c.in_default.ensures.last
    (rw kept (Last-rising g.K.Ord.cmp now up))

pub returns-in-Ok-clause-last : goal.returns-in-Ok-clause-last
returns-in-Ok-clause-last g c =
    let last = rw (c.in-Ok.ensures.items, c.in-Ok.ensures.tail, c.keep_rising.ensures.before) at c.merge.ensures.last in
    on_ok_weaker c.merge.result
    (λ d. Last-after g.K.Ord.cmp c.args.from c.args.store.now.items g.met.K.Ord.total
    (drop c.args.from c.keep_rising.new.pairs.items) _ c.in_default.ensures.last d) last

pub returns-in-Ok-clause-all_above : goal.returns-in-Ok-clause-all_above
returns-in-Ok-clause-all_above g c = λ h. absurd (mixed g (goal.at.returns-in-Ok-clause-all_above g c).After-split_off h)

pub returns-in-Ok-clause-succeeds : goal.returns-in-Ok-clause-succeeds
returns-in-Ok-clause-succeeds g c = λ h. absurd (mixed g (goal.at.returns-in-Ok-clause-succeeds g c).After-split_off h)
