use Rattle.litemap_store.proofs.Names.{◌+◌, ◌-◌, ◌/◌, ◌∙◌, ◌≡◌, ◌≤◌, ap, arith, cond, digits, digits-halved, is_eq, is_lt, length}
use Rattle.litemap_store.proofs.Names.{nat_le, refl}
use Rattle.litemap_store.proofs.Search.Halving.{Seen-next, FindsEqual-nowhere, hit_next, takes, takes_next, next, left_next, left_after}
use Rattle.litemap_store.proofs.slice_search.find.Goals as goal

pub ask-order-requires : goal.ask-order-requires
ask-order-requires g c =
    let list = g.S.Keys.pairs c.args.keys.now in
    let m = c.loop-left.low + (c.loop-left.left - c.loop-left.left / 2) - 1 in
    let key = c.key_at-key.result.now in
    let (value, e) = c.key_at-key.ensures in
    let d : digits 0 + 1 ≤ digits c.loop-left.left = digits-halved 0 _ (omega arith) (omega arith) in
    takes g.F.FnMut list _ m c.loop-left.f key value (omega arith) c.loop-left.invariant.callable e

pub loop-left-preserved : goal.loop-left-preserved
loop-left-preserved g c =
    let list = g.S.Keys.pairs c.args.keys.now in
    let low = c.loop-left.low in
    let left = c.loop-left.left in
    let m = low + (left - left / 2) - 1 in
    let key = c.key_at-key.result.now in
    let small = nat_le c.size_of_val-is_small.result 8 in
    let order = c.ask-order.result in
    let inv = c.loop-left.invariant in
    let (value, e) = c.key_at-key.ensures in
    let called = c.ask-order.ensures.called in
    let t = left_next small order low left (length list) inv.within (omega arith) in
    let is_low : c.choose-low.result ≡ cond (is_lt order) (low + (left - left / 2)) low =
    c.choose-low.ensures ∙ ap (λ b. cond b (low + (left - left / 2)) low) c.is_lt-is_less.ensures in
    let is_hit : c.choose-hit.result ≡ cond (is_eq order) (low + (left - left / 2)) c.loop-left.hit =
    c.choose-hit.ensures ∙ ap (λ b. cond b (low + (left - left / 2)) c.loop-left.hit) c.is_eq-is_equal.ensures in
    let is_left : c.choose-left.result ≡ left_after small order left =
    rw (c.choose-left.ensures, c.choose.ensures, c.choose-before.ensures, c.choose-rest.ensures, c.is_lt-is_less.ensures, c.is_eq-is_equal.ensures)
    (refl {a = left_after small order left}) in
    let d : digits c.choose-left.result + 1 ≤ digits left = rw is_left t.1 in
    let k = c.ask-order.ensures.counted in
    record {
      within = rw (is_low, is_left) t.0;
      hit_within = rw is_hit (hit_next order low left (length list) c.loop-left.hit inv.within (omega arith) inv.hit_within);
      callable = takes_next g.F.FnMut list _ _ m _ key value _ _ d inv.callable e called;
      seen = λ ord sh. let old = inv.seen ord sh in let n = next g.F.FnMut list ord _ _ m _ key value _ _ d old.0 e called in
          (n.1, rw (is_hit, is_low, is_left) (Seen-next ord list old.0.ascends small c.loop-left.hit low left key value order (omega arith) e old.1 n.0));
      same = c.ask-order.ensures.same ∙ inv.same;
      not_lowered = (omega arith, omega (arith, c.ask-order.ensures.refusals));
      cost = omega arith;
    }

pub returns-clause-found : goal.returns-clause-found
returns-clause-found g c =
    let inv = c.loop-left.invariant in
    record {
      at = λ ord sh. FindsEqual-nowhere ord (g.S.Keys.pairs c.args.keys.now) c.loop-left.low (c.loop-left.low + c.loop-left.left) (omega arith) (omega arith)
          ((inv.seen ord sh).1.open_ (omega arith));
    }
