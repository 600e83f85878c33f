use Rattle.litemap_store.proofs.Names.{◌*◌, ◌++◌, ◌+◌, ◌-◌, ◌∙◌, ◌≡◌, ◌≤◌, ap, arith, digits, digits-mono, drop, IsPutIn, length, length-drop}
use Rattle.litemap_store.proofs.Names.{refl, Rising, subst, suc, suc-mul, take, take-append-drop, take_at, vec_len}
use Rattle.litemap_store.proofs.Lists.Joined.{not_above}
use Rattle.litemap_store.proofs.Stores.Counting.{at_most, in_turn, not_asked}
use Rattle.litemap_store.proofs.Last.Pairs.{Last-rising}
use Rattle.litemap_store.proofs.Last.OneByOne.{kept_put}
use Rattle.litemap_store.proofs.bulk.few.settle_few.Goals as goal

pub returns-then-is_rising_from-clause-last : goal.returns-then-is_rising_from-clause-last
returns-then-is_rising_from-clause-last g c =
    Last-rising g.K.Ord.cmp _ (rw c.deref.ensures.value at (c.is_rising_from.ensures.rising.0 c.if-is_rising_from.true))

pub returns-clause-all_above : goal.returns-clause-all_above
returns-clause-all_above g c = λ h.
    let L = c.args.store.now.items in
    absurd (not_above g.K.Ord.cmp (take c.args.from L) (drop c.args.from L) c.is_rising_from.result c.requires.rising
    (λ up. c.is_rising_from.ensures.rising.1 (rw c.deref.ensures.value (subst (Rising g.K.Ord.cmp) (take-append-drop c.args.from L) up)))
    c.if-is_rising_from.false h)

pub put_next-kept-requires-clause-rising : goal.put_next-kept-requires-clause-rising
put_next-kept-requires-clause-rising g c = rw c.deref_mut.ensures.value c.loop-at.invariant.kept.last.rising

pub returns-clause-cost : goal.returns-clause-cost
returns-clause-cost g c =
    let L = c.args.store.now in let end : c.loop-at.at ≡ vec_len L = omega arith in
    in_turn (length (drop c.args.from L.items)) ((vec_len L - c.args.from) * digits (vec_len L)) _
    (omega (arith, c.requires.few, length-drop c.args.from L.items, L.ok.0)) (rw c.deref.ensures.value at c.is_rising_from.ensures.cost)
    (rw end at c.loop-at.invariant.cost)

pub loop-at-init : goal.loop-at-init
loop-at-init g c = record {
  start = omega arith;
  before = omega arith;
  kept = record { long = refl; last = Last-rising g.K.Ord.cmp _ c.requires.rising; rest = refl };
  cost = at_most 0 _ (omega arith) (not_asked _);
}

pub loop-at-preserved : goal.loop-at-preserved
loop-at-preserved g c =
    let inv = c.loop-at.invariant in
    let items = c.loop-at.store.items in
    let now = c.put_next-kept.new.pairs in
    let value = c.deref_mut.ensures.value in
    let within = c.put_next-kept.ensures.within in
    let put : IsPutIn g.K.Ord.cmp items now c.loop-at.kept c.put_next-kept.result c.loop-at.at = rw value at c.put_next-kept.ensures.put in
    let same : length now ≡ length items = c.put_next-kept.ensures.len ∙ ap length value in
    let whole : take c.loop-at.store.len (now ++ drop (length now) items) ≡ now = take_at now _ c.loop-at.store.len (omega (arith, c.loop-at.store.ok.0)) in
    let all = vec_len c.args.store.now in
    let before = inv.before in let start = inv.start in
    let low : digits c.loop-at.kept ≤ digits all = digits-mono c.loop-at.kept all (omega arith) in
    let more : c.loop-at.at + 1 - c.args.from ≡ suc (c.loop-at.at - c.args.from) = omega arith in
    let sum : (c.loop-at.at + 1 - c.args.from) * digits all ≡ (c.loop-at.at - c.args.from) * digits all + digits all =
    ap (λ n. n * digits all) more ∙ suc-mul (c.loop-at.at - c.args.from) (digits all) in
    record {
      start = omega arith;
      before = omega arith;
      kept = rw whole (kept_put g.K.Ord.cmp g.met.K.Ord.total _ items now c.loop-at.kept c.put_next-kept.result c.loop-at.at inv.kept same put);
      cost = in_turn _ (digits c.loop-at.kept) _ (omega arith) inv.cost c.put_next-kept.ensures.cost;
    }
