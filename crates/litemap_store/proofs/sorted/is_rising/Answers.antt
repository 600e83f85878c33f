use Rattle.litemap_store.proofs.Names.{◌-◌, arith, common_steps, rules}
use Rattle.litemap_store.proofs.Lists.Joined.{adjacent_from_Rising, Rising-from_adjacent}
use Rattle.litemap_store.proofs.sorted.is_rising.Goals as goal

pub returns-then-is_ge-clause-rising : goal.returns-then-is_ge-clause-rising
returns-then-is_ge-clause-rising g c = (
  λ f. cc,
  λ h. let a = adjacent_from_Rising g.K.Ord.cmp c.args.pairs.now h (c.loop-i.i - 1) c.index-pairs-i.result (omega arith) in
      grind (arith, common_steps, a),
)

pub returns-clause-rising : goal.returns-clause-rising
returns-clause-rising g c =
    (λ _. Rising-from_adjacent g.K.Ord.cmp g.met.K.Ord.total c.args.pairs.now (λ k d h. c.loop-i.invariant.near k d (omega arith)), λ h. search rules)

pub loop-i-preserved : goal.loop-i-preserved
loop-i-preserved g c = grind (arith, common_steps)
