use Rattle.litemap_store.proofs.Names.{◌∙◌, ◌∷◌, ◌≡◌, ap, arith, length, rules, suc}
use Rattle.litemap_store.proofs.Merging.Steps.{MergedUpTo-all, MergedUpTo-more, MergedUpTo-none}
use Rattle.litemap_store.proofs.merge.one_by_one.merge_one_by_one.Goals as goal

pub loop-key-init : goal.loop-key-init
loop-key-init g c =
    let all = ap g.S.KeyValueIntoIter.PairIntoIter.owned c.into_iter-key-iterator.ensures.into_iter_gives ∙ c.lm_into_iter-key-items.ensures in record {
      can = g.met.S.KeyValueIntoIter.PairIntoIter.can _;
      ends = search rules;
      so_far = rw c.reserve.ensures.pairs (MergedUpTo-none g.K.Ord.cmp g.met.K.Ord.total _ _ _ _ _ c.requires.store all c.in-Ok.ensures.empty);
      room = rw all (omega (arith, c.lm_len-len.ensures, c.in_default.ensures.room));
      rest_room = rw all (omega (arith, c.lm_len-len.ensures, c.in-Ok.ensures.room));
    }

pub loop-key-preserved : goal.loop-key-preserved
loop-key-preserved g c =
    let owned = g.S.KeyValueIntoIter.PairIntoIter.owned in
    let first : owned c.loop-key.key-iterator ≡ (c.in-Some.key, c.in-Some.value) ∷ owned c.next.new.self =
    g.met.S.KeyValueIntoIter.PairIntoIter.first _ _ _ c.in-Some.ensures.steps in
    let shorter : length (owned c.loop-key.key-iterator) ≡ suc (length (owned c.next.new.self)) = ap length first in
    let room = c.loop-key.invariant.room in let rest_room = c.loop-key.invariant.rest_room in
    let after = c.put_in.ensures.room in let rest_after = c.put_in.ensures.rest_room in
    record {
      can = g.met.S.KeyValueIntoIter.PairIntoIter.can _;
      ends = search rules;
      so_far = MergedUpTo-more g.K.Ord.cmp g.met.K.Ord.total _ _ _ _ _ _ _ _ _
          (c.in-Some.key, c.in-Some.value) _ _ _ c.requires.other c.loop-key.invariant.so_far first c.put_in.ensures.put c.put_in.ensures.rest
          c.put_in.ensures.cost;
      room = omega arith;
      rest_room = omega arith;
    }

pub put_in-requires : goal.put_in-requires
put_in-requires g c =
    let shorter = ap length (g.met.S.KeyValueIntoIter.PairIntoIter.first _ _ _ c.in-Some.ensures.steps) in
    let room = c.loop-key.invariant.room in let rest_room = c.loop-key.invariant.rest_room in
    record { store = c.loop-key.invariant.so_far.merged.rising; room = omega arith; rest_room = omega arith }

pub returns : goal.returns
returns g c =
    let none = g.met.S.KeyValueIntoIter.PairIntoIter.first _ _ _ c.in-None.ensures.steps in
    let all = MergedUpTo-all g.K.Ord.cmp g.met.K.Ord.total _ _ _ _ _ _ _ _ c.loop-key.invariant.so_far none.0 in
    record {
      merges = record {
        merged = all.0;
        none = rw all.1.0 at c.unless_empty.ensures.none;
        left = rw all.1.0 at c.unless_empty.ensures.some;
        unchanged = tt;
        back =
            tt;
      };
      cost = all.1.1;
      refusal = tt;
    }
