use Rattle.litemap.proofs.Common.{◌≡◌, ◌+◌, ◌≤◌, is_some, length, list_all, GoesOn, Rising, at}
use Rattle.litemap.proofs.map.LiteMap.is_subset_counted.Given as goal

abbrev pub invariant-loop-key : goal.invariant-loop-key
invariant-loop-key g l =
    let cmp = g.K.Ord.cmp in
    record {
      rest_rises : Rising cmp l.rest;
      keys_ascend : Rising cmp l.keys;
      all : list_all (λ p. is_some (at cmp l.rest p.0)) l.keys ≡ list_all (λ p. is_some (at cmp l.initial.rest p.0)) l.initial.keys;
      counted : GoesOn l.fn.count l.count;
      cost : l.count.total + (length l.keys + length l.rest) ≤ l.fn.count.total + (length l.initial.keys + length l.initial.rest);
    }

abbrev pub decreases-loop-key : goal.decreases-loop-key
decreases-loop-key g l = length l.keys
