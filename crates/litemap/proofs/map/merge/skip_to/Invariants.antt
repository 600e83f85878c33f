use Rattle.litemap.proofs.Common.{◌≡◌, ◌+◌, ◌≤◌, is_some, length, GoesOn, Rising, above, at}
use Rattle.litemap.proofs.map.merge.skip_to.Given as goal

abbrev pub invariant-loop-there : goal.invariant-loop-there
invariant-loop-there g l =
    let cmp = g.K.Ord.cmp in
    record {
      rising : Rising cmp l.fn.rest → Rising cmp l.rest;
      there : is_some (at cmp l.rest l.key) ≡ is_some (at cmp l.fn.rest l.key);
      rest : above cmp l.rest l.key ≡ above cmp l.fn.rest l.key;
      counted : GoesOn l.fn.count l.count;
      cost : l.count.total + length l.rest ≤ l.fn.count.total + length l.fn.rest;
    }

abbrev pub decreases-loop-there : goal.decreases-loop-there
decreases-loop-there g l = length l.rest
