use Rattle.litemap.proofs.Common.{◌≡◌, rules, Some, sub, Rising-sub}
use Rattle.litemap.proofs.map.LiteMap.get_indexed_range.Goals as goal

pub from_sorted_store_unchecked-requires : goal.from_sorted_store_unchecked-requires
from_sorted_store_unchecked-requires g c =
    let pairs = g.S.Store.pairs c.self.inside.store in
    let defined : Some c.in_ok-pairs.pairs.now ≡ sub pairs c.args.range.start c.args.range.end = search rules in
    rw c.new.ensures (Rising-sub g.K.Ord.cmp pairs c.args.range.start c.args.range.end c.in_ok-pairs.pairs.now c.self.invariant defined)
