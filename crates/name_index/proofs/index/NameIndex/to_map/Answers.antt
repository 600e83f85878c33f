use Rattle.std.proofs.Common.{◌≡◌, map, rules}
use Rattle.name_table.specs.Positions.{shown}
use Rattle.name_table.proofs.ReadAgain.{shown_rise}
use Rattle.name_index.proofs.index.NameIndex.to_map.Goals as goal

pub from_sorted_store_unchecked-requires : goal.from_sorted_store_unchecked-requires
from_sorted_store_unchecked-requires c =
    let all : map shown c.loop-pair.pairs.items ≡ c.args.self.now = search rules in
    (shown_rise c.loop-pair.pairs.items).1 (rw all c.number.ensures.rises)
