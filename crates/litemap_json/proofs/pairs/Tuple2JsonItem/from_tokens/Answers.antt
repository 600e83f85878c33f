use Rattle.std.proofs.Common.{◌≡◌, ◌<◌, Some, arith, rules}
use Rattle.litemap_json.specs.Taken.{after_begin_array}
use Rattle.litemap_json.proofs.TwoTaken.{pair_taken}
use Rattle.litemap_json.proofs.pairs.Tuple2JsonItem.from_tokens.Goals as goal

pub returns-clause-taken : goal.returns-clause-taken
returns-clause-taken g c =
    let some : 0 < c.args.depth = grind arith in
    let begins : after_begin_array c.args.reader.now ≡ Some c.begin_array.new.reader = search rules in
    pair_taken g.A.JsonItem.item g.B.JsonItem.item _ c.args.depth c.args.reader.now c.begin_array.new.reader c.two_in.result some begins c.two_in.ensures.taken
