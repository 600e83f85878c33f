use Rattle.std.proofs.Common.{rules}
use Rattle.litemap_json.proofs.FirstItem.{whole_taken}
use Rattle.litemap_json.proofs.whole.AnyJsonItem.from_tokens.Goals as goal

pub returns-in-Ok-clause-taken : goal.returns-in-Ok-clause-taken
returns-in-Ok-clause-taken g c =
    whole_taken g.T.Whole.kind.number g.T.Whole.kind.fits c.args._depth c.in-Ok.text.now c.args.reader.now c.next_number.new.reader c.fitting.result
    (search rules) c.fitting.ensures
