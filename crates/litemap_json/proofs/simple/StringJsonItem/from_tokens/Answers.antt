use Rattle.std.proofs.Common.{rules}
use Rattle.litemap_json.proofs.FirstItem.{text_taken}
use Rattle.litemap_json.proofs.simple.StringJsonItem.from_tokens.Goals as goal

pub returns-in-Ok-clause-taken : goal.returns-in-Ok-clause-taken
returns-in-Ok-clause-taken c =
    text_taken c.args._depth c.in-Ok.text.now c.args.reader.now c.next_string.new.reader c.copy_of.result (search rules) c.copy_of.ensures
