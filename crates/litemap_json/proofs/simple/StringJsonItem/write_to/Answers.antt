use Rattle.std.proofs.Common.{string_bytes, sym, ap, Some}
use Rattle.std.proofs.lemmas.Result.{on_ok_weaker}
use Rattle.litemap_json.proofs.Tokens.{writes_text}
use Rattle.serde_json.specs.Data.{string}
use Rattle.litemap_json.proofs.simple.StringJsonItem.write_to.Goals as goal

pub returns-clause-tree : goal.returns-clause-tree
returns-clause-tree c =
    on_ok_weaker c.string.result
    (writes_text (string (string_bytes c.args.self.now)) c.as_str.result.now c.args.out.now.tokens c.string.new.self.tokens
    (ap Some (sym c.as_str.ensures.value))) c.string.ensures.ok
