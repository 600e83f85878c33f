use Rattle.std.proofs.Common.{refl}
use Rattle.std.proofs.lemmas.Result.{on_ok_weaker}
use Rattle.litemap_json.proofs.Tokens.{writes_flag}
use Rattle.serde_json.specs.Data.{boolean}
use Rattle.litemap_json.proofs.simple.BoolJsonItem.write_to.Goals as goal

pub returns-clause-tree : goal.returns-clause-tree
returns-clause-tree c =
    on_ok_weaker c.boolean.result (writes_flag (boolean c.args.self.now) c.args.self.now c.args.out.now.tokens c.boolean.new.self.tokens refl)
    c.boolean.ensures.ok
