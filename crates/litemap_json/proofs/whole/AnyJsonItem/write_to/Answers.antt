use Rattle.std.proofs.Common.{◌≡◌, arith, pos, refl, rules}
use Rattle.std.proofs.lemmas.Result.{on_ok_weaker}
use Rattle.litemap_json.specs.Item.{whole_json}
use Rattle.litemap_json.proofs.Tokens.{writes_unsigned}
use Rattle.litemap_json.proofs.whole.AnyJsonItem.write_to.Goals as goal

pub returns-in-Ok-clause-tree : goal.returns-in-Ok-clause-tree
returns-in-Ok-clause-tree g c =
    let same : g.T.Whole.kind.number c.args.self.now ≡ pos c.in-Ok.number = search rules in
    on_ok_weaker c.u64.result
    (writes_unsigned (whole_json (g.T.Whole.kind.number c.args.self.now)) c.in-Ok.number c.args.out.now.tokens c.u64.new.self.tokens (omega arith)
    (rw same refl)) c.u64.ensures.ok
