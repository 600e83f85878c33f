use Rattle.std.proofs.lemmas.Result.{on_ok_weaker}
use Rattle.litemap_json.proofs.Tokens.{writes_two}
use Rattle.litemap_json.proofs.pairs.write_two.Goals as goal

pub returns-clause-tree : goal.returns-clause-tree
returns-clause-tree g c =
    on_ok_weaker c.end_array.result
    (λ e. writes_two (g.A.JsonItem.json c.args.first.now) (g.B.JsonItem.json c.args.second.now) c.args.out.now.tokens c.begin_array.new.self.tokens
    c.write_to.new.out.tokens
    c.write_to-2.new.out.tokens c.end_array.new.self.tokens c.in_ok-begin_array.ensures.ok c.in_ok-write_to.ensures.tree c.in_ok-write_to-2.ensures.tree e)
    c.end_array.ensures.ok
