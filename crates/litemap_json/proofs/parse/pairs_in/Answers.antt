use Rattle.std.proofs.Common.{rules}
use Rattle.std.proofs.lemmas.Result.{err_from_is_err_and}
use Rattle.litemap_json.proofs.Turns.{opened_some}
use Rattle.litemap_json.proofs.parse.pairs_in.Goals as goal

pub returns-in_err-found-clause-refused_some : goal.returns-in_err-found-clause-refused_some
returns-in_err-found-clause-refused_some g c =
    let stopped = err_from_is_err_and c.from_residual-in_err-found.result c.from_residual-in_err-found.ensures.1 in
    rw stopped.1 (λ _. opened_some c.args.text.now (c.in-Some.in_object, c.open.new.reader) (search rules))
