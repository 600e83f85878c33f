use Rattle.std.proofs.Common.{rules}
use Rattle.litemap.proofs.Hashed.{key_found}
use Rattle.example_uses.proofs.visits.number_of.Goals as goal

pub returns : goal.returns
returns g c =
    let same = key_found c.args.numbers.now.entries c.args.key.now g.met.K.Ord.total g.met.K.Ord.matches_eq in
    search (rules, same)
