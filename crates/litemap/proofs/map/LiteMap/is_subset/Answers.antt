use Rattle.litemap.proofs.Common.{◌∙◌, sym}
use Rattle.litemap.proofs.Sets.{found_in_each}
use Rattle.litemap.proofs.map.LiteMap.is_subset.Goals as goal

pub returns-clause-found : goal.returns-clause-found
returns-clause-found g c = λ yes key.
    found_in_each g.met.K.Ord.total c.args.other.now.entries key c.args.self.now.entries (sym c.is_subset_counted.ensures.all ∙ yes)
