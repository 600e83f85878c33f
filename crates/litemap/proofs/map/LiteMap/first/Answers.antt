use Rattle.litemap.proofs.Common.{◌≡◌, ap, deref_pair, option_map, rules, slice_get}
use Rattle.litemap_store.proofs.Lists.Joined.{empty_from_first}
use Rattle.litemap.proofs.Queried.{empty_there, found_there, least_there}
use Rattle.litemap.proofs.map.LiteMap.first.Goals as goal

pub returns-clause-found : goal.returns-clause-found
returns-clause-found g c =
    let there : option_map deref_pair c.lm_get.result ≡ slice_get c.args.self.now.entries 0 = search rules in
    found_there g.met.K.Ord.total c.args.self.now.entries (rw (ap (λ m. m.entries) c.self.view_is) at c.self.invariant) 0 c.lm_get.result there

pub returns-clause-least : goal.returns-clause-least
returns-clause-least g c =
    let there : option_map deref_pair c.lm_get.result ≡ slice_get c.args.self.now.entries 0 = search rules in
    least_there g.met.K.Ord.total c.args.self.now.entries (rw (ap (λ m. m.entries) c.self.view_is) at c.self.invariant) c.lm_get.result there

pub returns-clause-empty : goal.returns-clause-empty
returns-clause-empty g c = λ none.
    let there : option_map deref_pair c.lm_get.result ≡ slice_get c.args.self.now.entries 0 = search rules in
    empty_from_first c.args.self.now.entries (empty_there c.lm_get.result _ none there)
