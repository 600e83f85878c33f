use Rattle.litemap.proofs.Common.{◌≡◌, ◌-◌, length, ap, deref_pair, option_map, rules, slice_get}
use Rattle.litemap_store.proofs.Lists.Joined.{empty_from_last}
use Rattle.litemap.proofs.Queried.{empty_there, found_there, greatest_there}
use Rattle.litemap.proofs.map.LiteMap.last.Goals as goal

pub returns-clause-found : goal.returns-clause-found
returns-clause-found g c =
    let there : option_map deref_pair c.lm_last.result ≡ slice_get c.args.self.now.entries (length c.args.self.now.entries - 1) = search rules in
    found_there g.met.K.Ord.total c.args.self.now.entries (rw (ap (λ m. m.entries) c.self.view_is) at c.self.invariant)
    (length c.args.self.now.entries - 1) c.lm_last.result there

pub returns-clause-greatest : goal.returns-clause-greatest
returns-clause-greatest g c =
    let there : option_map deref_pair c.lm_last.result ≡ slice_get c.args.self.now.entries (length c.args.self.now.entries - 1) = search rules in
    greatest_there g.met.K.Ord.total c.args.self.now.entries (rw (ap (λ m. m.entries) c.self.view_is) at c.self.invariant) c.lm_last.result there

pub returns-clause-empty : goal.returns-clause-empty
returns-clause-empty g c = λ none.
    let there : option_map deref_pair c.lm_last.result ≡ slice_get c.args.self.now.entries (length c.args.self.now.entries - 1) = search rules in
    empty_from_last c.args.self.now.entries (empty_there c.lm_last.result _ none there)
