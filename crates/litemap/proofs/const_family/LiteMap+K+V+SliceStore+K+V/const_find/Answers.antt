use Rattle.litemap.proofs.Common.{sym, ap, ◌∙◌, option_map, found_value, found_within}
use Rattle.litemap.proofs.const_family.LiteMap+K+V+SliceStore+K+V.const_find.Goals as goal

pub returns-in-Err-clause-found : goal.returns-in-Err-clause-found
returns-in-Err-clause-found g c = record {
  value = sym (ap (option_map (λ p. p.1)) c.in-Err.ensures.splits.missing);
  place = tt;
  within = tt;
  there = tt;
}

pub returns-in-Ok-clause-found : goal.returns-in-Ok-clause-found
returns-in-Ok-clause-found g c =
    let pairs = c.args.self.now.entries in
    let sought = g.Q.Query.sought c.args.key in
    let found = c.in-Ok.ensures.splits in
    let there = ap (option_map (λ p. p.1)) c.const_get_indexed_or_panic.ensures in
    record {
      value = sym there ∙ found_value g.Q.Query.order pairs sought c.in-Ok.index found;
      place = found.place;
      within = found_within g.Q.Query.order pairs sought c.in-Ok.index found;
      there = there;
    }

pub const_get_indexed_or_panic-requires : goal.const_get_indexed_or_panic-requires
const_get_indexed_or_panic-requires g c =
    found_within g.Q.Query.order c.args.self.now.entries (g.Q.Query.sought c.args.key) c.in-Ok.index c.in-Ok.ensures.splits
