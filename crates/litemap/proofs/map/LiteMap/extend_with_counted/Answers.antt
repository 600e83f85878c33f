use Rattle.litemap.proofs.Common.{◌+◌, ◌*◌, ◌∙◌, ap, length, arith, digits, in_turn, key_alike, key_same, on_ok_weaker, rules, subst, with_pairs}
use Rattle.litemap.specs.Changes.{IsMergedInto}
use Rattle.litemap.proofs.Combining.{callable_each, combined-from, keys-combined, length-combined, value_at-combined}
use Rattle.litemap.proofs.Writing.{Rising-keys}
use Rattle.litemap.proofs.map.LiteMap.extend_with_counted.Goals as goal

pub combine_each-requires : goal.combine_each-requires
combine_each-requires g c =
    callable_each g.F.Fn c.args.f g.K.Ord.cmp c.args.self.now.entries g.met.K.Ord.total _ c.other.invariant (rw (← c.other.view_is) at c.requires)

pub from_sorted_store_unchecked-combined-requires : goal.from_sorted_store_unchecked-combined-requires
from_sorted_store_unchecked-combined-requires g c =
    Rising-keys g.K.Ord.cmp _ _ (keys-combined g.F.Fn c.args.f g.K.Ord.cmp c.args.self.now.entries _ _ c.combine_each.ensures.combined) c.other.invariant

pub returns-clause-cost : goal.returns-clause-cost
returns-clause-cost g c =
    let n = length c.args.self.now.entries in
    let m = length c.args.other.entries in
    let same = ap length c.from_sorted_store_unchecked-combined.ensures.pairs
    ∙ length-combined g.F.Fn c.args.f g.K.Ord.cmp c.args.self.now.entries _ _ c.combine_each.ensures.combined ∙ ap (λ o. length o.entries) c.other.view_is in
    let merge = rw same at c.extend_from_litemap_counted.ensures.cost in
    let searches = rw (ap (λ o. length o.entries) c.other.view_is) at c.combine_each.ensures.cost in
    in_turn (m * digits n) (2 + m * digits (n + m)) _ (omega arith) searches merge

pub returns-clause-merged : goal.returns-clause-merged
returns-clause-merged g c = search rules

pub returns-clause-combined : goal.returns-clause-combined
returns-clause-combined g c = λ combine by.
    let given = returns-clause-merged g c in
    let cmp = g.K.Ord.cmp in
    let is = combined-from g.F.Fn c.args.f cmp c.args.self.now.entries combine by c.args.other.entries given.0 given.1 in
    let merge = c.extend_from_litemap_counted in
    subst (λ J. IsMergedInto cmp (with_pairs c.args.other J) c.args.self.now merge.new.self merge.result) is given.2

pub returns-clause-found : goal.returns-clause-found
returns-clause-found g c = λ combine by.
    let cmp = g.K.Ord.cmp in
    let o = g.met.K.Ord.total in
    let old = c.args.self.now.entries in
    on_ok_weaker c.extend_from_litemap_counted.result
    (λ merged key. value_at-combined cmp o cmp key (key_same o key) (key_alike o key) combine old c.args.other.entries _ merged)
    (returns-clause-combined g c combine by).merges.merged
