use Rattle.litemap.proofs.Common.{◌≡◌, key_alike, key_same, left, on_ok_weaker, rules, value_at-merged}
use Rattle.litemap_store.proofs.Merging.Merges.{Rising-left}
use Rattle.litemap.proofs.MergedTests.{displaced_by, no_common_by, overlays}
use Rattle.litemap.proofs.map.LiteMap.extend_from_litemap_counted.Goals as goal

pub from_sorted_store_unchecked-requires : goal.from_sorted_store_unchecked-requires
from_sorted_store_unchecked-requires g c =
    let old = g.S.Store.pairs c.self.inside.store in
    let given = g.S.Store.pairs c.other.inside.store in
    let is : g.S.Store.pairs c.in-Ok-Some.rest ≡ left g.K.Ord.cmp old given = rw c.in-Ok-Some.field-0-is at c.in-Ok-Some.ensures.merged.merges.left in
    rw is (Rising-left g.K.Ord.cmp g.met.K.Ord.total old given c.other.invariant)

pub returns-clause-merged : goal.returns-clause-merged
returns-clause-merged g c = search rules

pub returns-clause-found : goal.returns-clause-found
returns-clause-found g c =
    let cmp = g.K.Ord.cmp in
    let o = g.met.K.Ord.total in
    on_ok_weaker c.match-extend_from_store.result
    (λ merged key. value_at-merged cmp o cmp key (key_same o key) (key_alike o key) c.args.self.now.entries c.args.other.entries _ merged)
    (returns-clause-merged g c).merges.merged

pub returns-clause-overlays : goal.returns-clause-overlays
returns-clause-overlays g c =
    on_ok_weaker c.match-extend_from_store.result
    (λ merged. overlays g.K.Ord.cmp g.met.K.Ord.total c.args.self.now.entries c.args.other.entries _ merged)
    (returns-clause-merged g c).merges.merged

pub returns-clause-displaced : goal.returns-clause-displaced
returns-clause-displaced g c =
    displaced_by g.K.Ord.cmp g.met.K.Ord.total c.args.self.now.entries c.args.other.entries c.match-extend_from_store.result
    (returns-clause-merged g c).merges.left

pub returns-clause-none_common : goal.returns-clause-none_common
returns-clause-none_common g c =
    no_common_by g.K.Ord.cmp g.met.K.Ord.total c.args.self.now.entries c.args.other.entries c.match-extend_from_store.result
    (returns-clause-merged g c).merges.none
