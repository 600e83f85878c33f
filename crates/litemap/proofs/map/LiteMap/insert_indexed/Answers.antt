use Rattle.litemap.proofs.Common.{Err, Some, on_ok_weaker, subst, sym}
use Rattle.litemap.proofs.Nearest.{missing-index_of}
use Rattle.litemap.proofs.Updating.{places_put, updates_put}
use Rattle.litemap.specs.Updates.{Places, Updates}
use Rattle.litemap.proofs.map.LiteMap.insert_indexed.Goals as goal

pub insert_at-requires : goal.insert_at-requires
insert_at-requires g c = missing-index_of g.met.K.Ord.total _ _ _ c.keys_ascend.ensures.rising c.requires

pub returns-clause-updates : goal.returns-clause-updates
returns-clause-updates g c =
    let missing = missing-index_of g.met.K.Ord.total c.args.self.now.entries c.args.key c.args.index c.keys_ascend.ensures.rising c.requires in
    on_ok_weaker c.insert_at.result
    (λ put. subst (Updates g.K.Ord.cmp c.args.key (Some c.args.value) c.args.self.now.entries) (sym put)
    (updates_put g.met.K.Ord.total c.args.self.now.entries c.args.key c.args.value (Err c.args.index) missing)) c.insert_at.ensures.put

pub returns-clause-places : goal.returns-clause-places
returns-clause-places g c =
    let missing = missing-index_of g.met.K.Ord.total c.args.self.now.entries c.args.key c.args.index c.keys_ascend.ensures.rising c.requires in
    on_ok_weaker c.insert_at.result
    (λ put. subst (Places g.K.Ord.cmp c.args.key (Some c.args.value) c.args.self.now.entries) (sym put)
    (places_put g.met.K.Ord.total c.args.self.now.entries c.args.key c.args.value (Err c.args.index) missing)) c.insert_at.ensures.put
