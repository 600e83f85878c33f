use Rattle.litemap_json.proofs.Again.{array_again}
use Rattle.litemap_json.proofs.write.to_json.Goals as goal

pub returns-clause-reads_back : goal.returns-clause-reads_back
returns-clause-reads_back g c =
    rw c.in_ok-array_of.ensures.tree
    (array_again g.K.Ord.cmp g.met.K.Ord.total g.K.JsonKey.text g.K.JsonKey.key g.K.JsonItem.item g.V.JsonItem.item g.K.JsonItem.json g.V.JsonItem.json
    c.args.map.now.entries c.in_ok-array_of.ensures.rising c.in_ok-array_of.ensures.reads_back)
