use Rattle.std.proofs.Common.{arith, refl}
use Rattle.std.proofs.lemmas.Grind.{common_steps}
use Rattle.std.proofs.lemmas.List.{take_all}
use Rattle.litemap_json.proofs.Again.{array_step}
use Rattle.litemap_json.proofs.ByPlace.{at_place}
use Rattle.litemap_json.proofs.write.array_of.Goals as goal

pub loop-place-preserved : goal.loop-place-preserved
loop-place-preserved g c =
    let L = c.args.map.now.entries in
    let x : g.row.K.Denot × g.row.V.Denot = (c.pair_at.result.0.now, c.pair_at.result.1.now) in
    let found = at_place L c.loop-place.place x c.pair_at.ensures in
    record {
      made = grind (arith, common_steps, found.0, found.1);
      readable = array_step g.K.Ord.cmp g.met.K.Ord.total g.K.JsonKey.text g.K.JsonKey.key g.K.JsonItem.item g.V.JsonItem.item g.K.JsonItem.json
          g.V.JsonItem.json
          L c.loop-place.place x found.0 found.1 c.loop-place.invariant.readable c.in_ok-value_of_two.ensures.reads_back;
    }

pub returns-clause-tree : goal.returns-clause-tree
returns-clause-tree g c =
    rw (c.from.ensures, (rw (take_all c.loop-place.place c.args.map.now.entries (omega arith)) at c.loop-place.invariant.made)) refl
