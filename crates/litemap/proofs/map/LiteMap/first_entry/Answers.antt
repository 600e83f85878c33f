use Rattle.litemap.proofs.Common.{refl, rules}
use Rattle.litemap.proofs.Updating.{updates_set}
use Rattle.litemap.proofs.map.LiteMap.first_entry.Goals as goal

pub returns : goal.returns
returns g c = (
  (refl, λ w. refl, tt),
  record {
    there = search rules;
    entry = record {
      key = refl;
      value = refl;
      writes = λ v. refl;
      removes = refl;
      updates = λ p v there. updates_set g.met.K.Ord.total c.args.self.now.entries c.keys_ascend.ensures.rising 0 p there v;
    };
    same_map = refl;
    unchanged = refl;
    rests = tt;
  },
)
