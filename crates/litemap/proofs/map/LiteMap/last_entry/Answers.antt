use Rattle.litemap.proofs.Common.{◌≡◌, ◌-◌, length, refl, rules}
use Rattle.litemap.proofs.Updating.{updates_set}
use Rattle.litemap.proofs.map.LiteMap.last_entry.Goals as goal

pub returns : goal.returns
returns g c =
    let pairs = c.args.self.now.entries in
    let last : c.in_ok-index.index ≡ length pairs - 1 = rw c.len.ensures.len at c.in_ok-index.ensures.1 in (
      (refl, λ w. refl, tt),
      record {
        there = search rules;
        entry = record {
          key = rw last refl;
          value = rw last refl;
          writes = λ v. rw last refl;
          removes = rw last refl;
          updates = λ p v there. updates_set g.met.K.Ord.total pairs c.len.ensures.rising c.in_ok-index.index p (rw last there) v;
        };
        same_map = refl;
        unchanged = refl;
        rests = tt;
      },
    )
