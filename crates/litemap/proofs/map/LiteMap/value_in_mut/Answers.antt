use Rattle.litemap.proofs.Common.{Rising-set_value}
use Rattle.litemap.proofs.map.LiteMap.value_in_mut.Goals as goal

pub invariant_of-self-lent : goal.invariant_of-self-lent
invariant_of-self-lent g c =
    λ w. rw (g.met.S.StoreMut.writes c.self.inside.store c.args.index w) (Rising-set_value g.K.Ord.cmp _ c.args.index w c.self.invariant)
