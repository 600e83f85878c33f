use Rattle.std.proofs.Common.{◌≡◌}
use Rattle.litemap_store.proofs.Callers.HandedOver.{rebuilt}
use Rattle.example_uses.proofs.stores.moved.Goals as goal

pub returns : goal.returns
returns g c =
    rebuilt g.met.K.Ord.total (λ m it. g.S.KeyValueIntoIter.PairIntoIter.owned it ≡ m.entries) _ g.S.KeyValueIntoIter.PairIntoIter.owned
    g.met.S.KeyValueIntoIter.PairIntoIter.first (λ m. m.entries) (λ m it h. h) c.args.map _ c.keys_ascend.ensures.rising c.in_ok-from_iter.ensures.made
