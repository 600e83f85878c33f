use Rattle.litemap.proofs.Common.{◌∙◌, ap, keys_of}
use Rattle.litemap.proofs.Lending.{keys-set_values}
use Rattle.litemap.proofs.Writing.{Rising-keys}
use Rattle.litemap.proofs.map.LiteMap.values_mut_slice.Goals as goal

pub invariant_of-self-lent : goal.invariant_of-self-lent
invariant_of-self-lent g c =
    λ w. let store = c.self.inside.store in
    Rising-keys g.K.Ord.cmp (g.S.Store.pairs store) _ (ap keys_of (g.met.S.StoreColumns.writes_all store w) ∙ keys-set_values (g.S.Store.pairs store) w)
    c.self.invariant
