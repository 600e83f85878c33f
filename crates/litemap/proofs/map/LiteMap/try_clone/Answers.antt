use Rattle.litemap.proofs.Common.{ap, ◌∙◌}
use Rattle.std.proofs.lemmas.List.Elements.{same_from_all_zip}
use Rattle.litemap.proofs.Conversions.{Rising-clones}
use Rattle.litemap.proofs.map.LiteMap.try_clone.Goals as goal

pub from_sorted_store_unchecked-requires : goal.from_sorted_store_unchecked-requires
from_sorted_store_unchecked-requires g c =
    Rising-clones g.met.K.Ord.total g.K.Clone.is_clone g.V.Clone.is_clone _ _ _
    (ap (λ m. m.entries) c.self.view_is) c.requires c.in_ok-store.ensures.clones c.self.invariant

pub returns-clause-same : goal.returns-clause-same
returns-clause-same g c = λ keys values.
    c.from_sorted_store_unchecked.ensures.pairs
    ∙ same_from_all_zip _ _ _ c.in_ok-store.ensures.clones (λ p q clones.
    ap (λ (k : g.row.K.Denot). let r : g.row.K.Denot × g.row.V.Denot = (k, q.1) in r) (keys p.0 q.0 clones.0)
    ∙ ap (λ (v : g.row.V.Denot). let r : g.row.K.Denot × g.row.V.Denot = (p.0, v) in r) (values p.1 q.1 clones.1))
    ∙ ap (λ m. m.entries) c.self.view_is
