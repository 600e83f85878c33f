use Rattle.litemap.proofs.Common.{◌∙◌, ap, on_ok_weaker}
use Rattle.std.specs.Map.{keys_of}
use Rattle.std.specs.Prelude.{map}
use Rattle.litemap.proofs.Callable.{on_values}
use Rattle.litemap.proofs.TryWriting.{keys-written_until, map-written_until}
use Rattle.litemap.proofs.Writing.{Rising-keys}
use Rattle.litemap.proofs.map.LiteMap.try_update.Goals as goal

pub invariant_of-self : goal.invariant_of-self
invariant_of-self g c =
    Rising-keys g.K.Ord.cmp (g.S.Store.pairs c.self.inside.store) _
    (keys-written_until g.F.FnMut c.args.f _ _ _ c.try_write_each.ensures.written) c.self.invariant

pub returns-clause-keys : goal.returns-clause-keys
returns-clause-keys g c =
    keys-written_until g.F.FnMut c.args.f _ _ _ c.try_write_each.ensures.written ∙ ap (λ m. keys_of m.entries) c.self.view_is

pub returns-clause-mapped : goal.returns-clause-mapped
returns-clause-mapped g c = λ write s.
    on_ok_weaker c.try_write_each.result (λ e. e ∙ ap (λ m. map (λ p. (p.0, write p.0 p.1)) m.entries) c.self.view_is)
    (map-written_until g.F.FnMut c.args.f write s _ _ _ c.try_write_each.ensures.written)

pub try_write_each-requires : goal.try_write_each-requires
try_write_each-requires g c = on_values g.met.K.Ord.total _ _ (ap (λ m. m.entries) c.self.view_is) c.self.invariant c.args.f g.F.FnMut c.requires
