use Rattle.litemap.proofs.Common.{◌∙◌, ap, map, keys_of}
use Rattle.litemap.proofs.Writing.{Rising-keys, keys-written, map-written}
use Rattle.litemap.proofs.Callable.{on_values}
use Rattle.litemap.proofs.Queried.{leaves_of}
use Rattle.litemap.proofs.map.LiteMap.update.Goals as goal

pub invariant_of-self : goal.invariant_of-self
invariant_of-self g c =
    let old = g.S.Store.pairs c.self.inside.store in
    let new = g.S.Store.pairs c.write_each.new.store in
    Rising-keys g.K.Ord.cmp old new (keys-written g.F.FnMut c.args.f old new c.write_each.ensures.written) c.self.invariant

pub returns-clause-mapped : goal.returns-clause-mapped
returns-clause-mapped g c = λ write writes.
    map-written g.F.FnMut c.args.f write writes _ _ c.write_each.ensures.written ∙ ap (map (λ p. (p.0, write p.0 p.1))) (ap (λ m. m.entries) c.self.view_is)

pub returns-clause-keys : goal.returns-clause-keys
returns-clause-keys g c =
    keys-written g.F.FnMut c.args.f _ _ c.write_each.ensures.written ∙ ap keys_of (ap (λ m. m.entries) c.self.view_is)

pub returns-clause-leaves : goal.returns-clause-leaves
returns-clause-leaves g c = leaves_of g.F.FnMut c.args.f _ _ _ c.write_each.ensures.written (ap (λ m. m.entries) c.self.view_is)

pub write_each-requires : goal.write_each-requires
write_each-requires g c = on_values g.met.K.Ord.total _ _ (ap (λ m. m.entries) c.self.view_is) c.self.invariant c.args.f g.F.FnMut c.requires
