use Rattle.litemap.proofs.Common.{◌∙◌, Rising, ap, filter, subst}
use Rattle.std.specs.Prelude.{map}
use Rattle.litemap.specs.KeptWritten.{KeptWritten}
use Rattle.litemap.proofs.Callable.{on_values}
use Rattle.litemap.proofs.KeptWriting.{Rising-kept_written, map-kept_written}
use Rattle.litemap.proofs.map.LiteMap.retain_mut.Goals as goal

pub invariant_of-self : goal.invariant_of-self
invariant_of-self g c =
    Rising-kept_written g.K.Ord.cmp g.F.FnMut c.args.f (g.S.Store.pairs c.self.inside.store) _ c.retain_written.ensures.kept c.self.invariant

pub returns-clause-mapped : goal.returns-clause-mapped
returns-clause-mapped g c = λ write test s.
    map-kept_written g.F.FnMut write test c.args.f s _ _ c.retain_written.ensures.kept
    ∙ ap (λ m. map (λ p. (p.0, write p.0 p.1)) (filter (λ p. test p.0 p.1) m.entries)) c.self.view_is

pub retain_written-requires : goal.retain_written-requires
retain_written-requires g c = on_values g.met.K.Ord.total _ _ (ap (λ m. m.entries) c.self.view_is) c.self.invariant c.args.f g.F.FnMut c.requires

pub returns-clause-kept : goal.returns-clause-kept
returns-clause-kept g c = let same = ap (λ m. m.entries) c.self.view_is in record {
  in_turn = subst (λ N. KeptWritten g.F.FnMut c.args.f N (g.S.Store.pairs c.retain_written.new.store)) same c.retain_written.ensures.kept;
  rising = subst (λ N. Rising g.K.Ord.cmp N) same c.self.invariant;
  total = g.met.K.Ord.total;
}
