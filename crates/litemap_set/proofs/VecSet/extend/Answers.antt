use Rattle.std.specs.Map.{keys_of}
use Rattle.litemap_set.proofs.Keys.{GivesSome-from_more, has_last, on_err}
use Rattle.litemap_set.proofs.VecSet.extend.Goals as goal

pub returns-clause-extended : goal.returns-clause-extended
returns-clause-extended g c = rw (← c.self.view_is) (record {
  given = keys_of c.in_ok-pairs.pairs.items;
  gives = c.in_ok-pairs.ensures.given;
  last = has_last g.met.K.Ord.total c.self.inside.map.entries c.in_ok-pairs.pairs.items c.extend_from_vec.new.self.entries
      c.in_ok-extend_from_vec.ensures.last;
})

pub returns-in_err-extend_from_vec-clause-refused_some : goal.returns-in_err-extend_from_vec-clause-refused_some
returns-in_err-extend_from_vec-clause-refused_some g c =
    on_err c.from_residual-in_err-extend_from_vec.result (GivesSome-from_more g.I.IntoIterator.into_iter_gives g.I.IntoIter.Iterator.next_gives
    c.args.iter g.K.Ord.cmp c.self.inside.map.room c.self.inside.map.entries c.in_ok-pairs.pairs.items c.in_ok-pairs.ensures.given
    (λ rises fits. let ok = c.in_err-extend_from_vec.ensures.succeeds rises fits in cc))
