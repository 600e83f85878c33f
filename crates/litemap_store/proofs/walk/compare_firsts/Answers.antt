use Rattle.litemap_store.proofs.Names.{sym}
use Rattle.std.specs.Map.Iter.{deref_pair}
use Rattle.litemap_store.proofs.Merging.Walking.{lower_from_cmp, lower_new, lower_old}
use Rattle.litemap_store.proofs.walk.compare_firsts.Goals as goal

pub returns-in_default-clause-lower : goal.returns-in_default-clause-lower
returns-in_default-clause-lower g c =
    rw (c.then_some.ensures, c.is_some.ensures)
    (lower_new g.K.Ord.cmp g.met.K.Ord.total c.args.olds.now c.args.news.now deref_pair c.peek-in_default.result
    (sym c.in_default.ensures) c.peek-in_default.ensures)

pub returns-in_default-peek-clause-lower : goal.returns-in_default-peek-clause-lower
returns-in_default-peek-clause-lower g c =
    lower_old g.K.Ord.cmp g.met.K.Ord.total c.args.olds.now c.args.news.now (c.in-Some.old.now, c.in-Some.field-0-1.now) (sym c.in-Some.ensures)
    (sym c.in_default-peek.ensures)

pub returns-clause-lower : goal.returns-clause-lower
returns-clause-lower g c =
    lower_from_cmp g.K.Ord.cmp g.met.K.Ord.total c.args.olds.now c.args.news.now (c.in-Some.old.now, c.in-Some.field-0-1.now)
    (c.in-Some-peek.new.now, c.in-Some-peek.field-0-1.now) c.cmp.result c.requires.olds c.requires.news (sym c.in-Some.ensures)
    (sym c.in-Some-peek.ensures) c.cmp.ensures.answer
