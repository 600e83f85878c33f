use Rattle.litemap.proofs.Common.{◌-◌, ◌∙◌, arith, append-nil, drop_all, length, refl, suc, sym}
use Rattle.litemap.proofs.Queried.{is_greatest}
use Rattle.litemap.proofs.map.LiteMap.pop_last.Goals as goal

pub returns-clause-last : goal.returns-clause-last
returns-clause-last g c =
    sym (rw (c.in_ok-index.ensures.1, c.len.ensures.len) at c.take_at.ensures.old)

pub returns-clause-others : goal.returns-clause-others
returns-clause-others g c =
    let L = c.args.self.now.entries in
    c.take_at.ensures.pairs ∙ rw (c.in_ok-index.ensures.1, c.len.ensures.len, drop_all (suc (length L - 1)) L (omega arith), append-nil) refl

pub returns-clause-greatest : goal.returns-clause-greatest
returns-clause-greatest g c = is_greatest g.met.K.Ord.total c.args.self.now.entries c.take_at.result c.take_at.ensures.rising (sym (returns-clause-last g c))
