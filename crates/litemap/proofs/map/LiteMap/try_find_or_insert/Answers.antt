use Rattle.litemap.proofs.Common.{refl, sym, ◌∙◌, at-put, put_get, found_there, found_within}
use Rattle.litemap.proofs.Entries.{within-put}
use Rattle.litemap.proofs.map.LiteMap.try_find_or_insert.Goals as goal

pub returns-in-Ok-insert_at-clause-there : goal.returns-in-Ok-insert_at-clause-there
returns-in-Ok-insert_at-clause-there g c =
    rw (c.in-Ok-insert_at.ensures.put, c.in-Err.ensures.splits.place)
    (put_get g.K.Ord.cmp _ _ _ ∙ sym (at-put g.met.K.Ord.total c.args.key c.args.self.now.entries c.in-Ok-f.value))

pub returns-in-Err-insert_at-clause-errors : goal.returns-in-Err-insert_at-clause-errors
returns-in-Err-insert_at-clause-errors g c = record {
  closure = tt;
  full = c.in-Err-insert_at.ensures.refused.full;
  back = rw c.in-Err-insert_at.ensures.refused.back (refl, (_, c.in-Ok-f.ensures, refl));
}

pub returns-in-Ok-insert_at-clause-within : goal.returns-in-Ok-insert_at-clause-within
returns-in-Ok-insert_at-clause-within g c =
    rw c.in-Ok-insert_at.ensures.put (within-put g.K.Ord.cmp c.args.self.now.entries c.args.key c.in-Ok-f.value c.in-Err.index c.in-Err.ensures.splits.place)

pub returns-in-Ok-clause-there : goal.returns-in-Ok-clause-there
returns-in-Ok-clause-there g c = found_there _ _ _ _ c.in-Ok.ensures.splits

pub returns-in-Ok-clause-within : goal.returns-in-Ok-clause-within
returns-in-Ok-clause-within g c = found_within _ _ _ _ c.in-Ok.ensures.splits
