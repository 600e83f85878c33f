use Rattle.litemap_store.proofs.Names.{ap, append_assoc, arith, length, length-append, reverse-append}
use Rattle.litemap_store.proofs.reserved.put_up.Goals as goal

pub loop-key-preserved : goal.loop-key-preserved
loop-key-preserved g c = let inv = c.loop-key.invariant in let room = c.push_reserved.ensures.room in record {
  list = rw (c.push_reserved.ensures.pairs, append_assoc) (rw (c.in-Some.ensures.items, reverse-append) at inv.list);
  room = omega (arith, simp length-append at (ap length c.in-Some.ensures.items));
}
