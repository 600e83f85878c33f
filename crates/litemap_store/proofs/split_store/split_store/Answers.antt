use Rattle.litemap_store.proofs.Names.{ap, arith, drop, length, length-drop, append-nil, refl}
use Rattle.litemap_store.proofs.Merging.Down.{length-after}
use Rattle.litemap_store.proofs.split_store.split_store.Goals as goal

pub put_up-requires : goal.put_up-requires
put_up-requires g c =
    let old = g.S.Store.pairs c.args.store.now in
    let taken = length-after c.take_from.new.side.items (drop c.args.index old) c.in-Ok.side.items c.take_from.ensures.side in
    omega (arith, taken, length-drop c.args.index old, ap length c.in-Ok.ensures.side, c.in-Ok.ensures.store_room, c.lm_len.ensures)

pub returns-clause-later : goal.returns-clause-later
returns-clause-later g c = rw (c.put_up.ensures, c.in-Ok.ensures.store, c.take_from.ensures.side, c.in-Ok.ensures.side) (append-nil _)

pub returns-then-index-eq0-clause-later : goal.returns-then-index-eq0-clause-later
returns-then-index-eq0-clause-later g c = rw (c.replace.ensures.value, c.if-index-eq0.true) refl
