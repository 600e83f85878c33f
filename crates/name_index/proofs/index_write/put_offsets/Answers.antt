use Rattle.std.proofs.lemmas.Result.{err_from_is_err_and}
use Rattle.name_table.proofs.Writing.{if_too_large_weaker}
use Rattle.name_index.proofs.Writing.{place_next, offsets_next, too_far_at, too_many}
use Rattle.name_index.proofs.index_write.put_offsets.Goals as goal

pub returns-in_err-put_number-clause-too_large : goal.returns-in_err-put_number-clause-too_large
returns-in_err-put_number-clause-too_large c =
    let p = err_from_is_err_and c.from_residual.result c.from_residual.ensures.1 in
    rw (p.1, p.2) (if_too_large_weaker c.in_err-put_number.field-0.0 (λ h. too_many c.args.pairs.now h) c.in_err-put_number.ensures.too_large)

pub returns-in_err-offset-clause-too_large : goal.returns-in_err-offset-clause-too_large
returns-in_err-offset-clause-too_large c =
    let p = err_from_is_err_and c.from_residual-in_err-offset.result c.from_residual-in_err-offset.ensures.1 in
    let e = c.in_err-offset.ensures.too_large in
    rw (p.1, p.2, e.0) (too_far_at c.args.pairs.now c.loop-pair.pair-index _ c.loop-pair-test.true c.loop-pair.offset c.loop-pair.invariant.offset_is e.1)

pub loop-pair-preserved : goal.loop-pair-preserved
loop-pair-preserved c =
    let inv = c.loop-pair.invariant in
    record {
      offsets = offsets_next _ _ _ c.loop-pair.pair-index c.loop-pair.offset inv.offsets inv.offset_is c.in_ok-put_number-2.ensures.adds
          c.in_ok-put_number-2.ensures.number;
      offset_is = place_next c.args.pairs.now c.loop-pair.pair-index _ c.loop-pair.offset c.in_ok-offset.offset c.loop-pair-test.true inv.offset_is
          c.in_ok-offset.ensures.next;
      small = c.in_ok-offset.ensures.small;
    }
