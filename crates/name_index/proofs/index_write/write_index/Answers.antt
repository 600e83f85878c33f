use Rattle.std.proofs.Common.{◌≡◌, [], append-nil, arith, length, refl, sym}
use Rattle.std.proofs.lemmas.Result.{err_from_is_err_and}
use Rattle.name_table.proofs.Writing.{if_too_large_weaker}
use Rattle.name_index.proofs.Writing.{pairs_next, shown_at, shown_written, too_large_at}
use Rattle.name_index.proofs.index_write.write_index.Goals as goal

pub loop-pair-init : goal.loop-pair-init
loop-pair-init c = (
  c.in_ok-bytes.bytes.items,
  c.in_ok-bytes.ensures.offsets,
  record {
    adds = record { more = []; added = sym (append-nil c.in_ok-bytes.bytes.items); size_is = refl };
    there = λ i pair l e. absurd
        (omega (arith, l));
  },
)

pub returns-in_err-put_pair-clause-too_large : goal.returns-in_err-put_pair-clause-too_large
returns-in_err-put_pair-clause-too_large c =
    let p = err_from_is_err_and c.from_residual-in_err-put_pair.result c.from_residual-in_err-put_pair.ensures.1 in
    rw (p.1, p.2)
    (if_too_large_weaker c.in_err-put_pair.field-0.0 (λ h. too_large_at c.args.names.now c.loop-pair.pair-index _ c.loop-pair-test.true h)
    c.in_err-put_pair.ensures.too_large)

pub loop-pair-preserved : goal.loop-pair-preserved
loop-pair-preserved c =
    let inv = c.loop-pair.invariant in (
      inv.0,
      inv.1,
      pairs_next _ _ _ _ c.loop-pair.pair-index _ inv.2
          (shown_at c.args.names.now c.loop-pair.pair-index _ c.loop-pair-test.true) c.in_ok-put_pair.ensures.adds c.in_ok-put_pair.ensures.pair,
    )

pub returns-clause-index : goal.returns-clause-index
returns-clause-index c =
    let inv = c.loop-pair.invariant in
    let end : c.loop-pair.pair-index ≡ length c.args.names.now = omega arith in
    shown_written _ _ c.args.names.now inv.1 (rw end at inv.2) c.requires
