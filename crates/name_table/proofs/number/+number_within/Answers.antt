use Rattle.std.proofs.Common.{arith}
use Rattle.std.proofs.Math.Facts.{Fits-of_lt}
use Rattle.std.proofs.lemmas.Result.{err_from_is_err_and}
use Rattle.name_table.proofs.PartLemmas.{value_of-four, begins_last, begins_more, unread_more}
use Rattle.name_table.proofs.number.+number_within.Goals as goal

pub returns-then-low-lt-BASE-clause-ok : goal.returns-then-low-lt-BASE-clause-ok
returns-then-low-lt-BASE-clause-ok t c =
    begins_last c.args.bytes.now c.in-Some.rest.now c.in-Some.first.now c.from-low.result c.args.room c.in-Some.ensures.cases.0 c.from-low.ensures
    c.if-room-eq0.false c.if-low-lt-BASE.true

pub overflow_mul-result : goal.overflow_mul-result
overflow_mul-result t c =
    let r = c.in_ok-high.ensures.ok in Fits-of_lt (omega (arith, value_of-four r.front (omega (arith, r.short, c.requires)), r.value))

pub overflow_add-result : goal.overflow_add-result
overflow_add-result t c =
    let r = c.in_ok-high.ensures.ok in Fits-of_lt (omega (arith, value_of-four r.front (omega (arith, r.short, c.requires)), r.value))

pub returns-clause-ok : goal.returns-clause-ok
returns-clause-ok t c =
    begins_more c.args.bytes.now c.in-Some.rest.now c.in-Some.first.now c.from-low.result c.args.room c.in-Some.ensures.cases.0 c.from-low.ensures
    c.if-room-eq0.false c.in_ok-high.high c.in_ok-high.rest.now c.if-low-lt-BASE.false c.in_ok-high.ensures.ok

pub returns-in_err-high-clause-error : goal.returns-in_err-high-clause-error
returns-in_err-high-clause-error t c =
    let p = err_from_is_err_and c.from_residual.result c.from_residual.ensures.1 in
    rw (p.1, p.2)
    (unread_more c.args.bytes.now c.in-Some.rest.now c.in-Some.first.now c.from-low.result c.args.room c.in-Some.ensures.cases.0 c.from-low.ensures
    c.if-room-eq0.false c.in_err-high.field-0.0 c.args.at c.if-low-lt-BASE.false c.in_err-high.ensures.error)
