use Rattle.std.proofs.Common.{length, ap, arith, length-append}
use Rattle.std.proofs.lemmas.Result.{err_from_is_err_and}
use Rattle.name_table.proofs.PartLemmas.{begins_number, large_fault, unread_fault}
use Rattle.name_table.proofs.cursor.Cursor.number.Goals as goal

pub returns-in_err-number-clause-error : goal.returns-in_err-number-clause-error
returns-in_err-number-clause-error c =
    let p = err_from_is_err_and c.from_residual.result c.from_residual.ensures.1 in
    rw (p.1, p.2, ← c.self.view_is) (unread_fault c.in_err-number.field-0.0 c.self.inside.rest.now c.self.inside.place c.in_err-number.ensures.error)

pub returns-then-number-lt-NUMBER_LIMIT-clause-ok : goal.returns-then-number-lt-NUMBER_LIMIT-clause-ok
returns-then-number-lt-NUMBER_LIMIT-clause-ok c =
    let b = begins_number c.self.inside.rest.now c.in_ok-number.rest.now c.in_ok-number.number c.in_ok-number.ensures.ok c.if-number-lt-NUMBER_LIMIT.true in
    rw (← c.self.view_is) (record { spelled = b; place = omega (arith, ap length b.split, length-append b.front c.in_ok-number.rest.now) })

pub returns-else-number-lt-NUMBER_LIMIT-clause-error : goal.returns-else-number-lt-NUMBER_LIMIT-clause-error
returns-else-number-lt-NUMBER_LIMIT-clause-error c =
    rw (← c.self.view_is)
    (large_fault c.self.inside.rest.now c.in_ok-number.rest.now c.in_ok-number.number c.self.inside.place c.in_ok-number.ensures.ok
    c.if-number-lt-NUMBER_LIMIT.false)
