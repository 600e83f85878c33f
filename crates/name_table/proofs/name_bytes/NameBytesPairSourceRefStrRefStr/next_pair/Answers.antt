use Rattle.std.proofs.Common.{arith, refl}
use Rattle.std.proofs.lemmas.Result.{err_from_is_err_and}
use Rattle.name_table.specs.{Remaining}
use Rattle.name_table.proofs.Remains.{none_can_be_read, all_none_can_be_read, key_fault, pairs_from_next, value_fault, is_next, gives_one_more, fault_later}
use Rattle.name_table.proofs.Remains.{fault_earlier, all_later, all_earlier}
use Rattle.name_table.proofs.name_bytes.NameBytesPairSourceRefStrRefStr.next_pair.Goals as goal

pub returns-then-self-eq0-clause-next : goal.returns-then-self-eq0-clause-next
returns-then-self-eq0-clause-next c =
    rw (← c.self.view_is)
    (all_none_can_be_read _ c.if-self-eq0.true, ((λ L. ((λ h. h), (λ h. h))), refl), none_can_be_read _ c.if-self-eq0.true, c.if-self-eq0.true)

pub returns-in_err-key-clause-next : goal.returns-in_err-key-clause-next
returns-in_err-key-clause-next c =
    let p = err_from_is_err_and c.from_residual.result c.from_residual.ensures.1 in
    rw (p.1, p.2, ← c.self.view_is) (pairs_from_next _ _ (key_fault _ _ c.if-self-eq0.false c.in_err-key.ensures.error), ((λ L. ((λ h. h), (λ h. h))), refl))

pub returns-in_err-key-clause-error : goal.returns-in_err-key-clause-error
returns-in_err-key-clause-error c =
    let p = err_from_is_err_and c.from_residual.result c.from_residual.ensures.1 in
    rw (p.1, p.2, ← c.self.view_is) (key_fault _ _ c.if-self-eq0.false c.in_err-key.ensures.error)

pub returns-in_err-value-clause-next : goal.returns-in_err-value-clause-next
returns-in_err-value-clause-next c =
    let p = err_from_is_err_and c.from_residual-in_err-value.result c.from_residual-in_err-value.ensures.1 in
    let k = c.in_ok-key.ensures.ok in
    rw (p.1, p.2, ← c.self.view_is) (
      pairs_from_next _ _ (value_fault _ _ c.in_ok-key.key.now _ _ c.if-self-eq0.false k.spelled k.place c.in_err-value.ensures.error),
      ((λ L. ((λ h. h), (λ h. h))), refl),
    )

pub returns-in_err-value-clause-error : goal.returns-in_err-value-clause-error
returns-in_err-value-clause-error c =
    let p = err_from_is_err_and c.from_residual-in_err-value.result c.from_residual-in_err-value.ensures.1 in
    let k = c.in_ok-key.ensures.ok in
    rw (p.1, p.2, ← c.self.view_is) (value_fault _ _ c.in_ok-key.key.now _ _ c.if-self-eq0.false k.spelled k.place c.in_err-value.ensures.error)

pub returns : goal.returns
returns c =
    let s : Remaining = record { rest = c.self.inside.cursor.rest; place = c.self.inside.cursor.place; left = c.self.inside.left } in
    let n = is_next s c.in_ok-key.key.now c.in_ok-value.value.now c.in_ok-key.middle c.in_ok-value.after c.in_ok-key.ensures.ok c.in_ok-value.ensures.ok
    c.if-self-eq0.false in
    rw (← c.self.view_is) (record {
      next = ((λ L r. gives_one_more s _ (c.in_ok-key.key, c.in_ok-value.value) L n r), omega (arith, n.count));
      keeps_faults = λ f. (fault_later s _ _ n f, fault_earlier s _ _ n f);
      keeps_end = (all_later s _ _ n, all_earlier s _ _ n);
      leads = (_, n);
      error = tt;
      read = n;
    })
