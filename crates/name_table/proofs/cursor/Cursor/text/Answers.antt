use Rattle.std.proofs.Common.{◌≡◌, [], ◌++◌, length, sym, ap, ◌∙◌, arith, inl, refl, take-append-drop}
use Rattle.std.proofs.lemmas.Result.{err_from_is_err_and}
use Rattle.name_table.specs.{NotUtf8, Truncated}
use Rattle.name_table.proofs.PartLemmas.{past_text, text_fault}
use Rattle.name_table.proofs.cursor.Cursor.text.Goals as goal

pub returns-in_err-size-clause-error : goal.returns-in_err-size-clause-error
returns-in_err-size-clause-error c =
    let p = err_from_is_err_and c.from_residual.result c.from_residual.ensures.1 in
    rw (p.1, p.2) ([], inl c.in_err-size.ensures.error)

pub returns-then-size-tail-clause-error : goal.returns-then-size-tail-clause-error
returns-then-size-tail-clause-error c =
    let b = rw (sym c.tail.view_is) at c.in_ok-size.ensures.ok in
    text_fault c.args.self.now.rest c.tail.inside.rest.now c.args.self.now.place c.tail.inside.place c.in_ok-size.size
    (Truncated c.tail.inside.place) b.spelled b.place (λ text l. (refl, omega (arith, l, c.if-size-tail.true)))

pub returns-in-Ok-clause-ok : goal.returns-in-Ok-clause-ok
returns-in-Ok-clause-ok c =
    let b = rw (sym c.tail.view_is) at c.in_ok-size.ensures.ok in
    let tail = c.tail.inside.rest.now in
    let text = c.in-Ok.ensures.cases in
    let e : tail ≡ c.in-Ok.text.now ++ c.split_at.result.1.now =
    sym (take-append-drop c.in_ok-size.size tail) ∙ (λ i. (sym c.split_at.ensures.front ∙ sym text.0) i ++ sym c.split_at.ensures.back i) in
    past_text c.args.self.now tail c.split_at.result.1.now c.in-Ok.text.now c.tail.inside.place c.in_ok-size.size b e
    (ap length text.0 ∙ c.split_at.ensures.front_len) (rw text.0 text.1)

pub returns-in-Err-clause-error : goal.returns-in-Err-clause-error
returns-in-Err-clause-error c =
    let b = rw (sym c.tail.view_is) at c.in_ok-size.ensures.ok in
    text_fault c.args.self.now.rest c.tail.inside.rest.now c.args.self.now.place c.tail.inside.place c.in_ok-size.size
    (NotUtf8 c.tail.inside.place) b.spelled b.place
    (λ text l. (refl, omega (arith, l, c.if-size-tail.false), λ u. c.in-Err.ensures.cases.0 (rw c.split_at.ensures.front (rw l at u))))
