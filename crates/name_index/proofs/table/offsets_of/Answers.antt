use Rattle.std.proofs.Common.{◌∙◌, [], arith, inl, pos_of_ne-zero, refl, sym, true≢false}
use Rattle.std.proofs.lemmas.Result.{err_from_is_err_and}
use Rattle.name_index.specs.declared.error.NameIndexFault.TheVariants.{NoRoom, TooFar}
use Rattle.name_index.proofs.AtIndex.{not_rising}
use Rattle.name_index.proofs.Tables.{reached_end, reached_near, reached_next, reached_start, stops_here}
use Rattle.name_index.proofs.table.offsets_of.Goals as goal

pub returns-in_err-names-clause-error : goal.returns-in_err-names-clause-error
returns-in_err-names-clause-error c =
    let p = err_from_is_err_and c.from_residual.result c.from_residual.ensures.1 in
    rw p.1 (inl (c.in_err-names.field-0.0, p.2, c.in_err-names.ensures.error))

pub loop-offsets-init : goal.loop-offsets-init
loop-offsets-init c = rw c.in_ok-offsets.ensures.items (reached_start c.args.bytes.now c.in_ok-names.names c.in_ok-names.ensures.ok)

pub returns-then-not-is_above-clause-error : goal.returns-then-not-is_above-clause-error
returns-then-not-is_above-clause-error c =
    let inv = c.loop-offsets.invariant in
    let n = rw c.in-Some.is at c.in_ok-key.ensures.read in
    stops_here _ _ _ _ _ inv (
      c.next_pair.new.self,
      (c.in-Some.key.now, c.in-Some.field-0-1.now),
      n,
      c.place-at.ensures,
      not_rising c.loop-offsets.last inv.pairs (c.in-Some.key.now, c.in-Some.field-0-1.now) inv.last_is (sym c.is_above.ensures ∙ c.if-not-is_above.true),
    )

pub loop-offsets-preserved : goal.loop-offsets-preserved
loop-offsets-preserved c =
    let n = rw c.in-Some.is at c.in_ok-key.ensures.read in
    rw (c.in_ok-push.ensures, c.in_ok-near.ensures.same, c.place-at.ensures)
    (reached_next c.args.bytes.now c.loop-offsets.names c.next_pair.new.self c.loop-offsets.last c.in-Some.key c.in-Some.field-0-1 c.loop-offsets.offsets.items
    c.loop-offsets.invariant n (sym c.is_above.ensures ∙ c.if-not-is_above.false)
    (omega (arith, c.in_ok-near.ensures.small, c.place-at.ensures)))

pub returns-in_err-offsets-clause-error : goal.returns-in_err-offsets-clause-error
returns-in_err-offsets-clause-error c =
    let p = err_from_is_err_and c.from_residual-in_err-offsets.result c.from_residual-in_err-offsets.ensures.1 in
    let due = rw c.hint.ensures at c.unwrap_or-due.ensures in
    rw (p.1, p.2)
    (stops_here _ _ _ [] NoRoom (reached_start c.args.bytes.now c.in_ok-names.names c.in_ok-names.ensures.ok)
    (pos_of_ne-zero (λ z. true≢false (sym (c.in_err-offsets.ensures.succeeds (omega (arith, z, due, c.min.ensures)))))))

pub returns-in_default-clause-indexed : goal.returns-in_default-clause-indexed
returns-in_default-clause-indexed c =
    let n = rw c.in_default.is at c.in_ok-key.ensures.next in
    reached_end _ _ _ _ c.loop-offsets.invariant (sym n.1.1 ∙ n.3)

pub returns-in_default-clause-near : goal.returns-in_default-clause-near
returns-in_default-clause-near c =
    let n = rw c.in_default.is at c.in_ok-key.ensures.next in
    reached_near _ _ _ _ c.loop-offsets.invariant (sym n.1.1 ∙ n.3) TooFar refl

pub returns-in_err-near-clause-error : goal.returns-in_err-near-clause-error
returns-in_err-near-clause-error c =
    let p = err_from_is_err_and c.from_residual-in_err-near.result c.from_residual-in_err-near.ensures.1 in
    let n = rw c.in-Some.is at c.in_ok-key.ensures.read in
    let far = c.in_err-near.ensures.far in
    rw (p.1, p.2, far.0) (stops_here _ _ _ _ TooFar c.loop-offsets.invariant (omega (arith, n.count), omega (arith, far.1, c.place-at.ensures)))

pub returns-in_err-push-clause-error : goal.returns-in_err-push-clause-error
returns-in_err-push-clause-error c =
    let p = err_from_is_err_and c.from_residual-in_err-push.result c.from_residual-in_err-push.ensures.1 in
    let n = rw c.in-Some.is at c.in_ok-key.ensures.read in
    rw (p.1, p.2) (stops_here _ _ _ _ NoRoom c.loop-offsets.invariant (omega (arith, n.count)))
