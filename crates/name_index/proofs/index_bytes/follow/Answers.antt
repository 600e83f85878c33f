use Rattle.litemap_store.proofs.Stores.Counting.{always_on_err}
use Rattle.std.proofs.Common.{◌≡◌, ◌∙◌, [], Err, ap, arith, refl, sym}
use Rattle.std.proofs.lemmas.Result.{err_from_is_err_and}
use Rattle.name_index.specs.{IsEntry}
use Rattle.name_index.specs.declared.error.IndexFault.TheVariants.{Overlapping}
use Rattle.name_index.proofs.AtIndex.{falls, followed_next, followed_short, if_overlapping_weaker, missing, name_at, names_none, overlaps}
use Rattle.name_index.proofs.AtIndex.{overlaps_none, overlaps_once}
use Rattle.name_index.proofs.index_bytes.follow.Goals as goal

pub loop-index-init : goal.loop-index-init
loop-index-init c = record { pairs = []; names = names_none (IsEntry c.args.bytes.now c.args.len); last_is = refl; left_is = omega arith }

pub returns-in_err-key-clause-error : goal.returns-in_err-key-clause-error
returns-in_err-key-clause-error c = always_on_err c.from_residual.result (missing c.loop-index.index (omega arith) c.in_err-key.ensures.error)

pub returns-in_err-key-clause-overlapping : goal.returns-in_err-key-clause-overlapping
returns-in_err-key-clause-overlapping c =
    let p = err_from_is_err_and c.from_residual.result c.from_residual.ensures.1 in
    rw (p.1, p.2) (if_overlapping_weaker c.in_err-key.field-0.0 (λ index h. absurd h) c.in_err-key.ensures.other)

pub returns-in_err-key-clause-overlaps : goal.returns-in_err-key-clause-overlaps
returns-in_err-key-clause-overlaps c =
    λ other o.
    let l = followed_short _ _ c.loop-index.index other _ _ c.loop-index.invariant o in
    let t = name_at o.entries c.loop-index.index (omega (arith, l)) in
    absurd (c.in_err-key.ensures.error t.0 t.2)

pub returns-then-not-is_above-clause-error : goal.returns-then-not-is_above-clause-error
returns-then-not-is_above-clause-error c =
    λ pairs a fits.
    falls _ _ c.args.len c.loop-index.index c.loop-index.last c.loop-index.left c.in_ok-key.key.now c.in_ok-key.value.now
    (omega arith) c.loop-index.invariant c.in_ok-key.ensures.entry (sym c.is_above.ensures ∙ c.if-not-is_above.true) pairs a

pub returns-then-not-is_above-clause-overlaps : goal.returns-then-not-is_above-clause-overlaps
returns-then-not-is_above-clause-overlaps c =
    λ other o.
    let l = followed_short _ _ c.loop-index.index other _ _ c.loop-index.invariant o in
    absurd
    (falls _ _ _ c.loop-index.index c.loop-index.last c.loop-index.left c.in_ok-key.key.now c.in_ok-key.value.now (omega (arith, l))
    c.loop-index.invariant c.in_ok-key.ensures.entry (sym c.is_above.ensures ∙ c.if-not-is_above.true) _ o.entries)

pub returns-then-size-left-clause-overlapping : goal.returns-then-size-left-clause-overlapping
returns-then-size-left-clause-overlapping c =
    overlaps _ _ c.loop-index.index c.loop-index.last c.loop-index.left c.in_ok-key.key.now c.in_ok-key.value.now (omega arith) c.loop-index.invariant
    c.in_ok-key.ensures.entry (sym c.is_above.ensures ∙ c.if-not-is_above.false) (omega arith)

pub returns-then-size-left-clause-overlaps : goal.returns-then-size-left-clause-overlaps
returns-then-size-left-clause-overlaps c =
    λ other o.
    let e : c.loop-index.index ≡ other = overlaps_once _ _ c.loop-index.index other (returns-then-size-left-clause-overlapping c) o in
    ap (λ index. Err (Overlapping index)) e

pub returns-then-size-left-clause-error : goal.returns-then-size-left-clause-error
returns-then-size-left-clause-error c = overlaps_none _ _ c.loop-index.index (returns-then-size-left-clause-overlapping c)

pub loop-index-preserved : goal.loop-index-preserved
loop-index-preserved c =
    followed_next _ _ c.loop-index.index c.loop-index.last c.loop-index.left _ c.in_ok-key.key c.in_ok-key.value c.loop-index.invariant
    c.in_ok-key.ensures.entry (sym c.is_above.ensures ∙ c.if-not-is_above.false) (omega arith)

pub returns-clause-ok : goal.returns-clause-ok
returns-clause-ok c =
    let inv = c.loop-index.invariant in
    let end : c.loop-index.index ≡ c.args.len = omega arith in
    (inv.pairs, rw end at inv.names, omega (arith, inv.left_is))

pub returns-clause-overlaps : goal.returns-clause-overlaps
returns-clause-overlaps c =
    λ other o.
    let l = followed_short _ _ c.loop-index.index other _ _ c.loop-index.invariant o in
    let end : c.loop-index.index ≡ c.args.len = omega arith in
    absurd (omega (arith, l, end, o.within))
