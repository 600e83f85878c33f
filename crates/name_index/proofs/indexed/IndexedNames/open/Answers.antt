use Rattle.std.proofs.Common.{◌≡◌, ◌∙◌, Err, ap, arith, subst}
use Rattle.std.proofs.lemmas.Result.{err_from_is_err_and}
use Rattle.name_index.specs.{IsEntry, Overlaps, entry_one, number_one}
use Rattle.name_index.specs.declared.error.IndexFault.TheVariants.{Overlapping}
use Rattle.name_index.proofs.AtIndex.{is_index, listed_holds, listed_is}
use Rattle.name_index.proofs.indexed.IndexedNames.open.Goals as goal

pub invariant_of-result-2 : goal.invariant_of-result-2
invariant_of-result-2 c =
    let bytes = c.args.bytes.now in
    let len = c.in_ok-len.len in
    let o = c.in_ok-follow.ensures.ok in
    (c.in_ok-len.ensures.small, listed_holds (IsEntry bytes len) (entry_one bytes len) len c.result-1.given.0 o.0 o.1)

pub returns-in_err-len-clause-overlaps : goal.returns-in_err-len-clause-overlaps
returns-in_err-len-clause-overlaps c = λ other o. absurd (omega (arith, c.in_err-len.ensures.error, o.1.within))

pub returns-in_err-follow-clause-overlaps : goal.returns-in_err-follow-clause-overlaps
returns-in_err-follow-clause-overlaps c =
    λ other o.
    let e : o.0 ≡ c.in_ok-len.len = number_one _ 0 _ _ o.1 c.in_ok-len.ensures.number in
    let r = c.in_err-follow.ensures.overlaps other (subst (λ n. Overlaps c.args.bytes.now n other) e o.2) in
    let p = err_from_is_err_and c.from_residual-in_err-follow.result c.from_residual-in_err-follow.ensures.1 in
    let s : c.in_err-follow.field-0.0 ≡ Overlapping other = cc in
    p.1 ∙ ap Err (p.2 ∙ s)

pub returns-clause-index : goal.returns-clause-index
returns-clause-index c =
    let bytes = c.args.bytes.now in
    let len = c.in_ok-len.len in
    let o = c.in_ok-follow.ensures.ok in
    rw (listed_is (IsEntry bytes len) (entry_one bytes len) len c.result-1.given.0 o.0 o.1) (is_index bytes len o.0 c.in_ok-len.ensures.number o.1 o.2)

pub returns-clause-overlaps : goal.returns-clause-overlaps
returns-clause-overlaps c =
    λ other o.
    let e : o.0 ≡ c.in_ok-len.len = number_one _ 0 _ _ o.1 c.in_ok-len.ensures.number in
    let r = c.in_ok-follow.ensures.overlaps other (subst (λ n. Overlaps c.args.bytes.now n other) e o.2) in
    absurd (cc)
