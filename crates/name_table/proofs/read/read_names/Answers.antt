use Rattle.std.proofs.lemmas.Result.{err_from_is_err_and}
use Rattle.std.proofs.Common.{[], inl}
use Rattle.name_table.proofs.Remains.{is_read, unread}
use Rattle.name_table.proofs.read.read_names.Goals as goal

pub returns-in_err-names-clause-error : goal.returns-in_err-names-clause-error
returns-in_err-names-clause-error c =
    let p = err_from_is_err_and c.from_residual.result c.from_residual.ensures.1 in
    rw (p.1, p.2) ([], inl c.in_err-names.ensures.error)

pub returns-in_err-map-clause-error : goal.returns-in_err-map-clause-error
returns-in_err-map-clause-error c =
    let p = err_from_is_err_and c.from_residual-in_err-map.result c.from_residual-in_err-map.ensures.1 in
    rw (p.1, p.2)
    (unread c.args.bytes.now c.in_ok-names.names c.in_err-map.field-0.0 c.in_ok-names.ensures.ok c.in_err-map.ensures.asked.error
    c.in_err-map.ensures.asked.refused_some)

pub returns-clause-read : goal.returns-clause-read
returns-clause-read c =
    let r = c.in_ok-map.ensures in
    rw c.place.ensures (is_read c.args.bytes.now c.in_ok-names.names c.read_pairs.new.source r.read.given c.in_ok-names.ensures.ok r.read.gives r.asked.ends
    r.asked.empty r.asked.leads.0 r.asked.leads.1 _ r.read.last)
