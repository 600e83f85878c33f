use Rattle.std.proofs.Common.{◌≡◌, ◌∙◌, ◌<◌, ◌-◌, None, Ok, ap, append-nil, arith, length, rules}
use Rattle.std.proofs.lemmas.Result.{err_from_is_err_and}
use Rattle.litemap_json.specs.Parse.{found_after}
use Rattle.litemap_json.specs.Parse as spec
use Rattle.litemap_json.specs.Reading.{seen}
use Rattle.litemap_json.proofs.Turns.{found_more, stopped, turns-end}
use Rattle.litemap_json.proofs.parse.all_pairs.Goals as goal

pub returns-in_err-pair : goal.returns-in_err-pair
returns-in_err-pair g c =
    let l = c.pairs in
    let turn = spec.turn g.K.JsonKey.key g.K.JsonItem.item g.V.JsonItem.item c.args.in_object in
    let was = err_from_is_err_and c.from_residual.result c.from_residual.ensures.1 in
    let place : c.len.result ≡ length l.found.items = search rules in
    let some : 0 < l.invariant.0 = omega (arith, l.invariant.1) in
    rw (was.1, was.2) (λ known. stopped turn (seen g.K.JsonItem.json g.V.JsonItem.json l.found.items) (length l.found.items) l.invariant.0
    l.reader c.in_err-pair.field-0.0 _ some (rw place at (c.in_err-pair.ensures.pair known)) l.invariant.2)

pub pairs-preserved : goal.pairs-preserved
pairs-preserved g c =
    let l = c.pairs in
    let n = l.invariant.0 in
    let rest = c.next_pair.new.reader in
    let turn = spec.turn g.K.JsonKey.key g.K.JsonItem.item g.V.JsonItem.item c.args.in_object in
    let place : c.len.result ≡ length l.found.items = search rules in
    let less : length rest < length l.reader = search rules in
    let some : 0 < n = omega (arith, l.invariant.1) in
    let found = rw (place, c.in-Some.is) at c.in_ok-pair.ensures.pair in (
      n - 1,
      omega (arith, less, l.invariant.1),
      found_more turn g.K.JsonItem.json g.V.JsonItem.json l.found.items c.push_pair.new.pairs.items c.in-Some.pair n l.reader rest _ some
          c.in_ok-push_pair.ensures found l.invariant.2,
    )

pub returns : goal.returns
returns g c =
    let l = c.pairs in
    let ps = seen g.K.JsonItem.json g.V.JsonItem.json l.found.items in
    let rest = c.next_pair.new.reader in
    let turn = spec.turn g.K.JsonKey.key g.K.JsonItem.item g.V.JsonItem.item c.args.in_object in
    let some : 0 < l.invariant.0 = omega (arith, l.invariant.1) in
    let ends : turn (length l.found.items) l.reader ≡ Ok (None, rest) = search rules in
    l.invariant.2 ∙ ap (found_after ps) (turns-end turn (length l.found.items) l.invariant.0 l.reader rest some ends)
    ∙ ap (λ qs. Ok (qs, rest)) (append-nil ps)
