use Rattle.std.proofs.Common.{◌≡◌, ◌++◌, ◌∷◌, [], length, length-append, ap, ◌∙◌, arith}
use Rattle.std.specs.List.{zip}
use Rattle.litemap_columns.proofs.Columns.{zip-append}
use Rattle.litemap_columns.proofs.column_iter.ColumnIterDoubleEndedIterator.next_back.Goals as goal

pub returns-clause-steps : goal.returns-clause-steps
returns-clause-steps g c =
    let (keys, first) = c.in_ok-key.ensures.cases in
    let (values, second) = c.in_ok-value.ensures.cases in
    let same : length c.in_ok-key.keys.now ≡ length c.in_ok-value.values.now = omega (arith, first, second, c.self.invariant) in
    rw (← c.self.view_is) (
    ap (λ L. zip L c.self.inside.values.now) keys
    ∙ ap (λ L. zip (c.in_ok-key.keys.now ++ c.in_ok-key.key.now ∷ []) L) values
    ∙ zip-append c.in_ok-key.keys.now c.in_ok-value.values.now c.in_ok-key.key.now c.in_ok-value.value.now same
    )

pub returns-clause-goes : goal.returns-clause-goes
returns-clause-goes g c =
    let left = zip c.in_ok-key.keys.now c.in_ok-value.values.now in
    let pair : g.row.K.Denot × g.row.V.Denot = (c.in_ok-key.key.now, c.in_ok-value.value.now) in
    let all : length c.args.self.now ≡ length (left ++ pair ∷ []) = ap length (returns-clause-steps g c) in
    record {
      on = λ _. (tt, tt, omega (arith, all, length-append left (pair ∷ [])));
      keeps = tt;
      rests = λ _. tt;
    }
