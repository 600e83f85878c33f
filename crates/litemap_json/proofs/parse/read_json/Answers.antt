use Rattle.std.proofs.Common.{◌≡◌, Err, IfOk, Ok, Result}
use Rattle.std.proofs.lemmas.Result.{err_from_is_err_and}
use Rattle.std.specs.Result.{IsErrAnd, MatchResult}
use Rattle.litemap_json.proofs.TextOrder.{has_tree, some_text, text_found}
use Rattle.litemap_json.proofs.parse.read_json.Goals as goal

with_error : {T E F : Type 0} (r : Result T E) (s : Result T F) {P P' : T → Type 0} {B : E → F → Type 0} {Q : F → Type 0}
    → MatchResult r (λ x. s ≡ Ok x) (λ e. IsErrAnd s (B e)) → IfOk r P
    → ((x : T) → P x → P' x) → ((e : E) (f : F) → B e f → Q f) → MatchResult s P' Q
with_error (Ok x) s is made ok err = rw is (ok x made)
with_error (Err e) s failed made ok err = let p = err_from_is_err_and s failed in rw p.1 (err e p.0 p.2)

pub returns-clause-read : goal.returns-clause-read
returns-clause-read g c =
    let found = text_found g.K.JsonKey.key g.K.JsonItem.item g.V.JsonItem.item c.args.text.now _ c.in_ok-pairs_in.ensures.read in
    with_error c.from_vec.result c.map_err.result c.map_err.ensures.cases c.from_vec.ensures.made
    (λ map last. (found.0, found.1, record { given = c.in_ok-pairs_in.field-0.items; gives = found.2; last = last })) (λ _ _ _. tt)

pub returns-clause-tree : goal.returns-clause-tree
returns-clause-tree g c =
    let found = text_found g.K.JsonKey.key g.K.JsonItem.item g.V.JsonItem.item c.args.text.now _ c.in_ok-pairs_in.ensures.read in
    with_error c.from_vec.result c.map_err.result c.map_err.ensures.cases c.from_vec.ensures.made
    (λ map last. has_tree c.args.text.now found.0 found.1) (λ _ _ _. tt)

pub returns-clause-refused_some : goal.returns-clause-refused_some
returns-clause-refused_some g c =
    let some = some_text g.K.JsonKey.key g.K.JsonItem.item g.V.JsonItem.item c.args.text.now _ c.in_ok-pairs_in.ensures.read in
    with_error c.from_vec.result c.map_err.result c.map_err.ensures.cases c.from_vec.ensures.made (λ _ _. tt) (λ _ _ _ _. some)
