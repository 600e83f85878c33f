use Rattle.std.proofs.Common.{◌≡◌, Err, IfOk, Ok, Result, rules}
use Rattle.std.proofs.lemmas.Result.{err_from_is_err_and}
use Rattle.std.specs.Result.{IsErrAnd, MatchResult}
use Rattle.litemap_json.proofs.read.from_json.Goals as goal

with_error : {T E F : Type 0} (r : Result T E) (s : Result T F) {P P' : T → Type 0} {B : E → F → Type 0} {Q : F → Type 0}
    → MatchResult r (λ x. s ≡ Ok x) (λ e. IsErrAnd s (B e)) → IfOk r P
    → ((x : T) → P x → P' x) → ((e : E) (f : F) → B e f → Q f) → MatchResult s P' Q
with_error (Ok x) s is made ok err = rw is (ok x made)
with_error (Err e) s failed made ok err = let p = err_from_is_err_and s failed in rw p.1 (err e p.0 p.2)

pub returns-clause-read : goal.returns-clause-read
returns-clause-read g c =
    with_error c.from_vec.result c.map_err.result c.map_err.ensures.cases c.from_vec.ensures.made
    (λ map last. record { given = c.in_ok-pairs_of.field-0.items; gives = c.in_ok-pairs_of.ensures.read; last = last }) (λ _ _ _. tt)

pub returns-clause-error : goal.returns-clause-error
returns-clause-error g c =
    with_error c.from_vec.result c.map_err.result c.map_err.ensures.cases c.from_vec.ensures.made (λ _ _. tt) (λ _ _ is known. absurd (known (search rules)))
