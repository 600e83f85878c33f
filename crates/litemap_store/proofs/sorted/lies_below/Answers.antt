use Rattle.litemap_store.proofs.Names.{◌∙◌, ◌≡◌, ap, append-nil, is_lt, refl, sym}
use Rattle.litemap_store.proofs.Lists.Joined.{Rising-after, empty_from_last, empty_from_first}
use Rattle.litemap_store.proofs.Search.Splitting.{less_from_is_lt}
use Rattle.litemap_store.proofs.sorted.lies_below.Goals as goal

pub returns-in_default-clause-below : goal.returns-in_default-clause-below
returns-in_default-clause-below g c = let e =
    empty_from_last (g.S.Store.pairs c.args.low.now) (sym c.in_default.ensures) in (λ t. rw e c.requires.high, λ r. refl)

pub returns-in_default-lm_get-clause-below : goal.returns-in_default-lm_get-clause-below
returns-in_default-lm_get-clause-below g c = let e =
    empty_from_first (g.T.Store.pairs c.args.high.now) (sym c.in_default-lm_get.ensures) in (λ t. rw (e, append-nil) c.requires.low, λ r. refl)

pub returns-clause-below : goal.returns-clause-below
returns-clause-below g c =
    let w = c.in-Some in let v = c.in-Some-lm_get in
    let h = Rising-after g.K.Ord.cmp g.met.K.Ord.total (g.S.Store.pairs c.args.low.now) (g.T.Store.pairs c.args.high.now) (w.last.now, w.field-0-1.now)
    (v.first.now, v.field-0-1.now) (sym w.ensures) (sym v.ensures) c.requires.low c.requires.high in
    let asked : c.is_lt.result ≡ is_lt (g.K.Ord.cmp w.last.now v.first.now) = c.is_lt.ensures ∙ ap is_lt c.cmp.ensures.answer in
    (λ t. h.0 (less_from_is_lt _ (sym asked ∙ t)), λ r. asked ∙ ap is_lt (h.1 r))
