use Rattle.litemap_store.proofs.Names.{◌++◌, ◌+◌, ◌∙◌, ◌∷◌, above, ap, arith, cons_option, drop, key_or, length-drop, option_map, reverse, sym}
use Rattle.litemap_store.proofs.Merging.Down.{found_drop, length-after, missing_drop, taken_found}
use Rattle.litemap_store.proofs.Last.Taken.{reverse_push}
use Rattle.litemap_store.proofs.merge.in_one_pass.take_above.Goals as goal

pub push_reserved-requires : goal.push_reserved-requires
push_reserved-requires g c =
    omega (
      arith,
      length-after c.take_from.new.side.items (drop (c.in-Ok.index + 1) (g.S.Store.pairs c.args.store.now)) c.args.side.now.items
          c.take_from.ensures.side,
      length-drop (c.in-Ok.index + 1) (g.S.Store.pairs c.args.store.now),
      c.take_from.ensures.side_room,
    )

pub push_reserved-requires-in-Err : goal.push_reserved-requires-in-Err
push_reserved-requires-in-Err g c =
    omega (
      arith,
      length-after c.take_from-in-Err.new.side.items
          (drop c.in-Err.index (g.S.Store.pairs c.args.store.now)) c.args.side.now.items c.take_from-in-Err.ensures.side,
      length-drop c.in-Err.index (g.S.Store.pairs c.args.store.now),
      c.take_from-in-Err.ensures.side_room,
    )

pub returns-in-Ok-clause-store : goal.returns-in-Ok-clause-store
returns-in-Ok-clause-store g c =
    (taken_found g.K.Ord.cmp g.met.K.Ord.total (g.S.Store.pairs c.args.store.now) c.args.key c.in-Ok.index c.in-Ok.ensures.splits _ _ _
    c.take_from.ensures.store c.take_last-stored.ensures.pairs).0

pub returns-in-Ok-clause-side : goal.returns-in-Ok-clause-side
returns-in-Ok-clause-side g c =
    let cmp = g.K.Ord.cmp in let pairs = g.S.Store.pairs c.args.store.now in
    let rest = reverse c.args.side.now.items in
    let found = (taken_found cmp g.met.K.Ord.total pairs c.args.key c.in-Ok.index c.in-Ok.ensures.splits _ _ _ c.take_from.ensures.store
    c.take_last-stored.ensures.pairs).1 in
    reverse_push _ _ _ c.push_reserved.ensures.items
    ∙ ap (λ W. (c.take_last-stored.result.0, c.args.value) ∷ W)
    (c.take_from.ensures.side ∙ ap (λ D. D ++ rest) (found_drop cmp g.met.K.Ord.total pairs c.args.key c.in-Ok.index c.in-Ok.ensures.splits))
    ∙ ap (λ t. (key_or t c.args.key, c.args.value) ∷ (above cmp pairs c.args.key ++ rest)) (sym found)

pub returns-in-Ok-clause-displaced : goal.returns-in-Ok-clause-displaced
returns-in-Ok-clause-displaced g c =
    let found = (taken_found g.K.Ord.cmp g.met.K.Ord.total (g.S.Store.pairs c.args.store.now) c.args.key c.in-Ok.index c.in-Ok.ensures.splits _ _ _
    c.take_from.ensures.store c.take_last-stored.ensures.pairs).1 in
    reverse_push _ _ _ c.push_reserved-in-Ok.ensures.items
    ∙ ap (λ t. cons_option (option_map (λ p. (c.args.key, p.1)) t) (reverse c.args.displaced.now.items)) (sym found)

pub returns-in-Err-clause-side : goal.returns-in-Err-clause-side
returns-in-Err-clause-side g c =
    let cmp = g.K.Ord.cmp in let pairs = g.S.Store.pairs c.args.store.now in
    let rest = reverse c.args.side.now.items in
    reverse_push _ _ _ c.push_reserved-in-Err.ensures.items
    ∙ ap (λ W. (c.args.key, c.args.value) ∷ W)
    (c.take_from-in-Err.ensures.side ∙ ap (λ D. D ++ rest) (missing_drop cmp g.met.K.Ord.total pairs c.args.key c.in-Err.index c.in-Err.ensures.splits))
    ∙ ap (λ t. (key_or t c.args.key, c.args.value) ∷ (above cmp pairs c.args.key ++ rest)) (sym c.in-Err.ensures.splits.missing)
