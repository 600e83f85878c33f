use Rattle.litemap.proofs.Common.{◌≡◌, Some, length, slice_get, ◌-◌, ◌<◌, sym, ap, ◌∙◌, arith, is_lt, slice_get_within, refl}
use Rattle.litemap.proofs.Common.{Less-from_is_lt}
use Rattle.litemap_store.proofs.Lists.Ends.{AllBelow-at, AllBelow-from_last}
use Rattle.litemap_store.proofs.Lists.Joined.{empty_from_last}
use Rattle.litemap.proofs.map.LiteMap.is_above_all.Goals as goal

pub returns-in-Some : goal.returns-in-Some
returns-in-Some g c =
    let pairs = g.S.Store.pairs c.self.inside.store in
    let is : slice_get pairs (length pairs - 1) ≡ Some (c.in-Some.last.now, c.in-Some.field-0-1.now) = sym c.in-Some.ensures in
    let within : length pairs - 1 < length pairs = slice_get_within _ _ _ is in
    let asked = c.is_lt.ensures ∙ ap is_lt c.cmp.ensures in
    rw (← c.self.view_is) (
      λ t. AllBelow-from_last g.met.K.Ord.total pairs c.args.key.now (length pairs - 1) _ c.self.invariant (omega arith) is (Less-from_is_lt _ (sym t ∙ asked)),
      λ b. asked ∙ ap is_lt (AllBelow-at g.K.Ord.cmp pairs c.args.key.now (length pairs - 1) _ b is),
    )

pub returns-in-None : goal.returns-in-None
returns-in-None g c = rw (← c.self.view_is, empty_from_last (g.S.Store.pairs c.self.inside.store) (sym c.in-None.ensures)) (λ _. tt, λ _. refl)
