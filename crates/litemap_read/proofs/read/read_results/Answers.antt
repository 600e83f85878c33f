use Rattle.std.proofs.Common.{◌∙◌, [], ◌∷◌, ◌++◌, List, Ok, ap, map, rules, subst, sym}
use Rattle.std.proofs.lemmas.List.{map-append}
use Rattle.litemap_store.specs.Bulk.{Gives}
use Rattle.litemap_store.proofs.Callers.HandedOver.{gathered}
use Rattle.litemap_store.proofs.Last.Sifting.{Last-sifted}
use Rattle.litemap_store.proofs.Last.FirstGiven.{GivesSome-from_Yields, GivesSome-from_some, some_refused}
use Rattle.litemap_read.proofs.Sifted.{Sifted-joins, always_if_err, some_given, some_sifted}
use Rattle.litemap_read.proofs.read.read_results.Goals as goal

pub loop-item-preserved : goal.loop-item-preserved
loop-item-preserved g c =
    let before = c.loop-item.invariant in
    let seen = before.0 in
    let pair : g.row.K.Denot × g.row.V.Denot = (c.in-Ok.key, c.in-Ok.value) in (
      seen ++ pair ∷ [],
      ap (λ xs. xs ++ c.in-Some.item ∷ []) before.1 ∙ ap (λ r. map (λ p. Ok p) seen ++ r ∷ []) c.in-Ok.is ∙ sym (map-append (λ p. Ok p) seen (pair ∷ [])),
      Sifted-joins g.K.Ord.cmp seen (pair ∷ []) [] [] c.loop-item.map.entries c.loop-item.aside.items c.append_or_defer.new.map.entries
          c.append_or_defer.new.aside.items before.2 c.in_ok-append_or_defer-in-Ok.ensures,
    )

pub returns-clause-read : goal.returns-clause-read
returns-clause-read g c =
    let before = c.loop-item.invariant in
    let P : List _ → Type 0 = λ xs. Gives g.I.IntoIterator.into_iter_gives g.I.IntoIter.Iterator.next_gives c.args.iter xs in
    let all : P c.loop-item.yielded = search rules in
    gathered g.met.K.Ord.total [] _ tt _ before.0 (subst P before.1 all)
    (Last-sifted g.met.K.Ord.total before.0 c.loop-item.map.entries c.loop-item.aside.items c.extend_from_vec.new.self.entries before.2
    c.in_ok-extend_from_vec.ensures.last)

pub returns-in_err-append_or_defer-in-Ok-clause-refused_some : goal.returns-in_err-append_or_defer-in-Ok-clause-refused_some
returns-in_err-append_or_defer-in-Ok-clause-refused_some g c =
    always_if_err _ c.from_residual.result (GivesSome-from_Yields g.I.IntoIterator.into_iter_gives g.I.IntoIter.Iterator.next_gives c.args.iter
    c.into_iter-item-iterator.result c.loop-item.item-iterator c.next.new.self c.loop-item.yielded c.in-Some.item
    c.into_iter-item-iterator.ensures.into_iter_gives c.loop-item.yielded_by c.in-Some.ensures.steps)

-- if no item came, nothing was put aside
pub returns-in_err-extend_from_vec-clause-refused_some : goal.returns-in_err-extend_from_vec-clause-refused_some
returns-in_err-extend_from_vec-clause-refused_some g c =
    let before = c.loop-item.invariant in
    let aside = c.loop-item.aside.items in
    let put_aside = rw c.in_err-extend_from_vec.was at
    (some_refused g.K.Ord.cmp c.extend_from_vec.result c.loop-item.map.entries aside c.loop-item.map.room c.extend_from_vec.ensures.succeeds) in
    let all : Gives g.I.IntoIterator.into_iter_gives g.I.IntoIter.Iterator.next_gives c.args.iter c.loop-item.yielded = search rules in
    always_if_err _ c.from_residual-in_err-extend_from_vec.result
    (GivesSome-from_some g.I.IntoIterator.into_iter_gives g.I.IntoIter.Iterator.next_gives c.args.iter
    c.loop-item.yielded all
    (some_given before.0 c.loop-item.yielded before.1 (some_sifted g.K.Ord.cmp before.0 c.loop-item.map.entries aside before.2 put_aside)))

pub loop-item-init-derived : goal.loop-item-init-derived
loop-item-init-derived g c = c.requires _ c.into_iter-item-iterator.ensures.into_iter_gives
