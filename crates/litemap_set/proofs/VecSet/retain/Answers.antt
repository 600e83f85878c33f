use Rattle.litemap_store.proofs.Names.{◌≡◌, ◌++◌, ◌∙◌, ◌∷◌, ap, subst, sym}
use Rattle.std.specs.List.{IsAmong}
use Rattle.std.specs.Map.{keys_of}
use Rattle.std.proofs.lemmas.List.{map-append}
use Rattle.litemap.proofs.Callable.{among, folds_by}
use Rattle.litemap_set.proofs.Keys.{keys-filter}
use Rattle.litemap_set.proofs.VecSet.retain.Goals as goal

pub returns : goal.returns
returns g c = λ test tests.
    rw (c.retain.ensures.filtered (λ p. test p.0) (λ p b f' called.
    let step = tests p.0 b f'.0 (record { shown = called.key; shows = called.shows.0; called = called.called.met }) in
    (step.0, λ i. record { 0 = step.1 i })))
    (rw (← c.self.view_is) (keys-filter test c.self.inside.map.entries))

pub retain-requires : goal.retain-requires
retain-requires g c = record {
  at = λ before after s k v is folds.
      let keys = ap (λ s. s.keys) c.self.view_is in
      let split = ap keys_of is.between ∙ map-append (λ p. p.0) before _ in
      c.requires.at (keys_of before) (keys_of after) s.0 k
      (subst (λ L. L ≡ keys_of before ++ k.now ∷ keys_of after) keys split)
      (subst (λ L. IsAmong L k.now) (sym split ∙ keys) (among (keys_of before) (keys_of after) k.now))
      (folds_by (λ f. f.0) (λ p. p.0) _ _
      (λ f p f' asked. (asked.0, record { shown = asked.1.key; shows = asked.1.shows.0; called = asked.1.called.met })) before _ s folds);
}
