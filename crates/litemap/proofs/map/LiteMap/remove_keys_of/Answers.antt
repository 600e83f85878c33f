use Rattle.litemap.proofs.Common.{◌≡◌, ◌∙◌, true, false, not, cond, None, is_some, ap, refl, at, value_at, Rising-from_Kept}
use Rattle.litemap.proofs.Sets.{Kept-beside, value_at-kept}
use Rattle.litemap.proofs.Queried.{keeps_part}
use Rattle.litemap.proofs.map.LiteMap.remove_keys_of.Goals as goal

pub invariant_of-self : goal.invariant_of-self
invariant_of-self g c =
    Rising-from_Kept g.K.Ord.cmp _ _ (g.S.Store.pairs c.self.inside.store) _ c.lm_retain.ensures.kept c.self.invariant

pub returns-clause-pairs : goal.returns-clause-pairs
returns-clause-pairs g c =
    Kept-beside g.met.K.Ord.total _ (λ f. f.0) (not) (λ f k v b f' called. called.met) _ _ _ _ _ _
    c.lm_retain.ensures.kept c.self.invariant (ap (λ m. m.entries) c.self.view_is) c.all-rest.ensures c.other.invariant (ap (λ m. m.entries) c.other.view_is)

pub returns-clause-stays : goal.returns-clause-stays
returns-clause-stays g c = keeps_part _ c.args.self.now.entries _ (returns-clause-pairs g c)

pub returns-clause-found : goal.returns-clause-found
returns-clause-found g c =
    λ key. value_at-kept g.met.K.Ord.total not c.args.other.now.entries _ _ (returns-clause-stays g c) key
    ∙ elim (is_some (at g.K.Ord.cmp c.args.other.now.entries key)) as
    (λ b. cond (not b) (value_at g.K.Ord.cmp c.args.self.now.entries key) None ≡ cond b None (value_at g.K.Ord.cmp c.args.self.now.entries key))
    [ true ↦ refl | false ↦ refl ]
