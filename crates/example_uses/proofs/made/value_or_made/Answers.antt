use Rattle.std.proofs.Common.{◌≡◌, Ok, None, Option, Some, IsNone, option_map, slice_get, sym, ap, subst, ◌∙◌}
use Rattle.std.specs.Fn.{FnOnceReturnsAt}
use Rattle.std.specs.Map.Iter.{deref_pair}
use Rattle.litemap_store.specs.Pairs.{at, put}
use Rattle.litemap_store.proofs.Lists.Seams.{put_value}
use Rattle.example_uses.proofs.made.value_or_made.Goals as goal

-- the value that was inserted is the one that the reference shows
placed : (g : _) (c : goal.After-result-1 g) (n : IsNone (at g.K.Ord.cmp c.args.map.now.entries c.args.key))
    → (c.in_ok-index.ensures.put n).0 ≡ c.unwrap.result.1.now
placed g c n =
    let e = c.in_ok-index.ensures in let p = e.put n in let cmp = g.K.Ord.cmp in let old = c.args.map.now.entries in
    let shown = ap (option_map (λ q. q.1)) (sym c.get_indexed.ensures ∙ ap (option_map deref_pair) c.unwrap.ensures) in
    let stands = ap (λ M. option_map (λ q. q.1) (slice_get M c.in_ok-index.index)) p.2
    ∙ ap (λ i. option_map (λ q. q.1) (slice_get (put cmp old c.args.key p.0) i)) e.place ∙ put_value cmp old c.args.key p.0 in
    let same : Some p.0 ≡ Some c.unwrap.result.1.now = sym stands ∙ shown in cc

-- no value is found, so no pair is
absent : {K V : Type 0} (pair : Option (K × V)) → IsNone (option_map (λ p. p.1) pair) → IsNone pair
absent None n = n
absent (Some p) n = n

pub returns-clause-made : goal.returns-clause-made
returns-clause-made g c = λ none.
    let n = absent (at g.K.Ord.cmp c.args.map.now.entries c.args.key) none in
    subst (λ v. FnOnceReturnsAt g.F.FnOnce c.args.f c.args.key (Ok v)) (placed g c n) (c.in_ok-index.ensures.put n).1

pub returns-clause-put : goal.returns-clause-put
returns-clause-put g c = λ none.
    let n = absent (at g.K.Ord.cmp c.args.map.now.entries c.args.key) none in
    (c.in_ok-index.ensures.put n).2 ∙ ap (put g.K.Ord.cmp c.args.map.now.entries c.args.key) (placed g c n)
