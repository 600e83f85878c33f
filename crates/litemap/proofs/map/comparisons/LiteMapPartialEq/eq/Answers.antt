use Rattle.litemap.proofs.Common.{◌&&◌, ap, arith, option_map, sym, ◌∙◌, drop_all, deref_pair}
use Rattle.std.proofs.lemmas.Bool.{not-false, not-true}
use Rattle.litemap.proofs.Places.{pointwise_ends, pointwise_on, is_there}
use Rattle.litemap.proofs.map.comparisons.LiteMapPartialEq.eq.Goals as goal

pub returns-then-ne : goal.returns-then-ne
returns-then-ne g c =
    let left = sym c.get_indexed.ensures ∙ ap (option_map deref_pair) c.unwrap-here.ensures in
    let right = sym c.get_indexed-in-loop-index.ensures ∙ ap (option_map deref_pair) c.unwrap-there.ensures in
    sym (sym c.loop-index.invariant ∙ pointwise_ends (λ p q. g.K.PartialEq.eq p.0 q.0 && g.V.PartialEq.eq p.1 q.1) _ _ c.loop-index.index _ _ left right
    (not-true _ (sym c.ne.ensures ∙ c.if-ne.true)))

pub loop-index-preserved : goal.loop-index-preserved
loop-index-preserved g c =
    let left = sym c.get_indexed.ensures ∙ ap (option_map deref_pair) c.unwrap-here.ensures in
    let right = sym c.get_indexed-in-loop-index.ensures ∙ ap (option_map deref_pair) c.unwrap-there.ensures in
    sym (pointwise_on (λ p q. g.K.PartialEq.eq p.0 q.0 && g.V.PartialEq.eq p.1 q.1) _ _ c.loop-index.index _ _ left right
    (not-false _ (sym c.ne.ensures ∙ c.if-ne.false))) ∙ c.loop-index.invariant

pub returns : goal.returns
returns g c =
    rw (
      drop_all c.loop-index.index c.args.self.now.entries (omega arith),
      drop_all c.loop-index.index c.args.other.now.entries
          (omega arith),
    ) at c.loop-index.invariant

pub unwrap-here-requires : goal.unwrap-here-requires
unwrap-here-requires g c = is_there _ _ _ c.loop-index.index c.get_indexed.ensures (omega arith)

pub unwrap-there-requires : goal.unwrap-there-requires
unwrap-there-requires g c = is_there _ _ _ c.loop-index.index c.get_indexed-in-loop-index.ensures (omega arith)
