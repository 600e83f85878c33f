use Rattle.litemap.proofs.Common.{rules, ◌≡◌, true, false, sym, ap, ◌∙◌, arith, option_map, is_lt, Less, deref_pair, Rising}
use Rattle.litemap.proofs.Common.{Less-from_Rising, Less-from_is_lt}
use Rattle.litemap_store.proofs.Lists.Joined.{Rising-from_adjacent, adjacent_more}
use Rattle.litemap.proofs.map.LiteMap.is_sorted_store.Goals as goal

pub returns-then-not-is_lt : goal.returns-then-not-is_lt
returns-then-not-is_lt g c = (
  λ (t : false ≡ true). cc,
  λ (r : Rising g.K.Ord.cmp (g.S.Store.pairs c.args.store.now)).
      let before = sym c.lm_get.ensures ∙ ap (option_map deref_pair) c.unwrap.ensures in
      let here = sym c.lm_get-in-loop-index.ensures ∙ ap (option_map deref_pair) c.unwrap-in-loop-index.ensures in
      let less : c.cmp.result ≡ Less = c.cmp.ensures ∙ Less-from_Rising g.K.Ord.cmp _ _ _ _ c.loop-index.invariant.positive r before here in
      c.if-not-is_lt.ensures ∙ ap is_lt less,
)

pub loop-index-preserved : goal.loop-index-preserved
loop-index-preserved g c =
    let less = sym c.cmp.ensures ∙ Less-from_is_lt c.cmp.result c.if-not-is_lt.ensures in
    let before = sym c.lm_get.ensures ∙ ap (option_map deref_pair) c.unwrap.ensures in
    let here = sym c.lm_get-in-loop-index.ensures ∙ ap (option_map deref_pair) c.unwrap-in-loop-index.ensures in
    record {
      positive = omega arith;
      so_far = adjacent_more g.K.Ord.cmp _ _ _ _ c.loop-index.invariant.so_far before here less;
    }

pub returns : goal.returns
returns g c = (λ t. Rising-from_adjacent g.K.Ord.cmp g.met.K.Ord.total _ (λ k d h. c.loop-index.invariant.so_far k d (omega arith)), λ r. search rules)
