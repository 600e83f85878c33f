use Rattle.litemap.proofs.Common.{ap, arith, option_map, refl, sym, ◌∙◌, deref_pair, take_all}
use Rattle.litemap_store.proofs.Lists.Alongside.{alongside-more}
use Rattle.litemap_store.proofs.Lists.Joined.{In-slice_get}
use Rattle.litemap.proofs.Conversions.{Rising-became}
use Rattle.litemap.proofs.Places.{is_there}
use Rattle.litemap.proofs.map.conversions.converted.Goals as goal

pub made_of-requires : goal.made_of-requires
made_of-requires g c κs = (
  (refl, tt),
  c.requires.keys (c.unwrap.result.0.now, c.unwrap.result.1.now)
      (In-slice_get _ c.loop-index.index _ (sym c.get_indexed.ensures ∙ ap (option_map deref_pair) c.unwrap.ensures)),
)

pub made_of-requires-in-loop-index : goal.made_of-requires-in-loop-index
made_of-requires-in-loop-index g c κs = (
  (refl, tt),
  c.requires.values (c.unwrap.result.0.now, c.unwrap.result.1.now)
      (In-slice_get _ c.loop-index.index _ (sym c.get_indexed.ensures ∙ ap (option_map deref_pair) c.unwrap.ensures)),
)

pub loop-index-preserved : goal.loop-index-preserved
loop-index-preserved g c = record {
  became = rw c.in-Ok.ensures.ok
      (alongside-more (λ p q. g.X.Becomes.became c.args.keys.now p.0 q.0 × g.Y.Becomes.became c.args.values.now p.1 q.1) c.args.map.now.entries
      (g.B.Store.pairs c.loop-index.made)
      c.loop-index.index (c.unwrap.result.0.now, c.unwrap.result.1.now) (c.in_ok-key.key, c.in_ok-value.value)
      (sym c.get_indexed.ensures ∙ ap (option_map deref_pair) c.unwrap.ensures)
      (c.in_ok-key.ensures, c.in_ok-value.ensures) c.loop-index.invariant.became);
  room = omega (arith, c.in-Ok.ensures.room, c.loop-index.invariant.room);
}

pub from_sorted_store_unchecked-requires : goal.from_sorted_store_unchecked-requires
from_sorted_store_unchecked-requires g c =
    let all = take_all c.loop-index.index c.args.map.now.entries (omega (arith, c.loop-index-test.false, c.len-index-end.ensures.len)) in
    Rising-became g.K.Ord.cmp g.L.Ord.cmp (g.X.Becomes.became c.args.keys.now) (g.Y.Becomes.became c.args.values.now) c.args.map.now.entries _
    c.requires.rising (rw all at c.loop-index.invariant.became) c.len-index-end.ensures.rising

pub unwrap-requires : goal.unwrap-requires
unwrap-requires g c = is_there _ _ _ c.loop-index.index c.get_indexed.ensures (omega arith)
