use Rattle.litemap_store.proofs.Names.{◌++◌, ◌+◌, ◌≡◌, ◌≤◌, length, List, Rising, Walks}
use Rattle.litemap_store.proofs.walk.walk.Given as goal

abbrev pub invariant-loop-order : goal.invariant-loop-order
invariant-loop-order g l = record {
  old_rises : Rising g.K.Ord.cmp l.olds;
  new_rise : Rising g.K.Ord.cmp l.news;
  walks : (M D : List _) → Walks g.K.Ord.cmp g.C.Choice.kept g.C.Choice.gone l.olds l.news M D
      → Walks g.K.Ord.cmp g.C.Choice.kept g.C.Choice.gone l.initial.olds l.initial.news
      (g.S.Store.pairs l.store ++ M) (g.C.Choice.displaced l.choice ++ D);
  room : length l.olds + length l.news ≤ g.S.Store.room l.store;
  choice_room : g.C.Choice.needs_room → length l.news ≤ g.C.Choice.room l.choice;
  same : l.count.name ≡ l.fn.count.name;
  not_lowered : (l.fn.count.total ≤ l.count.total) × (l.fn.count.refusals ≤ l.count.refusals);
  most : l.count.total + (length l.olds + length l.news) ≤ l.fn.count.total + (length l.initial.olds + length l.initial.news);
}

abbrev pub decreases-loop-order : goal.decreases-loop-order
decreases-loop-order g l = length l.olds + length l.news
