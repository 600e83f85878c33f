use Rattle.litemap_store.proofs.Lists.Parts.{Rising-drop}
use Rattle.litemap_store.proofs.bulk.few.is_rising_from.Goals as goal

pub returns-then-not-is_rising-clause-rising : goal.returns-then-not-is_rising-clause-rising
returns-then-not-is_rising-clause-rising g c = (
  λ f. cc,
  λ h. let rises = c.is_rising.ensures.rising.1 (rw c.split_at.ensures.back (Rising-drop g.K.Ord.cmp c.args.pairs.now c.args.from h)) in
      let not = c.if-not-is_rising.true in cc,
)
