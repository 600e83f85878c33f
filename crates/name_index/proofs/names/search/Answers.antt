use Rattle.std.proofs.Common.{◌+◌, ◌-◌, ◌/◌, ◌∙◌, Ok, Err, arith, sym}
use Rattle.litemap_store.proofs.Search.Splitting.{Ascends-by_query, Splits-from_Finds}
use Rattle.name_index.proofs.Halving.{halved_asked, halved_end, halved_equal, halved_greater, halved_less, halved_start}
use Rattle.name_index.proofs.Prefixing.{one_by}
use Rattle.name_index.proofs.names.search.Goals as goal

pub loop-low-init : goal.loop-low-init
loop-low-init g c =
    halved_start _ _ c.number-high.result _ c.number-high.ensures.number (Ascends-by_query (one_by c.args.past) _ c.args.text.now c.number-high.ensures.rises)

pub loop-low-preserved-in-Less : goal.loop-low-preserved-in-Less
loop-low-preserved-in-Less g c =
    halved_less _ _ _ c.loop-low.invariant (omega arith) c.key_at.ensures c.order.ensures.same c.order.ensures.counted c.order.ensures.refusals
    (sym c.order.ensures.order ∙ c.in-Less.is)

pub returns-in-Equal-clause-splits : goal.returns-in-Equal-clause-splits
returns-in-Equal-clause-splits g c =
    Splits-from_Finds (one_by c.args.past) _ c.args.text.now c.number-high.ensures.rises (Ok (c.loop-low.low + (c.loop-low.high - c.loop-low.low) / 2))
    (halved_equal _ _ _ c.loop-low.invariant (omega arith) c.key_at.ensures c.order.ensures.same c.order.ensures.counted c.order.ensures.refusals
    (sym c.order.ensures.order ∙ c.in-Equal.is))

pub returns-in-Equal-clause-cost : goal.returns-in-Equal-clause-cost
returns-in-Equal-clause-cost g c =
    halved_asked _ _ _ c.loop-low.invariant (omega arith) c.key_at.ensures c.order.ensures.same c.order.ensures.counted c.order.ensures.refusals

pub loop-low-preserved : goal.loop-low-preserved
loop-low-preserved g c =
    halved_greater _ _ _ c.loop-low.invariant (omega arith) c.key_at.ensures c.order.ensures.same c.order.ensures.counted c.order.ensures.refusals
    (sym c.order.ensures.order ∙ c.in-Greater.is)

pub returns-clause-splits : goal.returns-clause-splits
returns-clause-splits g c =
    Splits-from_Finds (one_by c.args.past) _ c.args.text.now c.number-high.ensures.rises (Err c.loop-low.low)
    (halved_end _ _ c.loop-low.invariant (omega arith))
