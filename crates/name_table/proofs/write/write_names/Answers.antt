use Rattle.std.proofs.Common.{arith, length, take_all}
use Rattle.std.proofs.lemmas.List.{length-map}
use Rattle.std.proofs.lemmas.Result.{err_from_is_err_and}
use Rattle.name_table.specs.{shown}
use Rattle.name_table.proofs.ReadAgain.{read_again}
use Rattle.name_table.proofs.Writing.{if_too_large_weaker, no_table_at, shortest_pair}
use Rattle.name_table.proofs.write.write_names.Goals as goal

pub returns-in_err-put_pair-clause-too_large : goal.returns-in_err-put_pair-clause-too_large
returns-in_err-put_pair-clause-too_large c =
    let p = err_from_is_err_and c.from_residual-in_err-put_pair.result c.from_residual-in_err-put_pair.ensures.1 in
    rw (p.1, p.2, ← c.as_slice-pairs.ensures.pairs)
    (if_too_large_weaker c.in_err-put_pair.field-0.0 (λ none. no_table_at shown c.as_slice-pairs.result.now c.loop-pair.pair-index _ c.loop-pair-test.true none)
    c.in_err-put_pair.ensures.too_large)

pub loop-pair-preserved : goal.loop-pair-preserved
loop-pair-preserved c =
    shortest_pair shown c.as_slice-pairs.result.now c.loop-pair.pair-index _ c.loop-pair-test.true c.loop-pair.bytes.items c.put_pair.new.bytes.items
    (length c.as_slice-pairs.result.now) c.loop-pair.invariant c.in_ok-put_pair.ensures.ok

pub returns : goal.returns
returns c =
    let all = rw (take_all c.loop-pair.pair-index c.as_slice-pairs.result.now (omega arith)) at c.loop-pair.invariant in
    rw (← c.as_slice-pairs.ensures.pairs) (record {
      table = rw length-map all;
      read_again = read_again c.loop-pair.bytes.items c.as_slice-pairs.result.now
          (rw (length-map c.as_slice-pairs.result.now shown) all.spelled) c.as_slice-pairs.ensures.rising;
      too_large = tt;
    })
