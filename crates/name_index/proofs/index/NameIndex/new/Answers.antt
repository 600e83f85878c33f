use Rattle.std.proofs.Common.{length}
use Rattle.name_index.specs.{IsPlaced, placed_one}
use Rattle.name_index.proofs.AtIndex.{listed_holds, listed_is}
use Rattle.name_index.proofs.index.NameIndex.new.Goals as goal

pub invariant_of-result-2 : goal.invariant_of-result-2
invariant_of-result-2 c =
    let bytes = c.args.bytes.now in
    let offsets = c.in_ok-offsets.offsets.items in
    let o = c.in_ok-offsets.ensures.indexed in
    listed_holds (IsPlaced bytes offsets) (placed_one bytes offsets) (length offsets) c.result-1.given.0 o.0 o.2

pub returns-clause-table : goal.returns-clause-table
returns-clause-table c =
    let bytes = c.args.bytes.now in
    let offsets = c.in_ok-offsets.offsets.items in
    let o = c.in_ok-offsets.ensures.indexed in
    rw (listed_is (IsPlaced bytes offsets) (placed_one bytes offsets) (length offsets) c.result-1.given.0 o.0 o.2) o.1
