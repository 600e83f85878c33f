use Rattle.std.proofs.Common.{refl}
use Rattle.litemap_short.proofs.storage.Storage.item_mut.Goals as goal

pub returns-in-Heap : goal.returns-in-Heap
returns-in-Heap g c =
    let e = rw c.in-Heap.is at c.index_mut.ensures in
    rw c.in-Heap.is ((refl, λ w. refl), record { writes_back = tt; value = e.value })
