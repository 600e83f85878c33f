use Rattle.std.proofs.Common.{refl}
use Rattle.std.proofs.lemmas.Option.{slice_get_read}
use Rattle.litemap_short.proofs.storage.Storage.remove.Goals as goal

pub returns-in-Heap-clause-old : goal.returns-in-Heap-clause-old
returns-in-Heap-clause-old g c =
    rw c.in-Heap.is (slice_get_read _ _ _ _ refl (rw c.in-Heap.is at c.requires) c.remove.ensures.value)
