use Rattle.litemap.proofs.Common.{length, refl, slice_get_read}
use Rattle.litemap.proofs.const_family.LiteMap+K+V+SliceStore+K+V.const_get_indexed_or_panic.Goals as goal

pub returns : goal.returns
returns g c =
    let pairs = c.self.inside.store.pairs.now in
    rw (← c.self.view_is)
    (slice_get_read pairs (length pairs) c.args.index c.index-pairs-index.result refl (rw (← c.self.view_is) at c.requires) c.index-pairs-index.is)
