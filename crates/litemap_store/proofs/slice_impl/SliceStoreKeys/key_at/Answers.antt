use Rattle.litemap_store.proofs.Names.{refl, slice_get_read}
use Rattle.litemap_store.proofs.slice_impl.SliceStoreKeys.key_at.Goals as goal

pub returns : goal.returns
returns g c =
    let pair = c.index-pairs-index.result in (pair.1, slice_get_read c.args.self.now.pairs.now _ c.args.index pair refl c.requires c.index-pairs-index.is)
