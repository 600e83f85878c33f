use Rattle.name_index.proofs.Tables.{entry_begins, offset_within}
use Rattle.name_index.proofs.index.NameIndex.bytes_from.Goals as goal

pub slice_bounds-result-count : goal.slice_bounds-result-count
slice_bounds-result-count c =
    offset_within c.self.inside.bytes.now c.self.inside.offsets.items c.as_slice-offsets.result.now _ c.args.self.now c.self.invariant
    c.as_slice-offsets.ensures.value c.self.view_is c.args.index c.requires

pub slice_bounds-result-start : goal.slice_bounds-result-start
slice_bounds-result-start c =
    offset_within c.self.inside.bytes.now c.self.inside.offsets.items c.as_slice-offsets.result.now _ c.args.self.now c.self.invariant
    c.as_slice-offsets.ensures.value c.self.view_is c.args.index c.requires

pub returns : goal.returns
returns c =
    entry_begins c.self.inside.bytes.now c.self.inside.offsets.items c.as_slice-offsets.result.now _ c.args.self.now c.self.invariant
    c.as_slice-offsets.ensures.value c.self.view_is c.args.index c.requires
