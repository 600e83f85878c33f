use Rattle.std.proofs.Common.{◌≡◌, length, min, arith}
use Rattle.name_index.proofs.AtIndex.{slice_clamped}
use Rattle.name_index.proofs.index.NameIndex.entries_in.Goals as goal

pub returns : goal.returns
returns c =
    let e : c.min.result ≡ min c.args.range.end (length c.args.self.now) = omega (arith, c.min.ensures, c.number.ensures.number) in
    rw e (slice_clamped c.args.self.now c.args.range.start c.args.range.end)
