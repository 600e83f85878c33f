use Rattle.std.proofs.Common.{◌≡◌, ◌-◌, ◌∙◌, ap, arith, length, take}
use Rattle.std.proofs.Math.Seq.{take-length}
use Rattle.name_index.proofs.index.NameIndex.iter.Goals as goal

pub returns : goal.returns
returns c =
    let e : c.number.result - 0 ≡ length c.args.self.now = omega (arith, c.number.ensures.number) in
    c.entries_in.ensures ∙ ap (λ n. take n c.args.self.now) e ∙ take-length c.args.self.now
