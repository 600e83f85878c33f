use Rattle.std.proofs.Common.{ap, ap₂, nat_cmp, sym, ◌∙◌}
use Rattle.litemap_json.specs.Digits.{first_digits}
use Rattle.litemap_json.proofs.Digits.{slice_cmp-first}
use Rattle.litemap_json.proofs.decimal.Decimal.compare.Goals as goal

pub returns-then-is_ne : goal.returns-then-is_ne
returns-then-is_ne c =
    slice_cmp-first c.args.self.now c.args.other.now c.cmp-order.result (rw (← c.self.view_is) c.self.invariant.0) (rw (← c.other.view_is) c.other.invariant.0)
    (c.cmp-order.ensures ∙ ap₂ nat_cmp (c.self.invariant.1 ∙ ap first_digits c.self.view_is) (c.other.invariant.1 ∙ ap first_digits c.other.view_is))
    (sym c.is_ne.ensures ∙ c.if-is_ne.true)
