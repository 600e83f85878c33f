use Rattle.std.proofs.Common.{◌∙◌, inl, refl}
use Rattle.std.proofs.IntoIterSteps.{All-taken}
use Rattle.litemap_read.proofs.laws.extend.Goals as goal

pub returns-in-Ok : goal.returns-in-Ok
returns-in-Ok g c =
    let e = c.in-Ok.ensures.extended in
    inl (refl, (rw (All-taken e.gives.0 e.given e.gives.2 ∙ e.gives.1.0) at e.last))
