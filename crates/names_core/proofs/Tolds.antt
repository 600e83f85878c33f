-- Lemmas on what a run tells.
use Rattle.std.proofs.Common.{◌++◌, ◌∷◌, ℕ, List, [], refl, sym, ap, ◌∙◌, subst, append_assoc, append-nil}
use Rattle.names_core.specs.Told.{Does, DoesEach, TextMap}

pub DoesEach-more : (old mid next : TextMap) (before : List (List ℕ)) (said text more : List ℕ)
    → DoesEach old before text mid → Does mid said more next → DoesEach old (before ++ (said ∷ [])) (text ++ more) next
DoesEach-more old mid next [] said text more (t, m) d =
    (more, [], next, subst (λ m. Does m said more next) m d, (refl, refl), ap (λ l. l ++ more) t ∙ sym (append-nil more))
DoesEach-more old mid next (first ∷ before) said text more (one, rest, between, d, each, e) h =
    (one, rest ++ more, between, d, DoesEach-more between mid next before said rest more each h, ap (λ t. t ++ more) e ∙ append_assoc one rest more)
