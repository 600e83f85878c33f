use Rattle.std.proofs.Common.{◌≡◌, ◌∙◌, Option, Some, None, ap, option_map}
use Rattle.std.proofs.IntoIterSteps.{All-taken}
use Rattle.std.specs.Option.{option_or}
use Rattle.std.specs.String.{string_cmp_total}
use Rattle.litemap_store.proofs.Callers.LastLookups.{at-Last, value_at-Last_of_more}
use Rattle.example_uses.proofs.config.configured.Goals as goal

new_wins : {T : Type 0} (found new old : Option T) (v : T) → found ≡ option_or new old → new ≡ Some v → found ≡ Some v
new_wins found new old v either is = either ∙ ap (λ n. option_or n old) is

old_stays : {T : Type 0} (found new old : Option T) → found ≡ option_or new old → new ≡ None → found ≡ old
old_stays found new old either is = either ∙ ap (λ n. option_or n old) is

pub returns-clause-user : goal.returns-clause-user
returns-clause-user c =
    let e = c.in_ok-extend.ensures.extended in
    let last = (rw (All-taken e.gives.0 e.given e.gives.2 ∙ e.gives.1.0) at e.last) in
    λ name value found. new_wins _ _ _ value
    (value_at-Last_of_more string_cmp_total _ c.args.user.items _ c.in_ok-settings.ensures.made.last.rising last name) found

pub returns-clause-defaults : goal.returns-clause-defaults
returns-clause-defaults c =
    let made = c.in_ok-settings.ensures.made in
    let e = c.in_ok-extend.ensures.extended in
    let first = (rw (All-taken made.gives.0 made.given made.gives.2 ∙ made.gives.1.0) at made.last) in
    let last = (rw (All-taken e.gives.0 e.given e.gives.2 ∙ e.gives.1.0) at e.last) in
    λ name none. old_stays _ _ _ (value_at-Last_of_more string_cmp_total _ c.args.user.items _ made.last.rising last name) none
    ∙ ap (option_map (λ p. p.1)) (at-Last string_cmp_total c.args.defaults.items _ first name)
