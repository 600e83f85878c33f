-- Lemmas on what is written through a `Watch`, one text after another.
use Rattle.std.proofs.Common.{◌+◌, ◌++◌, ◌||◌, ℕ, Bool, true, false, List, [], Option, length, take, refl, ap, ◌∙◌, arith, inl, inr, length-append, take-add}
use Rattle.std.proofs.Common.{take_at, drop_at}
use Rattle.std.specs.Io.KnownBytes.{Appends}
use Rattle.std.proofs.KnownBytes.{Appends-nil, Appends-trans}
use Rattle.std.proofs.lemmas.List.{take-append-le}
use Rattle.names_core.specs.Writes.{EndsRun, Takes, WritesText}
use Rattle.names_core.specs.declared.watch.Watch.{Watch}

Takes-after : (a b c : Option (List ℕ)) (s t : List ℕ) (fault : Bool) → Appends a b s → Takes b c t fault → Takes a c (s ++ t) fault
Takes-after a b c s t false first then = Appends-trans a b c s t first then
Takes-after a b c s t true first (n, low, then) = (
  length s + n,
  omega (arith, length-append s t),
  rw (take-add, take_at s t (length s) refl, drop_at s t (length s) refl)
      (Appends-trans a b c s (take n t) first then),
)

module _ {W : Type 0} (contents : W → Option (List ℕ)) where
  pub WritesText-nil : (w : Watch W) → WritesText contents w w [] false
  WritesText-nil w = record { takes = Appends-nil _; failed = refl; met = refl; nothing_after = λ unmet. refl }

  -- one text after another
  pub WritesText-after : (old mid new : Watch W) (s t : List ℕ) (fault : Bool) → WritesText contents old mid s false → WritesText contents mid new t fault
      → WritesText contents old new (s ++ t) fault
  WritesText-after old mid new s t fault first then = record {
    takes = Takes-after _ _ _ s t fault first.takes then.takes;
    failed = then.failed ∙ ap (λ b. fault || b) first.failed;
    met = then.met ∙ ap (λ b. fault || b) first.met;
    nothing_after = λ unmet. then.nothing_after (first.met ∙ unmet) ∙ first.nothing_after unmet;
  }

  pub EndsRun-after : (old mid new : Watch W) (s t : List ℕ) (status result : ℕ) → WritesText contents old mid s false
      → EndsRun contents mid new t status result → EndsRun contents old new (s ++ t) status result
  EndsRun-after old mid new s t status result first (inl (is, then)) = inl (is, WritesText-after old mid new s t false first then)
  EndsRun-after old mid new s t status result first (inr (is, then)) = inr (is, WritesText-after old mid new s t true first then)

  -- a text that was cut short is the front of a longer one
  pub WritesText-longer : (old new : Watch W) (s t : List ℕ) → WritesText contents old new s true → WritesText contents old new (s ++ t) true
  WritesText-longer old new s t w = record {
    takes = (w.takes.0, omega (arith, w.takes.1, length-append s t), rw (take-append-le w.takes.0 s t (omega (arith, w.takes.1))) w.takes.2);
    failed = w.failed;
    met = w.met;
    nothing_after = w.nothing_after;
  }
