-- A list that is sifted in two parts.
--     Sifted-joins      what was sifted from a list and then from another was sifted from both
--     some_sifted      what was put aside was there;  some_given      and what was given;  always_if_err      what holds anyway
use Rattle.std.proofs.Common.{◌≡◌, ◌≤◌, List, [], ◌∷◌, ◌++◌, Result, Ok, Err, ap, arith, inl, inr, length, map}
use Rattle.std.proofs.lemmas.List.{length-map}
use Rattle.std.specs.Result.{IfErr}
use Rattle.std.specs.declared.cmp.Ordering.{Ordering}
use Rattle.litemap_store.specs.Laws.{Sifted}

module _ {K V : Type 0} (cmp : K → K → Ordering) where
  pub Sifted-joins : (J₁ J₂ A B A₁ B₁ A₂ B₂ : List (K × V)) → Sifted cmp V A B J₁ A₁ B₁ → Sifted cmp V A₁ B₁ J₂ A₂ B₂ → Sifted cmp V A B (J₁ ++ J₂) A₂ B₂
  Sifted-joins [] J₂ A B A₁ B₁ A₂ B₂ s t = rw (s.0, s.1) t
  Sifted-joins (p ∷ J₁) J₂ A B A₁ B₁ A₂ B₂ (inl s) t = inl (s.0, Sifted-joins J₁ J₂ (A ++ p ∷ []) B A₁ B₁ A₂ B₂ s.1 t)
  Sifted-joins (p ∷ J₁) J₂ A B A₁ B₁ A₂ B₂ (inr s) t = inr (s.0, Sifted-joins J₁ J₂ A (B ++ p ∷ []) A₁ B₁ A₂ B₂ s.1 t)

  pub some_sifted : (J A B : List (K × V)) → Sifted cmp V [] [] J A B → 1 ≤ length B → 1 ≤ length J
  some_sifted [] A B s some = omega (arith, ap length s.1)
  some_sifted (p ∷ J) A B s some = omega arith

pub some_given : {X E : Type 0} (given : List X) (items : List (Result X E)) → items ≡ map (λ x. Ok x) given → 1 ≤ length given → 1 ≤ length items
some_given {X} {E} given items is some = omega (arith, ap length is, length-map {B = Result X E} given (λ x. Ok x), some)

pub always_if_err : {A E P : Type 0} (Q : E → Type 0) (r : Result A E) → P → IfErr r (λ e. Q e → P)
always_if_err Q (Ok x) p = tt
always_if_err Q (Err e) p = λ q. p
