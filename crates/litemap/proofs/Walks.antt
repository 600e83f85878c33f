-- What the proof by hand of `try_get_or_insert` needs of values, lifetimes and borrows.
use Rattle.litemap.proofs.Common.{◌≡◌, ℕ, List, [], ◌∷◌, refl, T}
use Rattle.std.specs.Prelude.{⊤}
use mathlib.Core.Option.{none}
use mir.Syntax.{Ty}
use mir.Val.{Val, has_ty, WT}
use base.Fraction.{full_share}
use base.FractionLaws.{common}
use base.Logic.{SProp, ent, sep, wand, wand_i, apply∗, ex, ex_i, ex_e}
use base.Fml.{Lft, GName, Share, flft, fdead}
use seplogic.Ra.Ura.{Ura}
use types.Logic.{Logic, sem}
use types.Kit.{‵, raw, ◌⊛◌, ◌$◌, ◌∵◌, !, qed, move, use1, use2, split, updating, now, show, done}
use types.Tokens.{lft_new, lft_end, lft-common}
use contract.BorrowLft.{meet_⊑_left}
use denote.Follow.{follows_if, follows_so, such_by}
use denote.Laws.{Typed}
use denote.RattleType.{RattleType}

-- a value of a type parameter is one machine value, of its type
pub alone : (τ : Ty) (vs : List Val) → Typed (τ ∷ []) vs → (v : Val) × ((vs ≡ v ∷ []) × (T (has_ty τ v) × WT v))
alone τ [] t = absurd t
alone τ (v ∷ []) t = (v, (refl, t.0))
alone τ (v ∷ w ∷ vs) t = absurd t.1

module _ {M : Type 1} {𝓤 : Ura M} (𝓛 : Logic 𝓤) (ρ : Lft) (q : Share) where
  open 𝓛 use {H, A}

  abbrev pub Ends : ℕ → Share → SProp 𝓤
  Ends a s = wand 𝓤 (A.lft (a ∷ ρ) s) (H.⇛ (sep 𝓤 (A.dead (a ∷ ρ)) (A.lft ρ q)))

  abbrev pub Begun : ℕ × Share → SProp 𝓤
  Begun p = sep 𝓤 (A.lft (p.0 ∷ ρ) p.1) (Ends p.0 p.1)

  -- a new lifetime inside ρ, with its token, and the way to end it
  pub begins : ent 𝓤 (A.lft ρ q) (H.⇛ (ex 𝓤 Begun))
  begins =
      qed 𝓛 (‵ (flft ρ q) ∷ []) ∵ updating ! $ lft_new ! tt (λ a.
      let s : Share = (common full_share q).0 in
      let Back' : SProp 𝓤 = wand 𝓤 (A.lft (a ∷ ρ) s) (sep 𝓤 (A.lft (a ∷ []) full_share) (A.lft ρ q)) in
      use2 𝓛 (‵ (flft (a ∷ ρ) s) ⊛ raw Back') (lft-common 𝓛 (a ∷ []) ρ full_share q) $ split ! $ move ! (1 ∷ []) $
      use1 𝓛 (raw (Ends a s)) (wand_i 𝓤 Back' (A.lft (a ∷ ρ) s) _ (qed 𝓛 (raw Back' ∷ ‵ (flft (a ∷ ρ) s) ∷ []) ∵ updating ! $ move ! (1 ∷ 0 ∷ []) $
      use2 𝓛 (‵ (flft (a ∷ []) full_share) ⊛ ‵ (flft ρ q)) (apply∗ 𝓤 (A.lft (a ∷ ρ) s) (sep 𝓤 (A.lft (a ∷ []) full_share) (A.lft ρ q))) $ split !
      $ lft_end ! tt $
      use1 𝓛 (‵ (fdead (a ∷ ρ))) (𝓛.lfts.dead-incl (a ∷ ρ) (a ∷ []) (meet_⊑_left (a ∷ []) ρ)) $ now ! $ done !)) $
      now ! $ show ! Begun (a, s) $ move ! (1 ∷ 0 ∷ []) $ done !)

-- a clause on the end of a borrow: a weaker one follows
pub weaker_rest : {M : Type 1} {𝓤 : Ura M} (𝓛 : Logic 𝓤) (R : RattleType) (γ : GName) (P Q : R.Denot → Type 0) → ((n : R.Denot) → P n → Q n)
    → ent 𝓤 (sem 𝓛 (follows_so R R γ none (λ _ _. ⊤) P)) (sem 𝓛 (follows_so R R γ none (λ _ _. ⊤) Q))
unfolding such_by
weaker_rest {𝓤 = 𝓤} 𝓛 R γ P Q h =
    ex_e 𝓤 _ (λ s. ex_i 𝓤 (λ (t : (s : (R.Denot → R.Denot) × R.Denot) × ((w : R.Denot) → ⊤) × Q s.1). sem 𝓛 (follows_if R R γ none t.0.0 t.0.1))
    (s.0, s.1, h s.0.1 s.2))
