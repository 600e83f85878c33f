-- What is in a list, and what holds of each element.
--     In-left, In-right, In-cases      elements of a joined list;  In-filter, In-from_filter      what a filter keeps
--     each, from_each      what holds of each element;  In-get_or      what is at an index
use Rattle.litemap_store.proofs.Names.{[], ℕ, ◌++◌, ◌<◌, ◌∙◌, ◌∷◌, ◌≡◌, ◌⊎◌, AllByRecursion, ap, arith, Bool, cond, false, filter, get_or, In, inl, inr, length}
use Rattle.litemap_store.proofs.Names.{List, refl, subst, suc, sym, true, zero}

-- ---- elements of a joined list
pub In-left : {X : Type 0} (A B : List X) (x : X) → In x A → In x (A ++ B)
In-left [] B x h = absurd h
In-left (a ∷ A) B x (inl e) = inl e
In-left (a ∷ A) B x (inr h) = inr (In-left A B x h)

pub In-right : {X : Type 0} (A B : List X) (x : X) → In x B → In x (A ++ B)
In-right [] B x h = h
In-right (a ∷ A) B x h = inr (In-right A B x h)

pub In-cases : {X : Type 0} (A B : List X) (x : X) → In x (A ++ B) → In x A ⊎ In x B
In-cases [] B x h = inr h
In-cases (a ∷ A) B x (inl e) = inl (inl e)
In-cases (a ∷ A) B x (inr h) = elim (In-cases A B x h) [ inl i ↦ inl (inr i) | inr i ↦ inr i ]

-- ---- what a filter keeps
pub In-filter : {X : Type 0} (p : X → Bool) (L : List X) (x : X) → In x L → p x ≡ true → In x (filter p L)
In-filter p [] x h t = h
In-filter p (y ∷ L) x (inl e) t = rw (ap p e ∙ t) (inl e)
In-filter p (y ∷ L) x (inr h) t =
    let rest : In x (filter p L) = In-filter p L x h t in
    elim (p y) as (λ b. In x (cond b (y ∷ filter p L) (filter p L))) [ true ↦ inr rest | false ↦ rest ]

from_cond : {X : Type 0} (p : X → Bool) (b : Bool) (y : X) (L M : List X) (x : X) → p y ≡ b → (In x L → In x M × (p x ≡ true)) → In x (cond b (y ∷ L) L)
    → In x (y ∷ M) × (p x ≡ true)
from_cond p true y L M x t f (inl e) = (inl e, sym (ap p e) ∙ t)
from_cond p true y L M x t f (inr h) = (inr (f h).0, (f h).1)
from_cond p false y L M x t f h = (inr (f h).0, (f h).1)

pub In-from_filter : {X : Type 0} (p : X → Bool) (L : List X) (x : X) → In x (filter p L) → In x L × (p x ≡ true)
In-from_filter p [] x h = absurd h
In-from_filter p (y ∷ L) x h = from_cond p (p y) y (filter p L) L x refl (In-from_filter p L x) h

-- ---- `AllByRecursion` and membership
pub each : {X : Type 0} (P : X → Type 0) (L : List X) → AllByRecursion P L → (x : X) → In x L → P x
each P [] h x i = absurd i
each P (y ∷ L) h x (inl e) = subst P e h.0
each P (y ∷ L) h x (inr i) = each P L h.1 x i

pub from_each : {X : Type 0} (P : X → Type 0) (L : List X) → ((x : X) → In x L → P x) → AllByRecursion P L
from_each P [] f = tt
from_each P (y ∷ L) f = (f y (inl refl), from_each P L (λ x i. f x (inr i)))

pub In-get_or : {X : Type 0} (L : List X) (i : ℕ) (d : X) → i < length L → In (get_or L i d) L
In-get_or [] i d h = absurd (omega arith)
In-get_or (y ∷ L) zero d h = inl refl
In-get_or (y ∷ L) (suc i) d h = inr (In-get_or L i d (omega arith))
