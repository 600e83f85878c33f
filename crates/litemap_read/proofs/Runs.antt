-- Runs of calls.
--     Run-push      one more call;  runs_agree      the same calls from the same list
use Rattle.std.proofs.Common.{◌≡◌, List, [], ◌∷◌, ◌++◌, length, is_some, Option, Some, None, IsSome, IsNone, refl, sym, ap, ◌∙◌, subst, inl, inr}
use Rattle.std.specs.Cmp.{IsTotalOrder}
use Rattle.std.specs.declared.cmp.Ordering.{Ordering}
use Rattle.litemap_store.specs.Last.{Last}
use Rattle.litemap_store.specs.Pairs.{AllBelow, at, cut, index_of, put, value_at, value_in}
use Rattle.litemap_store.proofs.Last.Pairs.{Last-unique}
use Rattle.litemap_store.specs.Contents.{Contents}
use Rattle.litemap_read.specs.Laws.{SameResults}
use Rattle.litemap_read.specs.Steps.{IsDone, IsRefused, Run, Step}
use Rattle.litemap_read.specs.declared.calls.Answer.{Answer}
use Rattle.litemap_read.specs.declared.calls.Answer.TheVariants.{Back, Flag, NoRoom, Number, Place, Value}
use Rattle.litemap_read.specs.declared.calls.Call.{Call}
use Rattle.litemap_read.specs.declared.calls.Call.TheVariants as call

module _ {K V A : Type 0} (cmp : K → K → Ordering) (call : Call K V A) (answer : Answer K V) where
  pub Run-push : (start between end : Contents K V) (calls : List (Call K V A)) (answers : List (Answer K V)) → Run cmp start calls answers between
      → Step cmp between call answer end → Run cmp start (calls ++ call ∷ []) (answers ++ answer ∷ []) end
  Run-push start between end [] [] run step = (end, subst (λ (m : Contents K V). Step cmp m call answer end) run step, refl)
  Run-push start between end (c ∷ calls) (a ∷ answers) run step = (run.0, run.1, Run-push run.0 between end calls answers run.2 step)
  Run-push start between end _ _ run step = absurd run

not_both : {X : Type 0} (o : Option X) → IsSome o → IsNone o → ⊥
not_both None s n = cc
not_both (Some x) s n = cc

-- what is returned is f of the list, and the list is kept
module _ {K V : Type 0} (f : List (K × V) → Answer K V) (m₁ m₂ n₁ n₂ : Contents K V) (a₁ a₂ : Answer K V) (e : m₁.entries ≡ m₂.entries) where
  same_answer : a₁ ≡ f m₁.entries → a₂ ≡ f m₂.entries → a₁ ≡ a₂
  same_answer h₁ h₂ = h₁ ∙ ap f e ∙ sym h₂

  kept : n₁ ≡ m₁ → n₂ ≡ m₂ → n₁.entries ≡ n₂.entries
  kept h₁ h₂ = ap (λ (m : Contents K V). m.entries) h₁ ∙ e ∙ sym (ap (λ (m : Contents K V). m.entries) h₂)

  looked : (a₁ ≡ f m₁.entries) × (n₁ ≡ m₁) → (a₂ ≡ f m₂.entries) × (n₂ ≡ m₂) → (a₁ ≡ a₂) × (n₁.entries ≡ n₂.entries)
  looked h₁ h₂ = (same_answer h₁.0 h₂.0, kept h₁.1 h₂.1)

module _ {K V A : Type 0} (cmp : K → K → Ordering) (o : IsTotalOrder cmp) where
  -- the call fails with this
  refused_so : (old : Contents K V) (c : Call K V A) (a : Answer K V) (new : Contents K V) → IsRefused cmp old c a new
      → (back : Option (K × V)) × (a ≡ NoRoom back)
  refused_so old (call.Insert k v) a new h = (Some (k, v), h.1.0)
  refused_so old (call.TryInsert k v) a new h = (Some (k, v), h.1.0)
  refused_so old (call.TryAppend k v) a new h = (Some (k, v), h.1.0)
  refused_so old (call.Extend v) a new h = (None, h.0)
  refused_so old (call.Reserve n) a new h = (None, h.0)
  refused_so old _ a new h = absurd h

  done : (old : Contents K V) (c : Call K V A) (a : Answer K V) (new : Contents K V) → Step cmp old c a new → ((back : Option (K × V)) → a ≡ NoRoom back → ⊥)
      → IsDone cmp old c a new
  done old c a new (inl d) not = d
  done old c a new (inr r) not = let s = refused_so old c a new r in absurd (not s.0 s.1)

  done_agree : (m₁ m₂ n₁ n₂ : Contents K V) (c : Call K V A) (a₁ a₂ : Answer K V) → m₁.entries ≡ m₂.entries
      → IsDone cmp m₁ c a₁ n₁ → IsDone cmp m₂ c a₂ n₂ → (a₁ ≡ a₂) × (n₁.entries ≡ n₂.entries)
  done_agree m₁ m₂ n₁ n₂ (call.Get k) a₁ a₂ e h₁ h₂ = looked (λ L. Value (value_at cmp L k)) m₁ m₂ n₁ n₂ a₁ a₂ e h₁ h₂
  done_agree m₁ m₂ n₁ n₂ (call.ValueAt i) a₁ a₂ e h₁ h₂ = looked (λ L. Value (value_in L i)) m₁ m₂ n₁ n₂ a₁ a₂ e h₁ h₂
  done_agree m₁ m₂ n₁ n₂ (call.Contains k) a₁ a₂ e h₁ h₂ = looked (λ L. Flag (is_some (at cmp L k))) m₁ m₂ n₁ n₂ a₁ a₂ e h₁ h₂
  done_agree m₁ m₂ n₁ n₂ (call.Find k) a₁ a₂ e h₁ h₂ = looked (λ L. Place (index_of cmp L k)) m₁ m₂ n₁ n₂ a₁ a₂ e h₁ h₂
  done_agree m₁ m₂ n₁ n₂ call.Len a₁ a₂ e h₁ h₂ = looked (λ L. Number (length L)) m₁ m₂ n₁ n₂ a₁ a₂ e h₁ h₂
  done_agree m₁ m₂ n₁ n₂ (call.Insert k v) a₁ a₂ e h₁ h₂ =
      (same_answer (λ L. Value (value_at cmp L k)) m₁ m₂ n₁ n₂ a₁ a₂ e h₁.0 h₂.0, h₁.1.0 ∙ ap (λ L. put cmp L k v) e ∙ sym h₂.1.0)
  done_agree m₁ m₂ n₁ n₂ (call.TryInsert k v) a₁ a₂ e (inl h₁) (inl h₂) = (h₁.1 ∙ sym h₂.1, kept (λ L. Back None) m₁ m₂ n₁ n₂ a₁ a₂ e h₁.2 h₂.2)
  done_agree m₁ m₂ n₁ n₂ (call.TryInsert k v) a₁ a₂ e (inl h₁) (inr h₂) =
      absurd (not_both (at cmp m₁.entries k) h₁.0 (subst (λ L. IsNone (at cmp L k)) (sym e) h₂.0))
  done_agree m₁ m₂ n₁ n₂ (call.TryInsert k v) a₁ a₂ e (inr h₁) (inl h₂) = absurd (not_both (at cmp m₂.entries k) h₂.0 (subst (λ L. IsNone (at cmp L k)) e h₁.0))
  done_agree m₁ m₂ n₁ n₂ (call.TryInsert k v) a₁ a₂ e (inr h₁) (inr h₂) = (h₁.1 ∙ sym h₂.1, h₁.2.0 ∙ ap (λ L. put cmp L k v) e ∙ sym h₂.2.0)
  done_agree m₁ m₂ n₁ n₂ (call.TryAppend k v) a₁ a₂ e (inl h₁) (inl h₂) = (h₁.1 ∙ sym h₂.1, kept (λ L. Back None) m₁ m₂ n₁ n₂ a₁ a₂ e h₁.2 h₂.2)
  done_agree m₁ m₂ n₁ n₂ (call.TryAppend k v) a₁ a₂ e (inl h₁) (inr h₂) = absurd (h₁.0 (subst (λ L. AllBelow cmp L k) (sym e) h₂.0))
  done_agree m₁ m₂ n₁ n₂ (call.TryAppend k v) a₁ a₂ e (inr h₁) (inl h₂) = absurd (h₂.0 (subst (λ L. AllBelow cmp L k) e h₁.0))
  done_agree m₁ m₂ n₁ n₂ (call.TryAppend k v) a₁ a₂ e (inr h₁) (inr h₂) = (h₁.1 ∙ sym h₂.1, h₁.2.0 ∙ ap (λ L. L ++ (k, v) ∷ []) e ∙ sym h₂.2.0)
  done_agree m₁ m₂ n₁ n₂ (call.Remove k) a₁ a₂ e h₁ h₂ =
      (same_answer (λ L. Value (value_at cmp L k)) m₁ m₂ n₁ n₂ a₁ a₂ e h₁.0 h₂.0, h₁.1 ∙ ap (λ L. cut cmp L k) e ∙ sym h₂.1)
  done_agree m₁ m₂ n₁ n₂ (call.Extend v) a₁ a₂ e h₁ h₂ =
      (h₁.0 ∙ sym h₂.0, Last-unique cmp o (m₂.entries ++ v.items) n₁.entries n₂.entries (subst (λ L. Last cmp (L ++ v.items) n₁.entries) e h₁.1) h₂.1)
  done_agree m₁ m₂ n₁ n₂ (call.Reserve n) a₁ a₂ e h₁ h₂ = (h₁.0 ∙ sym h₂.0, h₁.1 ∙ e ∙ sym h₂.1)
  done_agree m₁ m₂ n₁ n₂ call.Clear a₁ a₂ e h₁ h₂ = (h₁.0 ∙ sym h₂.0, h₁.1 ∙ sym h₂.1)

  pub runs_agree : SameResults cmp V A
  runs_agree s₁ s₂ e₁ e₂ [] [] [] e r₁ r₂ n = (refl, ap (λ (m : Contents K V). m.entries) r₁ ∙ e ∙ sym (ap (λ (m : Contents K V). m.entries) r₂))
  runs_agree s₁ s₂ e₁ e₂ [] (a₁ ∷ as₁) as₂ e r₁ r₂ n = absurd r₁
  runs_agree s₁ s₂ e₁ e₂ (c ∷ cs) [] as₂ e r₁ r₂ n = absurd r₁
  runs_agree s₁ s₂ e₁ e₂ (c ∷ cs) (a₁ ∷ as₁) (a₂ ∷ as₂) e r₁ r₂ n =
      let one = done_agree s₁ s₂ r₁.0 r₂.0 c a₁ a₂ e (done s₁ c a₁ r₁.0 r₁.1 (λ back is. (n back).0 (inl is)))
      (done s₂ c a₂ r₂.0 r₂.1 (λ back is. (n back).1 (inl is))) in
      let rest = runs_agree r₁.0 r₂.0 e₁ e₂ cs as₁ as₂ one.1 r₁.2 r₂.2 (λ back. (λ i. (n back).0 (inr i), λ i. (n back).1 (inr i))) in
      (ap (λ a. a ∷ as₁) one.0 ∙ ap (λ more. a₂ ∷ more) rest.0, rest.1)
  runs_agree s₁ s₂ e₁ e₂ _ _ _ e r₁ r₂ n = absurd r₂
