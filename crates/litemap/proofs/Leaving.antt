-- For callers whose closure changes values in place, by `update`, `try_update` or `retain_mut`: what lookups find then.
--     left_found      what holds of each value that the closure leaves holds of the one that is found
--     related_found      what the closure leaves of a value is related to that, and so is what is found to what was found
--     tried_found      the same of a closure that may return an error, if none was returned
--     kept_found, kept_related, kept_by_text      the same of a closure that says which stay; the last of strings that are looked up by strings
use Rattle.litemap.proofs.Common.{◌≡◌, ◌∙◌, ◌∷◌, [], Bool, true, false, Err, Equal, List, None, Ok, OnOk, Ordering, Result, Rising, String, ap}
use Rattle.litemap.proofs.Common.{cond, equal_from_is_eq, is_eq, key_same, on_ok_weaker, refl, string_cmp, sym, subst, Bor, MutBor, Mut, ℕ, value_at}
use Rattle.std.proofs.Common.{IfSome, Option, Some}
use Rattle.std.specs.Result.{MatchResult}
use Rattle.litemap_store.specs.Queries.{by_string}
use Rattle.litemap.specs.KeptWritten.{KeepsOf, KeepsOrDrops, KeptWritten, LeavesPair}
use Rattle.litemap.proofs.KeptWriting.{each-kept}
use Rattle.litemap.proofs.Keys.{none_above}
use Rattle.litemap.proofs.Texts.{same_bytes}
use Rattle.litemap.proofs.TryWriting.{always_ok}
use Rattle.litemap.specs.TryWritten.{WrittenUntil}
use Rattle.litemap.specs.Written.{LeavesOf, Relates, WritesPair, Written}

module _ {K Q V : Type 0} (order : K → Q → Ordering) (q : Q) (R : V → V → Type 0) where
  -- the first value became w, which R relates to it, and the rest became N
  related-first : (p : K × V) (w : V) (L M N : List (K × V)) → M ≡ (p.0, w) ∷ N → R p.1 w → Relates R (value_at order L q) (value_at order N q)
      → Relates R (value_at order (p ∷ L) q) (value_at order M q)
  related-first p w L M N is v rest = by (is_eq (order p.0 q)) refl
    where
      by : (c : Bool) → is_eq (order p.0 q) ≡ c → Relates R (value_at order (p ∷ L) q) (value_at order M q)
      by true t = rw is (rw t v)
      by false t = rw is (rw t rest)

module _ {F K Q V E : Type 0} (g : Mut F (Bor K × (MutBor V × Unit {0})) (Result (Unit {0}) E × (MutBor V × Unit {0})))
    (order : K → Q → Ordering) (q : Q) where
  module _ (R : V → V → Type 0) where
    abbrev Tries : F → Type 0
    Tries f = (p x : K × V) (r : Result (Unit {0}) E) (f' : F) → LeavesPair g f p r f' x → (f' ≡ f) × OnOk r (R p.1 x.1)

    tried : (L M : List (K × V)) (r : Result (Unit {0}) E) (f : F) → Tries f → WrittenUntil g f L M r
        → OnOk r (Relates R (value_at order L q) (value_at order M q))
    tried [] M r f a w = always_ok g r (rw w.0 tt)
    tried (p ∷ L) M r f a (x, f', s, c, rest) =
        let one = a p x s f' c in
        (elim s as (λ s. OnOk s (R p.1 x.1) → MatchResult s (λ _. (N : List (K × V)) × WrittenUntil g f' L N r × (M ≡ x ∷ N)) (λ e. (r ≡ Err e) × (M ≡ x ∷ L))
        → OnOk r (Relates R (value_at order (p ∷ L) q) (value_at order M q))) [
          | Ok u ↦ λ v h. on_ok_weaker r
              (related-first order q R p c.left.now L M h.0 (h.2 ∙ ap (λ y. y ∷ h.0) c.leaves) (subst (λ (y : K × V). R p.1 y.1) c.leaves v))
              (tried L h.0 r f' (subst (λ e. Tries e) (sym one.0) a) h.1)
          | Err e ↦ λ v h. subst (λ o. OnOk o (Relates R (value_at order (p ∷ L) q) (value_at order M q))) (sym h.0) tt
        ]) one.1 rest

  pub tried_found : {f : F} (L M : List (K × V)) (r : Result (Unit {0}) E) (R : V → V → Type 0) → WrittenUntil g f L M r
      → ((p x : K × V) (r : Result (Unit {0}) E) (f' : F) → LeavesPair g f p r f' x → (f' ≡ f) × OnOk r (R p.1 x.1))
      → OnOk r (Relates R (value_at order L q) (value_at order M q))
  tried_found {f} L M r R w a = tried R L M r f a w

module _ {F K Q V : Type 0} (g : Mut F (Bor K × (MutBor V × Unit {0})) (Unit {0} × (MutBor V × Unit {0}))) (order : K → Q → Ordering) (q : Q) where
  module _ (R : V → V → Type 0) where
    abbrev Leaves : F → Type 0
    Leaves f = (p x : K × V) (f' : F) → WritesPair g f p x f' → (f' ≡ f) × R p.1 x.1

    written-related : (L M : List (K × V)) (f : F) → Leaves f → Written g f L M → Relates R (value_at order L q) (value_at order M q)
    written-related [] M f a w = rw w tt
    written-related (p ∷ L) M f a w =
        let one = a p w.0 w.1 w.3 in
        related-first order q R p w.3.left.now L M w.2 (w.5 ∙ ap (λ x. x ∷ w.2) w.3.leaves) (subst (λ (x : K × V). R p.1 x.1) w.3.leaves one.1)
        (written-related L w.2 w.1 (subst (λ e. Leaves e) (sym one.0) a) w.4)

  pub related_found : {f : F} {L M : List (K × V)} (R : V → V → Type 0) → LeavesOf g f L M
      → ((p x : K × V) (f' : F) → WritesPair g f p x f' → (f' ≡ f) × R p.1 x.1) → Relates R (value_at order L q) (value_at order M q)
  related_found {f} {L} {M} R w a = written-related R L M f a w.written

  pub left_found : {f : F} {L M : List (K × V)} (P : V → Type 0) → LeavesOf g f L M
      → ((p x : K × V) (f' : F) → WritesPair g f p x f' → (f' ≡ f) × P x.1) → IfSome (value_at order M q) P
  left_found {f} {L} {M} P w a = of_those (value_at order L q) (value_at order M q) (related_found (λ _ v. P v) w a)
    where
      of_those : (o r : Option V) → Relates (λ _ v. P v) o r → IfSome r P
      of_those None None h = tt
      of_those None (Some v) h = absurd h
      of_those (Some v) None h = tt
      of_those (Some v) (Some w) h = h

module _ {F K Q V : Type 0} (g : Mut F (Bor K × (MutBor V × Unit {0})) (Bool × (MutBor V × Unit {0}))) (order : K → Q → Ordering) (q : Q) where
  module _ (P : V → Type 0) where
    abbrev KeepsEach : F → Type 0
    KeepsEach f = (p x : K × V) (b : Bool) (f' : F) → LeavesPair g f p b f' x → (f' ≡ f) × (b ≡ true → P x.1)

    kept-each : (L M : List (K × V)) (f : F) → KeepsEach f → KeptWritten g f L M → IfSome (value_at order M q) P
    kept-each [] M f a w = rw w tt
    kept-each (p ∷ L) M f a (b, f', x, c, N, rest, is) =
        let one = a p x b f' c in
        by b (is_eq (order x.0 q)) is refl one.1 (kept-each L N f' (subst (λ e. KeepsEach e) (sym one.0) a) rest)
      where
        by : (b t : Bool) → M ≡ cond b (x ∷ N) N → is_eq (order x.0 q) ≡ t → (b ≡ true → P x.1) → IfSome (value_at order N q) P → IfSome (value_at order M q) P
        by true true e t h r = rw e (rw t (h refl))
        by true false e t h r = rw e (rw t r)
        by false t e u h r = rw e r

  pub kept_found : {f : F} {cmp : K → K → Ordering} {L M : List (K × V)} (P : V → Type 0) → KeepsOf g f cmp L M
      → ((p x : K × V) (b : Bool) (f' : F) → LeavesPair g f p b f' x → (f' ≡ f) × (b ≡ true → P x.1)) → IfSome (value_at order M q) P
  kept_found {f} {cmp} {L} {M} P k a = kept-each P L M f a k.in_turn

  module _ (cmp : K → K → Ordering) (same : (x y : K) → order x q ≡ Equal → order y q ≡ Equal → cmp x y ≡ Equal) where
    module _ (R : V → V → Type 0) (D : V → Type 0) where
      abbrev Sorts : F → Type 0
      Sorts f = (p x : K × V) (b : Bool) (f' : F) → LeavesPair g f p b f' x → (f' ≡ f) × (b ≡ true → R p.1 x.1) × (b ≡ false → D p.1)

      kept-related : (L M : List (K × V)) (f : F) → Rising cmp L → Sorts f → KeptWritten g f L M
          → KeepsOrDrops R D (value_at order L q) (value_at order M q)
      kept-related [] M f r a w = rw w tt
      kept-related (p ∷ L) M f r a (b, f', x, c, N, rest, is) =
          let one = a p x b f' c in
          let key : x.0 ≡ p.0 = ap (λ y. y.0) c.leaves in
          by b (is_eq (order p.0 q)) is refl (ap (λ k. is_eq (order k q)) key) one.1 one.2
          (λ t. none_above order q same p.0 N (each-kept cmp g p.0 f' L N rest r.0) (equal_from_is_eq _ t))
          (kept-related L N f' r.1 (subst (λ e. Sorts e) (sym one.0) a) rest)
        where
          by : (b t : Bool) → M ≡ cond b (x ∷ N) N → is_eq (order p.0 q) ≡ t → is_eq (order x.0 q) ≡ is_eq (order p.0 q)
              → (b ≡ true → R p.1 x.1) → (b ≡ false → D p.1) → (is_eq (order p.0 q) ≡ true → value_at order N q ≡ None)
              → KeepsOrDrops R D (value_at order L q) (value_at order N q) → KeepsOrDrops R D (value_at order (p ∷ L) q) (value_at order M q)
          by true true e t k h d n rest = rw e (rw (k, t) (h refl))
          by true false e t k h d n rest = rw e (rw (k, t) rest)
          by false true e t k h d n rest = rw e (rw (t, n t) (d refl))
          by false false e t k h d n rest = rw e (rw t rest)

module _ {F K V : Type 0} (g : Mut F (Bor K × (MutBor V × Unit {0})) (Bool × (MutBor V × Unit {0}))) (cmp : K → K → Ordering) (k : K) where
  pub kept_related : {f : F} {L M : List (K × V)} (R : V → V → Type 0) (D : V → Type 0) → KeepsOf g f cmp L M
      → ((p x : K × V) (b : Bool) (f' : F) → LeavesPair g f p b f' x → (f' ≡ f) × (b ≡ true → R p.1 x.1) × (b ≡ false → D p.1))
      → KeepsOrDrops R D (value_at cmp L k) (value_at cmp M k)
  kept_related {f} {L} {M} R D w a = kept-related g cmp k cmp (key_same w.total k) R D L M f w.rising a w.in_turn

module _ {F V Z : Type 0} (g : Mut F (Bor (String Z) × (MutBor V × Unit {0})) (Bool × (MutBor V × Unit {0}))) (t : List ℕ) where
  pub kept_by_text : {f : F} {L M : List (String Z × V)} (R : V → V → Type 0) (D : V → Type 0) → KeepsOf g f string_cmp L M
      → ((p x : String Z × V) (b : Bool) (f' : F) → LeavesPair g f p b f' x → (f' ≡ f) × (b ≡ true → R p.1 x.1) × (b ≡ false → D p.1))
      → KeepsOrDrops R D (value_at by_string L t) (value_at by_string M t)
  kept_by_text {f} {L} {M} R D w a = kept-related g by_string t string_cmp (same_bytes t) R D L M f w.rising a w.in_turn

pub ruleset values_left = (related_found, left_found, tried_found)

pub ruleset values_kept = (kept_found, kept_related, kept_by_text)
