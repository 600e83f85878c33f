-- Where the names that begin with a string end, among those that ascend.
--     one_by      the order of a search has one side;  cut_at, place_at      what a search says;  edges_part      what two say
use Rattle.std.proofs.Common.{◌≡◌, ◌==◌, ◌&&◌, ◌||◌, ◌⊎◌, inl, inr, ℕ, zero, suc, ◌-◌, ◌≤◌, Bool, true, false, not, cond, List, [], ◌∷◌, filter}
use Rattle.std.proofs.Common.{eqb-true, eq-eqb, Some, Result, MatchResult, Ok, Err, refl, sym, ap, ◌∙◌, subst, arith, Ordering, Less, Equal, Greater, is_lt}
use Rattle.std.proofs.Common.{nat_cmp}
use Rattle.std.proofs.lemmas.Bool.{and_parts}
use Rattle.std.proofs.lemmas.Cmp.{ranked, tied_itself}
use Rattle.std.specs.Cmp.{nat_cmp_total}
use Rattle.std.specs.Ordering.{ordering_then}
use Rattle.litemap.specs.Within.{IsCut}
use Rattle.litemap.proofs.Cuts.{before_found, before_missing, sub_between}
use Rattle.litemap_store.specs.Pairs.{place, sub}
use Rattle.litemap_store.specs.Queries.{OneSide}
use Rattle.litemap_store.specs.Splits.{Splits}
use Rattle.litemap_store.proofs.Lists.Parts.{Less-from_is_lt}
use Rattle.name_index.specs.{begins, order_by, text_order}
use Rattle.name_index.proofs.AtIndex.{one_side, text_order_total}

-- the name is below the string or begins with it
abbrev passes : List ℕ → List ℕ → Bool
passes text name = is_lt (text_order name text) || begins name text

-- ---- one name, and two that ascend

-- if a name begins with the string, one below it is below the string or begins with it, too
before_begins : (text a b : List ℕ) → text_order a b ≡ Less → begins b text ≡ true → passes text a ≡ true
before_begins [] [] b e h = refl
before_begins [] (x ∷ a) b e h = refl
before_begins (t ∷ text) a [] e h = let k : false ≡ true = h in absurd (cc)
before_begins (t ∷ text) [] (y ∷ b) e h = refl
before_begins (t ∷ text) (x ∷ a) (y ∷ b) e h = by (before_begins text a b) (nat_cmp x t) refl
  where
    tied : t ≡ y
    tied = eqb-true t y (and_parts (t == y) (begins b text) h).0

    below : ordering_then (nat_cmp x t) (text_order a b) ≡ Less
    below = ap (λ n. ordering_then (nat_cmp x n) (text_order a b)) tied ∙ e

    by : (text_order a b ≡ Less → begins b text ≡ true → passes text a ≡ true) → (o : Ordering) → nat_cmp x t ≡ o
        → is_lt (ordering_then (nat_cmp x t) (text_order a text)) || ((t == x) && begins a text) ≡ true
    by rest Less d = rw d refl
    by rest Equal d =
        let s : (t == x) ≡ true = eq-eqb t x (sym (ranked x t Equal (sym d))) in
        rw (d, s) (rest (rw d at below) (and_parts (t == y) (begins b text) h).1)
    by rest Greater d = let k : Greater ≡ Less = rw d at below in absurd (cc)

-- a name that begins with the string is not below it
begins_not_below : (text name : List ℕ) → begins name text ≡ true → is_lt (text_order name text) ≡ false
begins_not_below [] [] h = refl
begins_not_below [] (x ∷ name) h = refl
begins_not_below (t ∷ text) [] h = let k : false ≡ true = h in absurd (cc)
begins_not_below (t ∷ text) (x ∷ name) h =
    let p = and_parts (t == x) (begins name text) h in
    let d : nat_cmp x t ≡ Equal = ap (nat_cmp x) (eqb-true t x p.0) ∙ tied_itself nat_cmp_total x in
    rw d (begins_not_below text name p.1)

begins_by : (text name : List ℕ) → not (is_lt (text_order name text)) && passes text name ≡ begins name text
begins_by text name = by (is_lt (text_order name text)) (begins name text) (begins_not_below text name)
  where
    by : (b c : Bool) → (c ≡ true → b ≡ false) → not b && (b || c) ≡ c
    by false c h = refl
    by true false h = refl
    by true true h = let k : true ≡ false = h refl in absurd (cc)

passes_before : (text a b : List ℕ) → text_order a b ≡ Less → passes text b ≡ true → passes text a ≡ true
passes_before text a b l h = by (is_lt (text_order b text)) refl
  where
    by : (c : Bool) → is_lt (text_order b text) ≡ c → passes text a ≡ true
    by true e =
        let k : is_lt (text_order a text) ≡ true = ap is_lt (text_order_total.trans a b text l (Less-from_is_lt (text_order b text) (sym e))) in
        rw k refl
    by false e = before_begins text a b l (rw e at h)

-- of two ascending names the lower one lies before, or the higher one after
pub one_by : (past : Bool) → OneSide text_order (order_by past)
one_by false text a b l = one_side text a b l
one_by true text a b l = by (passes text b) refl
  where
    by : (c : Bool) → passes text b ≡ c → (order_by true a text ≡ Less) ⊎ (order_by true b text ≡ Greater)
    by true e = inl (ap (λ d. cond d Less Greater) (passes_before text a b l e))
    by false e = inr (ap (λ d. cond d Less Greater) e)

-- ---- what searches say

module _ (past : Bool) (text : List ℕ) (L : List (List ℕ × List ℕ)) (n : ℕ) where
  pub cut_at : (r : Result ℕ ℕ) → Splits (order_by past) L text r → MatchResult r (λ i. n ≡ i) (λ i. n ≡ i)
      → IsCut (λ p. is_lt (order_by past p.0 text)) L n
  cut_at (Ok i) s e = rw e (before_found (order_by past) text L i s)
  cut_at (Err i) s e = rw e (before_missing (order_by past) text L i s)

  pub place_at : (r : Result ℕ ℕ) → Splits (order_by past) L text r → MatchResult r (λ i. n ≡ i) (λ i. n ≡ i) → n ≡ place (order_by past) L text
  place_at (Ok i) s e = e ∙ s.place
  place_at (Err i) s e = e ∙ s.place

-- two cuts lie in order
cuts_ordered : {X : Type 0} (early late : X → Bool) → ((x : X) → early x ≡ true → late x ≡ true) → (L : List X) (a b : ℕ) → IsCut early L a
    → IsCut late L b → a ≤ b
cuts_ordered early late h [] a b p r = omega (arith, p)
cuts_ordered early late h (x ∷ L) zero b p r = omega arith
cuts_ordered early late h (x ∷ L) (suc a) zero p r = let k : true ≡ false = sym (h x p.0) ∙ r.0 in absurd (cc)
cuts_ordered early late h (x ∷ L) (suc a) (suc b) p r = let k = cuts_ordered early late h L a b p.1 r.1 in omega (arith, k)

side_is : (b : Bool) → is_lt (cond b Less Greater) ≡ b
side_is true = refl
side_is false = refl

pub edges_part : (text : List ℕ) (L : List (List ℕ × List ℕ)) (a b : ℕ) → IsCut (λ p. is_lt (order_by false p.0 text)) L a
    → IsCut (λ p. is_lt (order_by true p.0 text)) L b → sub L a b ≡ Some (filter (λ p. begins p.0 text) L)
edges_part text L a b first last =
    let early : List ℕ × List ℕ → Bool = λ p. is_lt (text_order p.0 text) in
    let late : List ℕ × List ℕ → Bool = λ p. passes text p.0 in
    let same : (λ (p : List ℕ × List ℕ). is_lt (order_by true p.0 text)) ≡ late = λ i p. side_is (passes text p.0) i in
    let cut : IsCut late L b = subst (λ t. IsCut t L b) same last in
    let o = cuts_ordered early late (λ p h. rw h refl) L a b first cut in
    sub_between early late L a b (b - a) b refl (omega (arith, o)) first cut ∙ (λ i. Some (filter (λ p. begins_by text p.0 i) L))
