use Rattle.litemap.proofs.Common.{arith, each-weaker, take, inl, inr, length, refl, sym, ap, ◌∙◌, true≢false, ⊎_elim, Rising-filter}
use Rattle.litemap.proofs.Bounded.{all_keys, each_between}
use Rattle.litemap.proofs.Cuts.{drop-cut, first_cut, last_cut, take-cut, within-cut}
use Rattle.litemap_store.proofs.Lists.Parts.{Rising-drop}
use Rattle.std.proofs.lemmas.List.{take-append-drop, nil_from_length}
use Rattle.litemap.proofs.Queried.{and_true, keeps_alike, keeps_part}
use Rattle.std.specs.declared.ops.Bound.TheVariants.{Excluded, Included, Unbounded}
use Rattle.litemap.proofs.map.LiteMap.split_off.Goals as goal

pub split_store-requires : goal.split_store-requires
split_store-requires g c = rw (ap (λ m. m.entries) c.self.view_is) (within-cut _ _ _ c.start_of-index.ensures.cut)

pub returns-in_err-later-clause-succeeds : goal.returns-in_err-later-clause-succeeds
returns-in_err-later-clause-succeeds g c = λ either.
    let cut = c.start_of-index.ensures.cut in
    let long = ap (λ m. length m.entries) (sym c.self.view_is) in
    absurd (true≢false (sym (c.in_err-later.ensures.succeeds (⊎_elim (λ b. inl (first_cut _ _ _ cut b)) (λ w. inr (last_cut _ _ _ cut w ∙ long)) either))))

pub from_sorted_store_unchecked-requires : goal.from_sorted_store_unchecked-requires
from_sorted_store_unchecked-requires g c =
    rw c.in_ok-later.ensures.later (Rising-drop g.K.Ord.cmp (g.S.Store.pairs c.self.inside.store) c.start_of-index.result c.self.invariant)

pub invariant_of-self-2 : goal.invariant_of-self-2
invariant_of-self-2 g c =
    rw (c.in_ok-later.ensures.stays, ap (λ m. m.entries) c.self.view_is, take-cut _ _ _ c.start_of-index.ensures.cut)
    (Rising-filter g.K.Ord.cmp _ _ (rw (ap (λ m. m.entries) c.self.view_is) at c.self.invariant))

pub returns-clause-below : goal.returns-clause-below
returns-clause-below g c =
    rw (c.in_ok-later.ensures.stays, ap (λ m. m.entries) c.self.view_is) (take-cut _ _ _ c.start_of-index.ensures.cut)

pub returns-clause-from : goal.returns-clause-from
returns-clause-from g c =
    c.from_sorted_store_unchecked.ensures.pairs ∙ rw (c.in_ok-later.ensures.later, ap (λ m. m.entries) c.self.view_is)
    (drop-cut _ _ _ c.start_of-index.ensures.cut)

pub returns-clause-all : goal.returns-clause-all
returns-clause-all g c =
    rw (c.from_sorted_store_unchecked.ensures.pairs, c.in_ok-later.ensures.stays, c.in_ok-later.ensures.later, ← c.self.view_is)
    (take-append-drop c.start_of-index.result _)

pub returns-clause-unchanged_at_end : goal.returns-clause-unchanged_at_end
returns-clause-unchanged_at_end g c = λ none.
    let last = last_cut _ _ _ c.start_of-index.ensures.cut none in
    rw (c.in_ok-later.ensures.unchanged_at_end (last ∙ ap (λ m. length m.entries) (sym c.self.view_is))) c.self.view_is

pub returns-clause-whole : goal.returns-clause-whole
returns-clause-whole g c = λ none some.
    let zero = first_cut _ _ _ c.start_of-index.ensures.cut none in
    let later = c.in_ok-later.ensures.whole zero (λ long. some (nil_from_length _ (ap (λ m. length m.entries) (sym c.self.view_is) ∙ sym long ∙ zero))) in
    rw (← c.self.view_is, ← later, ← c.from_sorted_store_unchecked.ensures.pairs, ← c.from_sorted_store_unchecked.ensures.room) refl

pub returns-clause-room : goal.returns-clause-room
returns-clause-room g c = λ keeps some.
    let none = sym (take-cut _ _ _ c.start_of-index.ensures.cut) in
    let kept = c.in_ok-later.ensures.room keeps (λ zero. some (none ∙ ap (λ n. take n c.args.self.now.entries) zero)) in
    omega (arith, kept, ap (λ m. m.room) c.self.view_is, ap length (c.from_sorted_store_unchecked.ensures.pairs ∙ c.in_ok-later.ensures.later))

pub returns-clause-stays : goal.returns-clause-stays
returns-clause-stays g c = keeps_part _ c.args.self.now.entries _ (returns-clause-below g c)

pub returns-clause-goes : goal.returns-clause-goes
returns-clause-goes g c = keeps_alike _ _ c.args.self.now.entries _ (λ p. and_true _) (returns-clause-from g c)

pub returns-clause-all_below : goal.returns-clause-all_below
returns-clause-all_below g c =
    let q = g.Q.Query.sought c.args.key in
    let each = each_between g.Q.Query.order Unbounded (Excluded q) c.args.self.now.entries _ (returns-clause-below g c) in
    all_keys _ _ (each-weaker (λ p b. b.1) _ each)

pub returns-clause-all_from : goal.returns-clause-all_from
returns-clause-all_from g c =
    let q = g.Q.Query.sought c.args.key in
    let each = each_between g.Q.Query.order (Included q) Unbounded c.args.self.now.entries _ (returns-clause-from g c) in
    all_keys _ _ (each-weaker (λ p b. b.0) _ each)
