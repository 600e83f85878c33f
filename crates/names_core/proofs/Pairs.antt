-- The text and the tokens of pairs, one after another.
use Rattle.std.proofs.Common.{◌≡◌, ◌∙◌, ◌==◌, ◌+◌, ◌<◌, ◌++◌, ◌∷◌, ℕ, true, false, List, [], String, IfSome, ap, append_assoc, arith, flat_map, inl}
use Rattle.std.proofs.Common.{inr, length, map, refl, slice_get, sym, take}
use Rattle.std.proofs.lemmas.List.{flat_map_more, take_more}
use Rattle.std.proofs.lemmas.Option.{slice_get_cases}
use Rattle.json.specs.Print.{print, print_from, quoted}
use Rattle.json.specs.Token.{begin_object, end_object}
use Rattle.names_core.specs.Reply.{pair_bytes, pair_tokens}
use Rattle.names_core.specs.Told.{json_text, later_members, member_text}

-- what one more element adds after a front
pub flat_map_one_more : {A B : Type 0} (front : List B) (f : A → List B) (xs : List A) (i : ℕ) (old new : List B) → i < length xs
    → old ≡ front ++ flat_map f (take i xs) → IfSome (slice_get xs i) (λ x. new ≡ old ++ f x) → new ≡ front ++ flat_map f (take (i + 1) xs)
flat_map_one_more front f xs i old new low so_far more =
    elim (slice_get_cases xs i).1 [
      | inl (x, h, is, got) ↦ rw (take_more xs i x low, got, ← flat_map_more f front (take i xs) x, ← so_far) (rw is at more)
      | inr (past, none) ↦ absurd (omega arith)
    ]

-- a member's text, in the order in which its tokens are written
regroup : (name value rest : List ℕ) → (name ++ 58 ∷ []) ++ (value ++ rest) ≡ (name ++ (58 ∷ value)) ++ rest
regroup name value rest = simp append_assoc

print-later : {A : Type 0} (L : List (String A × String A)) → print_from true (flat_map (λ p. pair_tokens (pair_bytes p)) L ++ (end_object ∷ []))
    ≡ later_members (map pair_bytes L) ++ (125 ∷ [])
unfolding print_from
print-later [] = refl
print-later (p ∷ L) =
    rw (print-later L) (ap (λ t. 44 ∷ t)
    (regroup (quoted (pair_bytes p).0) (quoted (pair_bytes p).1) _
    ∙ sym (append_assoc (member_text (pair_bytes p)) (later_members (map pair_bytes L)) (125 ∷ []))))

pub print-object : {A : Type 0} (L : List (String A × String A)) → (length L == 0) ≡ false
    → print (begin_object ∷ (flat_map (λ p. pair_tokens (pair_bytes p)) L ++ (end_object ∷ []))) ≡ json_text (map pair_bytes L)
unfolding print_from
print-object [] some = absurd cc
print-object (p ∷ L) some = rw (print-later L) (ap (λ t. 123 ∷ t) (regroup (quoted (pair_bytes p).0) (quoted (pair_bytes p).1) _))
