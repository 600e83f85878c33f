-- What a source of a table's pairs reads between one state and a later one, and its laws.
use Rattle.std.specs.Prelude.{◌≡◌, ℕ, List, [], ◌∷◌, ◌++◌}
use Rattle.std.proofs.Common.{refl, sym, ap, ◌∙◌, append_assoc, length-append, add-zero, zero-add, arith}
use Rattle.name_table.specs.Parts.{Part, AreParts, Begins, text_parts, pair_parts}
use Rattle.name_table.specs.Positions.{IsAfter, Remaining}

-- t is s after some pairs were read
abbrev pub IsReadOn : Remaining → Remaining → Type 0
IsReadOn s t = (pairs : List (List ℕ × List ℕ)) × IsAfter s t pairs

pub AreParts-append : (a b : List ℕ) (xs ys : List Part) → AreParts a xs → AreParts b ys → AreParts (a ++ b) (xs ++ ys)
AreParts-append a b [] ys p q = rw p q
AreParts-append a b (x ∷ xs) ys p q =
    (p.0, p.1 ++ b, ap (λ c. c ++ b) p.2 ∙ append_assoc p.0 p.1 b, p.3, AreParts-append p.1 b xs ys p.4 q)

pub pair_parts-append : (J K : List (List ℕ × List ℕ)) → pair_parts (J ++ K) ≡ pair_parts J ++ pair_parts K
pair_parts-append [] K = refl
pair_parts-append (p ∷ J) K = ap (λ xs. text_parts p.0 ++ (text_parts p.1 ++ xs)) (pair_parts-append J K)

-- no parts
abbrev pub begins_none : (bytes : List ℕ) → Begins bytes [] bytes
begins_none bytes = record { front = []; split = refl; spelled = refl }

abbrev pub begins_then : (bytes middle rest : List ℕ) (xs ys : List Part) → Begins bytes xs middle → Begins middle ys rest
    → Begins bytes (xs ++ ys) rest
begins_then bytes middle rest xs ys p q = record {
  front = p.front ++ q.front;
  split = p.split ∙ ap (λ c. p.front ++ c) q.split ∙ sym (append_assoc p.front q.front rest);
  spelled = AreParts-append p.front q.front xs ys p.spelled q.spelled;
}

-- more pairs after pairs
abbrev pub begins_pairs : (bytes middle rest : List ℕ) (J K : List (List ℕ × List ℕ)) → Begins bytes (pair_parts J) middle
    → Begins middle (pair_parts K) rest → Begins bytes (pair_parts (J ++ K)) rest
begins_pairs bytes middle rest J K p q =
    let r = begins_then bytes middle rest (pair_parts J) (pair_parts K) p q in
    record { front = r.front; split = r.split; spelled = rw (pair_parts-append J K) r.spelled }

pub read_on_itself : (s : Remaining) → IsReadOn s s
read_on_itself s = ([], record { spelled = begins_none s.rest; place = sym (add-zero s.place); count = sym (zero-add s.left) })

pub after_further : (s t u : Remaining) (J K : List (List ℕ × List ℕ)) → IsAfter s t J → IsAfter t u K → IsAfter s u (J ++ K)
after_further s t u J K p q = record {
  spelled = begins_pairs s.rest t.rest u.rest J K p.spelled q.spelled;
  place = omega (arith, p.place, q.place, length-append p.spelled.front q.spelled.front);
  count = omega (arith, p.count, q.count, length-append J K);
}

pub read_on_further : (s t u : Remaining) → IsReadOn s t → IsReadOn t u → IsReadOn s u
read_on_further s t u p q = (p.0 ++ q.0, after_further s t u p.0 q.0 p.1 q.1)
