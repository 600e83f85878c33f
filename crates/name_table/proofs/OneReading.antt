-- Bytes begin with one spelling at most, and have one reading: a table, or an error.
use Rattle.std.proofs.Common.{◌≡◌, ℕ, ◌+◌, ◌≤◌, List, [], ◌∷◌, ◌++◌, length, refl, sym, ap, ◌∙◌, subst, arith, inl, inr, ⊎_elim, append_assoc, append-nil}
use Rattle.std.proofs.Common.{length-append, IsUtf8}
use Rattle.std.proofs.lemmas.List.{append_cancel_left, take_at}
use Rattle.std.specs.List.{AllByRecursion}
use Rattle.name_table.specs.{value_of, EndsAtLast, Part, Number, Text, IsPart, AreParts, Begins, text_parts, pair_parts, table_parts, Fault, PartFault}
use Rattle.name_table.specs.{NameFault, Truncated, NotUtf8, NumberTooLarge}

-- ---- numbers and strings

same_front : (a b u v : List ℕ) → length a ≡ length b → a ++ u ≡ b ++ v → a ≡ b
same_front [] [] u v h e = refl
same_front (p ∷ ps) (q ∷ bs) u v h e =
    let k : ps ++ u ≡ bs ++ v = cc in
    let i : p ≡ q = cc in
    let j = same_front ps bs u v (omega (arith, h)) k in
    λ l. i l ∷ j l
same_front _ _ u v h e = absurd (omega arith)

pub same_rest : (a b u v : List ℕ) → a ≡ b → a ++ u ≡ b ++ v → u ≡ v
same_rest a b u v h e = append_cancel_left b u v (ap (λ c. c ++ u) (sym h) ∙ e)

ends_unique : (a b u v : List ℕ) → EndsAtLast a → EndsAtLast b → a ++ u ≡ b ++ v → a ≡ b
ends_unique [] b u v s t e = absurd s
ends_unique (p ∷ ps) [] u v s t e = absurd t
ends_unique (p ∷ []) (q ∷ []) u v s t e = let h : p ≡ q = cc in ap (λ r. r ∷ []) h
ends_unique (p ∷ []) (q ∷ r ∷ bs) u v s t e = let h : p ≡ q = cc in absurd (omega (arith, s, t.0, h))
ends_unique (p ∷ r ∷ ps) (q ∷ []) u v s t e = let h : p ≡ q = cc in absurd (omega (arith, s.0, t, h))
ends_unique (p ∷ r ∷ ps) (q ∷ o ∷ bs) u v s t e =
    let h : p ≡ q = cc in
    let k : (r ∷ ps) ++ u ≡ (o ∷ bs) ++ v = cc in
    let i = ends_unique (r ∷ ps) (o ∷ bs) u v s.1 t.1 k in
    λ l. h l ∷ i l

-- bytes that end a number don't go on
pub ends_goes_on : (a u : List ℕ) → EndsAtLast a → AllByRecursion (λ b. 128 ≤ b) (a ++ u) → ⊥
ends_goes_on [] u s g = s
ends_goes_on (p ∷ []) u s g = omega (arith, s, g.0)
ends_goes_on (p ∷ q ∷ ps) u s g = ends_goes_on (q ∷ ps) u s.1 g.1

ends_long : (a u front rest : List ℕ) → EndsAtLast a → length a ≤ length front → AllByRecursion (λ b. 128 ≤ b) front → a ++ u ≡ front ++ rest → ⊥
ends_long [] u front rest s h g e = s
ends_long (p ∷ ps) u [] rest s h g e = omega (arith, h)
ends_long (p ∷ []) u (f ∷ front) rest s h g e = let k : p ≡ f = cc in omega (arith, s, g.0, k)
ends_long (p ∷ q ∷ ps) u (f ∷ front) rest s h g e = let k : (q ∷ ps) ++ u ≡ front ++ rest = cc in ends_long (q ∷ ps) u front rest s.1 (omega (arith, h)) g.1 k

-- ---- parts

-- two parts of a kind: numbers, or strings of the same number of bytes
abbrev pub IsLike : Part → Part → Type 0
IsLike (Number n) (Number m) = Unit {0}
IsLike (Text s) (Text t) = length s ≡ length t
IsLike _ _ = ⊥

-- what is spelled in two, with more after it
pub regroup : (whole a b u : List ℕ) → whole ≡ a ++ b → whole ++ u ≡ a ++ (b ++ u)
regroup whole a b u e = ap (λ c. c ++ u) e ∙ append_assoc a b u

-- two lists of parts: as long as they are the same the next parts are of a kind, and both end together
abbrev pub Agree : List Part → List Part → Type 0
Agree [] [] = Unit {0}
Agree (x ∷ xs) (y ∷ ys) = IsLike x y × (x ≡ y → Agree xs ys)
Agree _ _ = ⊥

pub part_unique : (x y : Part) (a b u v : List ℕ) → IsPart a x → IsPart b y → IsLike x y → a ++ u ≡ b ++ v → (a ≡ b) × (x ≡ y)
part_unique (Number n) (Number m) a b u v p q l e =
    let h = ends_unique a b u v p.ends q.ends e in
    (h, ap (λ i. Number i) (sym p.value ∙ ap value_of h ∙ q.value))
part_unique (Text s) (Text t) a b u v p q l e =
    let h = same_front a b u v (ap length p.0 ∙ l ∙ sym (ap length q.0)) e in
    (h, ap (λ i. Text i) (sym p.0 ∙ h ∙ q.0))
part_unique _ _ a b u v p q l e = absurd l

-- bytes that begin with a part have no error of such a part
pub part_clash : (x due : Part) (a u : List ℕ) (place : ℕ) (f : NameFault) → IsPart a x → IsLike x due → PartFault due (a ++ u) place f → ⊥
part_clash (Number n) (Number m) a u place (Truncated at) p l w = ends_goes_on a u p.ends w.1
part_clash (Number n) (Number m) a u place (NotUtf8 at) p l w = w
part_clash (Number n) (Number m) a u place (NumberTooLarge at) p l w =
    ⊎_elim
    (λ g. ends_long a u w.0 w.1 p.ends (omega (arith, p.short, g.1)) g.0 w.3)
    (λ g. omega (arith, p.small, p.value, g.2, ap value_of (ends_unique a w.0 u w.1 p.ends g.0 w.3)))
    w.4
part_clash (Text s) (Text t) a u place (Truncated at) p l w = omega (arith, w.1, ap length p.0, l, length-append a u)
part_clash (Text s) (Text t) a u place (NotUtf8 at) p l w =
    let v : IsUtf8 a = rw p.0 p.1 in w.2 (rw (take_at a u (length t) (ap length p.0 ∙ l)) v)
part_clash (Text s) (Text t) a u place (NumberTooLarge at) p l w = w
part_clash _ _ a u place f p l w = l

-- ---- lists of parts

-- two that agree, spelled where the same bytes begin, are one
pub parts_unique : (xs ys : List Part) (a b u v : List ℕ) → Agree xs ys → AreParts a xs → AreParts b ys → a ++ u ≡ b ++ v → (a ≡ b) × (xs ≡ ys)
parts_unique [] [] a b u v g p q e = (p ∙ sym q, refl)
parts_unique (x ∷ xs) (y ∷ ys) a b u v g p q e =
    let f : p.0 ++ (p.1 ++ u) ≡ q.0 ++ (q.1 ++ v) = sym (regroup a p.0 p.1 u p.2) ∙ e ∙ regroup b q.0 q.1 v q.2 in
    let h = part_unique x y p.0 q.0 _ _ p.3 q.3 g.0 f in
    let i = parts_unique xs ys p.1 q.1 u v (g.1 h.1) p.4 q.4 (same_rest p.0 q.0 _ _ h.0 f) in
    (p.2 ∙ (λ l. h.0 l ++ i.0 l) ∙ sym q.2, λ l. h.1 l ∷ i.1 l)
parts_unique _ _ a b u v g p q e = absurd g

-- the same of bytes that begin with them
pub begins_unique : {xs ys : List Part} {u v : List ℕ} (bytes : List ℕ) → Agree xs ys → (p : Begins bytes xs u) → (q : Begins bytes ys v)
    → (p.front ≡ q.front) × (xs ≡ ys) × (u ≡ v)
begins_unique {xs} {ys} {u} {v} bytes g p q =
    let e : p.front ++ u ≡ q.front ++ v = sym p.split ∙ q.split in
    let h = parts_unique xs ys p.front q.front u v g p.spelled q.spelled e in
    (h.0, h.1, same_rest p.front q.front u v h.0 e)

-- ---- errors

-- if bytes begin with parts like these, their error is one of what comes after them
pub fault_past : (xs ys more : List Part) (front rest bytes : List ℕ) (place : ℕ) (f : NameFault) → Agree xs ys → AreParts front xs → bytes ≡ front ++ rest
    → Fault (ys ++ more) bytes place f → Fault more rest (place + length front) f
fault_past [] [] more front rest bytes place f g p e w =
    let r : bytes ≡ rest = e ∙ ap (λ c. c ++ rest) p in
    let n : place ≡ place + length front = omega (arith, ap length p) in
    subst (λ k. Fault more rest k f) n (subst (λ c. Fault more c place f) r w)
fault_past (x ∷ xs) (y ∷ ys) more front rest bytes place f g p e (inl w) =
    let k : bytes ≡ p.0 ++ (p.1 ++ rest) = e ∙ regroup front p.0 p.1 rest p.2 in
    absurd (part_clash x y p.0 (p.1 ++ rest) place f p.3 g.0 (subst (λ c. PartFault y c place f) k w))
fault_past (x ∷ xs) (y ∷ ys) more front rest bytes place f g p e (inr w) =
    let k : p.0 ++ (p.1 ++ rest) ≡ w.0 ++ w.1 = sym (e ∙ regroup front p.0 p.1 rest p.2) ∙ w.2 in
    let h = part_unique x y p.0 w.0 (p.1 ++ rest) w.1 p.3 w.3 g.0 k in
    let r : w.1 ≡ p.1 ++ rest = sym (same_rest p.0 w.0 (p.1 ++ rest) w.1 h.0 k) in
    let n : place + length w.0 + length p.1 ≡ place + length front = omega (arith, ap length p.2, length-append p.0 p.1, ap length h.0) in
    subst (λ k. Fault more rest k f) n (fault_past xs ys more p.1 rest w.1 (place + length w.0) f (g.1 h.1) p.4 r w.4)
fault_past _ _ more front rest bytes place f g p e w = absurd g

-- parts like those that the bytes begin with have no error
pub parts_no_fault : (xs ys : List Part) (bytes rest : List ℕ) (place : ℕ) (f : NameFault) → Agree xs ys → Begins bytes xs rest → Fault ys bytes place f → ⊥
parts_no_fault xs ys bytes rest place f g b w =
    fault_past xs ys [] b.front rest bytes place f g b.spelled b.split (subst (λ zs. Fault zs bytes place f) (sym (append-nil ys)) w)

cut_not_large : (bytes : List ℕ) (place a b : ℕ) → PartFault (Number 0) bytes place (Truncated a) → PartFault (Number 0) bytes place (NumberTooLarge b) → ⊥
cut_not_large bytes place a b p l =
    ⊎_elim (λ g. omega (arith, p.2, g.1, ap length l.3, length-append l.0 l.1))
    (λ g. ends_goes_on l.0 l.1 g.0 (rw (← l.3) p.1)) l.4

part_fault_unique : (x y : Part) (bytes : List ℕ) (place : ℕ) (f g : NameFault) → IsLike x y → PartFault x bytes place f → PartFault y bytes place g → f ≡ g
part_fault_unique (Number n) (Number m) bytes place (Truncated a) (Truncated b) l p q = ap (λ i. Truncated i) (p.0 ∙ sym q.0)
part_fault_unique (Number n) (Number m) bytes place (Truncated a) (NumberTooLarge b) l p q = absurd (cut_not_large bytes place a b p q)
part_fault_unique (Number n) (Number m) bytes place (NumberTooLarge a) (Truncated b) l p q = absurd (cut_not_large bytes place b a q p)
part_fault_unique (Number n) (Number m) bytes place (NumberTooLarge a) (NumberTooLarge b) l p q = ap (λ i. NumberTooLarge i) (p.2 ∙ sym q.2)
part_fault_unique (Number n) (Number m) bytes place (NotUtf8 a) g l p q = absurd p
part_fault_unique (Number n) (Number m) bytes place _ _ l p q = absurd q
part_fault_unique (Text s) (Text t) bytes place (Truncated a) (Truncated b) l p q = ap (λ i. Truncated i) (p.0 ∙ sym q.0)
part_fault_unique (Text s) (Text t) bytes place (NotUtf8 a) (NotUtf8 b) l p q = ap (λ i. NotUtf8 i) (p.0 ∙ sym q.0)
part_fault_unique (Text s) (Text t) bytes place (Truncated a) (NotUtf8 b) l p q = absurd (omega (arith, l, p.1, q.1))
part_fault_unique (Text s) (Text t) bytes place (NotUtf8 a) (Truncated b) l p q = absurd (omega (arith, l, p.1, q.1))
part_fault_unique (Text s) (Text t) bytes place (NumberTooLarge a) g l p q = absurd p
part_fault_unique (Text s) (Text t) bytes place _ _ l p q = absurd q
part_fault_unique _ _ bytes place f g l p q = absurd l

like_sym : (x y : Part) → IsLike x y → IsLike y x
like_sym (Number n) (Number m) l = tt
like_sym (Text s) (Text t) l = sym l
like_sym _ _ l = l

-- neither of two errors comes after the other
pub fault_unique : (xs ys : List Part) (bytes : List ℕ) (place : ℕ) (f h : NameFault) → Agree xs ys → Fault xs bytes place f → Fault ys bytes place h → f ≡ h
fault_unique (x ∷ xs) (y ∷ ys) bytes place f h g (inl p) (inl q) = part_fault_unique x y bytes place f h g.0 p q
fault_unique (x ∷ xs) (y ∷ ys) bytes place f h g (inl p) (inr q) =
    absurd (part_clash y x q.0 q.1 place f q.3 (like_sym x y g.0) (subst (λ c. PartFault x c place f) q.2 p))
fault_unique (x ∷ xs) (y ∷ ys) bytes place f h g (inr p) (inl q) = absurd (part_clash x y p.0 p.1 place h p.3 g.0 (subst (λ c. PartFault y c place h) p.2 q))
fault_unique (x ∷ xs) (y ∷ ys) bytes place f h g (inr p) (inr q) =
    let k : p.0 ++ p.1 ≡ q.0 ++ q.1 = sym p.2 ∙ q.2 in
    let u = part_unique x y p.0 q.0 p.1 q.1 p.3 q.3 g.0 k in
    let r : p.1 ≡ q.1 = same_rest p.0 q.0 p.1 q.1 u.0 k in
    fault_unique xs ys q.1 (place + length q.0) f h (g.1 u.1)
    (subst (λ c. Fault xs q.1 (place + length c) f) u.0 (subst (λ c. Fault xs c (place + length p.0) f) r p.4)) q.4
fault_unique [] _ bytes place f h g p q = absurd p
fault_unique _ [] bytes place f h g p q = absurd q

-- ---- lists of pairs

pub agree_texts : (s t : List ℕ) (xs ys : List Part) → (length s ≡ length t → s ≡ t → Agree xs ys) → Agree (text_parts s ++ xs) (text_parts t ++ ys)
agree_texts s t xs ys h = (tt, λ n. let l : length s ≡ length t = cc in (l, λ m. h l cc))

pub agree_pairs : (J K : List (List ℕ × List ℕ)) → length J ≡ length K → Agree (pair_parts J) (pair_parts K)
agree_pairs [] [] e = tt
agree_pairs (p ∷ J) (q ∷ K) e =
    agree_texts p.0 q.0 (text_parts p.1 ++ pair_parts J) (text_parts q.1 ++ pair_parts K)
    (λ _ _. agree_texts p.1 q.1 (pair_parts J) (pair_parts K) (λ _ _. agree_pairs J K (omega (arith, e))))
agree_pairs _ _ e = absurd (omega arith)

pub agree_tables : (J K : List (List ℕ × List ℕ)) → Agree (table_parts J) (table_parts K)
agree_tables J K = (tt, λ n. let l : length J ≡ length K = cc in agree_pairs J K l)

-- the parts of as many pairs tell the pairs
pub pair_parts-inj : (J K : List (List ℕ × List ℕ)) → pair_parts J ≡ pair_parts K → J ≡ K
pair_parts-inj [] [] e = refl
pair_parts-inj (p ∷ J) (q ∷ K) e =
    let k : p.0 ≡ q.0 = cc in
    let v : p.1 ≡ q.1 = cc in
    let r : pair_parts J ≡ pair_parts K = cc in
    let i = pair_parts-inj J K r in
    λ l. (k l, v l) ∷ i l
pair_parts-inj _ _ e = absurd cc

-- ---- tables

pub table_unique : (bytes : List ℕ) (J K : List (List ℕ × List ℕ)) (rest rest' : List ℕ) → Begins bytes (table_parts J) rest
    → Begins bytes (table_parts K) rest' → (J ≡ K) × (rest ≡ rest')
table_unique bytes J K rest rest' p q =
    let u = begins_unique bytes (agree_tables J K) p q in
    let f : table_parts J ≡ table_parts K = u.1 in
    let g : pair_parts J ≡ pair_parts K = cc in
    (pair_parts-inj J K g, u.2)

pub table_no_fault : (bytes : List ℕ) (J K : List (List ℕ × List ℕ)) (rest : List ℕ) (error : NameFault) → Begins bytes (table_parts J) rest
    → Fault (table_parts K) bytes 0 error → ⊥
table_no_fault bytes J K rest error p w = parts_no_fault (table_parts J) (table_parts K) bytes rest 0 error (agree_tables J K) p w
