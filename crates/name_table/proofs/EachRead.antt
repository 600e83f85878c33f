-- Each list of bytes begins with a table, or has an error.
use Rattle.std.proofs.Common.{◌≡◌, ◌≢◌, ◌⊎◌, inl, inr, ℕ, zero, suc, ◌+◌, ◌-◌, ◌*◌, ◌%◌, ◌≤◌, Bool, true, false, List, [], ◌∷◌, length, take, drop, refl, sym}
use Rattle.std.proofs.Common.{arith, ⊎_elim, length-take-le, take-append-drop}
use Rattle.std.proofs.lemmas.Bool.{cases_lt}
use Rattle.std.proofs.lemmas.Str.{IsUtf8-from_is_utf8, is_utf8-from_IsUtf8}
use Rattle.std.specs.Str.{is_utf8}
use Rattle.name_table.specs.{Begins, Number, pair_parts, table_parts, text_parts, Position, IsAfter, IsCounted, Remaining, Fault, PartFault, TextFault}
use Rattle.name_table.specs.{PairsFault, BeginsNumber, WhyUnread, begins_none, begins_pairs, begins_then, NameFault, Truncated, NotUtf8, NumberTooLarge}
use Rattle.name_table.specs.{MOST_BYTES, NUMBER_LIMIT}
use Rattle.name_table.proofs.PartLemmas.{begins_last, begins_more, begins_number, begins_text, large_fault, text_fault, unread_fault, unread_more}
use Rattle.name_table.proofs.Remains.{fault_later, is_next, key_fault, pairs_fault, pairs_from_next, value_fault}

-- ---- a number

abbrev NumberRead : ℕ → List ℕ → ℕ → Type 0
NumberRead room bytes place = ((n : ℕ) × (rest : List ℕ) × BeginsNumber bytes room n rest) ⊎ ((f : NameFault) × WhyUnread f place room bytes)

number_read : (room : ℕ) (bytes : List ℕ) (place : ℕ) → NumberRead room bytes place
number_read zero bytes place = inr (NumberTooLarge place, ([], bytes, refl, refl, tt, refl))
number_read (suc room) [] place = inr (Truncated place, (refl, tt, omega arith))
number_read (suc room) (b ∷ bytes) place =
    let k : suc room ≢ 0 = λ e. omega (arith, e) in
    let less : suc room - 1 ≡ room = omega arith in
    let more : 128 ≤ b → NumberRead room bytes place → NumberRead (suc room) (b ∷ bytes) place = λ h.
    ⊎_elim
    (λ r. inl (b % 128 + 128 * r.0, r.1, begins_more (b ∷ bytes) bytes b b (suc room) refl refl k r.0 r.1 h (rw less r.2)))
    (λ w. inr (w.0, unread_more (b ∷ bytes) bytes b b (suc room) refl refl k w.0 place h (rw less w.1))) in
    ⊎_elim (λ h. inl (b, bytes, begins_last (b ∷ bytes) bytes b b (suc room) refl refl k h)) (λ h. more h (number_read room bytes place)) (cases_lt b 128)

-- a number below 2^32
abbrev LengthRead : List ℕ → ℕ → Type 0
LengthRead bytes place = ((n : ℕ) × (rest : List ℕ) × Begins bytes (Number n ∷ []) rest) ⊎ ((f : NameFault) × PartFault (Number 0) bytes place f)

length_read : (bytes : List ℕ) (place : ℕ) → LengthRead bytes place
length_read bytes place =
    ⊎_elim
    (λ r. ⊎_elim
    (λ h. inl (r.0, r.1, begins_number bytes r.1 r.0 r.2 h))
    (λ h. inr (NumberTooLarge place, large_fault bytes r.1 r.0 place r.2 h))
    (cases_lt r.0 NUMBER_LIMIT))
    (λ w. inr (w.0, unread_fault w.0 bytes place w.1))
    (number_read MOST_BYTES bytes place)

-- ---- a string

abbrev TextRead : List ℕ → ℕ → Type 0
TextRead bytes place = ((text : List ℕ) × (rest : List ℕ) × Begins bytes (text_parts text) rest) ⊎ ((f : NameFault) × TextFault bytes place f)

sized_read : (bytes tail : List ℕ) (place size : ℕ) → Begins bytes (Number size ∷ []) tail → size ≤ length tail → (b : Bool) → is_utf8 (take size tail) ≡ b
    → TextRead bytes place
sized_read bytes tail place size n h true u =
    inl (
      take size tail,
      drop size tail,
      begins_text bytes tail (drop size tail) (take size tail) size n (sym (take-append-drop size tail))
          (length-take-le size tail h) (IsUtf8-from_is_utf8 (take size tail) u),
    )
sized_read bytes tail place size n h false u =
    let next = place + length n.front in
    inr (
      NotUtf8 next,
      text_fault bytes tail place next size (NotUtf8 next) n refl
          (λ text l. (
            refl,
            omega (arith, l, h),
            λ v. let w : is_utf8 (take size tail) ≡ true = is_utf8-from_IsUtf8 (take size tail) (rw l at v) in
                absurd (cc),
          )),
    )

text_read : (bytes : List ℕ) (place : ℕ) → TextRead bytes place
text_read bytes place =
    ⊎_elim
    (λ r. let next = place + length r.2.front in
    ⊎_elim
    (λ h. inr (Truncated next, text_fault bytes r.1 place next r.0 (Truncated next) r.2 refl (λ text l. (refl, omega (arith, l, h)))))
    (λ h. sized_read bytes r.1 place r.0 r.2 h (is_utf8 (take r.0 r.1)) refl)
    (cases_lt (length r.1) r.0))
    (λ w. inr (w.0, ([], inl w.1)))
    (length_read bytes place)

-- ---- pairs

abbrev PairsRead : Remaining → Type 0
PairsRead s =
    ((pairs : List (List ℕ × List ℕ)) × (rest : List ℕ) × Begins s.rest (pair_parts pairs) rest × (length pairs ≡ s.left))
    ⊎ ((f : NameFault) × PairsFault s f)

pairs_read : (n : ℕ) (s : Remaining) → s.left ≡ n → PairsRead s
pairs_read zero s e = inl ([], s.rest, begins_none s.rest, sym e)
pairs_read (suc n) s e =
    let h : s.left ≢ 0 = λ z. omega (arith, z, e) in
    ⊎_elim
    (λ k. let middle : Position = record { rest = k.1; place = s.place + length k.2.front } in
    ⊎_elim
    (λ v. let after : Position = record { rest = v.1; place = middle.place + length v.2.front } in
    let t : Remaining = record { rest = after.rest; place = after.place; left = s.left - 1 } in
    let next : IsAfter s t ((k.0, v.0) ∷ []) =
    is_next s k.0 v.0 middle after (record { spelled = k.2; place = refl }) (record { spelled = v.2; place = refl }) h in
    ⊎_elim
    (λ r. inl ((k.0, v.0) ∷ r.0, r.1, begins_pairs s.rest t.rest r.1 ((k.0, v.0) ∷ []) r.0 next.spelled r.2, omega (arith, r.3, next.count)))
    (λ f. inr (f.0, fault_later s t (k.0, v.0) next f.0 f.1))
    (pairs_read n t (omega (arith, e))))
    (λ f. inr (f.0, pairs_from_next s f.0 (value_fault s k.1 k.0 middle.place f.0 h k.2 refl f.1)))
    (text_read k.1 middle.place))
    (λ f. inr (f.0, pairs_from_next s f.0 (key_fault s f.0 h f.1)))
    (text_read s.rest s.place)

-- ---- a table

pub table_read : (bytes : List ℕ) → ((pairs : List (List ℕ × List ℕ)) × (rest : List ℕ) × Begins bytes (table_parts pairs) rest)
    ⊎ ((error : NameFault) × ((pairs : List (List ℕ × List ℕ)) × Fault (table_parts pairs) bytes 0 error))
table_read bytes =
    ⊎_elim
    (λ r.
    let s : Remaining = record { rest = r.1; place = length r.2.front; left = r.0 } in
    let c : IsCounted bytes s = record { spelled = r.2; place = refl } in
    ⊎_elim
    (λ p. inl (p.0, p.1, begins_then bytes r.1 p.1 (Number (length p.0) ∷ []) (pair_parts p.0) (rw p.3 r.2) p.2))
    (λ f. inr (f.0, pairs_fault bytes s f.0 c f.1))
    (pairs_read r.0 s refl))
    (λ w. inr (w.0, ([], inl w.1)))
    (length_read bytes 0)
