-- Parts, one after another, and their errors; numbers, one byte longer.
use Rattle.std.proofs.Common.{◌≡◌, ◌≢◌, ℕ, ◌+◌, ◌-◌, ◌*◌, ◌%◌, ◌^◌, ◌<◌, ◌≤◌, List, [], ◌∷◌, ◌++◌, length, refl, sym, ap, ◌∙◌, subst, arith, inl, inr}
use Rattle.std.proofs.Common.{append_assoc, append-nil, length-append, replicate, IsUtf8}
use Rattle.std.proofs.Math.Nat.{pow-succ', pow-le-pow_right}
use Rattle.std.proofs.lemmas.List.{length-replicate}
use Rattle.name_table.specs.{value_of, EndsAtLast, Part, Number, Text, IsPart, AreParts, Begins, text_parts, Position, IsPast, PartFault, Fault, TextFault}
use Rattle.name_table.specs.{BeginsNumber, WhyUnread, begins_then, NameFault, Truncated, NotUtf8, NumberTooLarge, MOST_BYTES, NUMBER_LIMIT}

pub AreParts-one : (bytes : List ℕ) (x : Part) → IsPart bytes x → AreParts bytes (x ∷ [])
AreParts-one bytes x p = (bytes, [], sym (append-nil bytes), p, refl)

-- what spells two lists of parts is a spelling of the first with one of the second after it
pub record Split (bytes : List ℕ) (xs ys : List Part) : Type 0 where
  pub first : List ℕ
  pub second : List ℕ
  pub joined : bytes ≡ first ++ second
  pub of_first : AreParts first xs
  pub of_second : AreParts second ys

pub AreParts-split : (bytes : List ℕ) (xs ys : List Part) → AreParts bytes (xs ++ ys) → Split bytes xs ys
AreParts-split bytes [] ys p = record { first = []; second = bytes; joined = refl; of_first = refl; of_second = p }
AreParts-split bytes (x ∷ xs) ys p =
    let s = AreParts-split p.1 xs ys p.4 in
    record {
      first = p.0 ++ s.first;
      second = s.second;
      joined = p.2 ∙ ap (λ c. p.0 ++ c) s.joined ∙ sym (append_assoc p.0 s.first s.second);
      of_first = (p.0, s.first, refl, p.3, s.of_first);
      of_second = s.of_second;
    }

-- a string of so many bytes after their number
pub begins_text : (bytes tail rest text : List ℕ) (size : ℕ) → Begins bytes (Number size ∷ []) tail → tail ≡ text ++ rest → length text ≡ size → IsUtf8 text
    → Begins bytes (text_parts text) rest
begins_text bytes tail rest text size p e l u =
    begins_then bytes tail rest (Number (length text) ∷ []) (Text text ∷ []) (rw l p)
    (record { front = text; split = e; spelled = AreParts-one text (Text text) (refl, u) })

-- the same from position to position
pub past_text : (s : Position) (tail rest text : List ℕ) (place size : ℕ) → IsPast s (record { rest = tail; place = place }) (Number size ∷ [])
    → tail ≡ text ++ rest → length text ≡ size → IsUtf8 text → IsPast s (record { rest = rest; place = place + size }) (text_parts text)
past_text s tail rest text place size p e l u =
    let b = begins_text s.rest tail rest text size p.spelled e l u in
    record {
      spelled = b;
      place = omega (
        arith,
        p.place,
        l,
        ap length p.spelled.split,
        length-append p.spelled.front tail,
        ap length b.split,
        length-append b.front rest,
        ap length e,
        length-append text rest,
      );
    }

-- what follows some parts begins where these end
pub begins_split : (bytes rest : List ℕ) (xs ys : List Part) → Begins bytes (xs ++ ys) rest → (middle : List ℕ) × Begins bytes xs middle × Begins middle ys rest
begins_split bytes rest xs ys p =
    let s = AreParts-split p.front xs ys p.spelled in (
      s.second ++ rest,
      record { front = s.first; split = p.split ∙ ap (λ c. c ++ rest) s.joined ∙ append_assoc s.first s.second rest; spelled = s.of_first },
      record { front = s.second; split = refl; spelled = s.of_second },
    )

-- ---- errors

after : (xs more : List Part) (front rest : List ℕ) (place : ℕ) (f : NameFault) → AreParts front xs → Fault more rest (place + length front) f
    → Fault (xs ++ more) (front ++ rest) place f
after [] more front rest place f p w =
    let n : place + length front ≡ place = omega (arith, ap length p) in
    subst (λ c. Fault more (c ++ rest) place f) (sym p) (subst (λ k. Fault more rest k f) n w)
after (x ∷ xs) more front rest place f p w =
    let n : place + length front ≡ place + length p.0 + length p.1 = omega (arith, ap length p.2, length-append p.0 p.1) in
    let e : front ++ rest ≡ p.0 ++ (p.1 ++ rest) = ap (λ c. c ++ rest) p.2 ∙ append_assoc p.0 p.1 rest in
    inr (p.0, p.1 ++ rest, e, p.3, after xs more p.1 rest (place + length p.0) f p.4 (subst (λ k. Fault more rest k f) n w))

-- one of the parts after those that were read can't be read
pub fault_after : (xs more : List Part) (bytes rest : List ℕ) (place next : ℕ) (f : NameFault) → (b : Begins bytes xs rest) → next ≡ place + length b.front
    → Fault more rest next f → Fault (xs ++ more) bytes place f
fault_after xs more bytes rest place next f b n w =
    subst (λ c. Fault (xs ++ more) c place f) (sym b.split) (after xs more b.front rest place f b.spelled (subst (λ k. Fault more rest k f) n w))

-- further parts come after
pub fault_more : (xs more : List Part) (bytes : List ℕ) (place : ℕ) (f : NameFault) → Fault xs bytes place f → Fault (xs ++ more) bytes place f
fault_more [] more bytes place f w = absurd w
fault_more (x ∷ xs) more bytes place f (inl w) = inl w
fault_more (x ∷ xs) more bytes place f (inr w) = inr (w.0, w.1, w.2, w.3, fault_more xs more w.1 (place + length w.0) f w.4)

-- a string, of which the length was read: some string is as long
pub text_fault : (bytes tail : List ℕ) (place next size : ℕ) (f : NameFault) → (b : Begins bytes (Number size ∷ []) tail) → next ≡ place + length b.front
    → ((text : List ℕ) → length text ≡ size → PartFault (Text text) tail next f) → TextFault bytes place f
text_fault bytes tail place next size f b n w =
    let text : List ℕ = replicate size 0 in
    let l : length text ≡ size = length-replicate size 0 in (
      text,
      subst (λ k. Fault (Number k ∷ Text text ∷ []) bytes place f) (sym l)
          (fault_after (Number size ∷ []) (Text text ∷ []) bytes tail place next f b n (inl (w text l))),
    )

-- ---- numbers

-- so many bytes have no greater value
pub value_of-small : (bytes : List ℕ) → value_of bytes < 128 ^ length bytes
value_of-small [] = omega arith
value_of-small (b ∷ bytes) = omega (arith, value_of-small bytes, pow-succ' 128 (length bytes))

pub value_of-four : (bytes : List ℕ) → length bytes ≤ 4 → value_of bytes < 268435456
value_of-four bytes h =
    let p : 128 ^ length bytes ≤ 128 ^ 4 = pow-le-pow_right {n = 128} (omega arith) {i = length bytes} {j = 4} h in
    omega (arith, p, value_of-small bytes)

pub EndsAtLast-more : (b : ℕ) (bytes : List ℕ) → 128 ≤ b → EndsAtLast bytes → EndsAtLast (b ∷ bytes)
EndsAtLast-more b [] h e = absurd e
EndsAtLast-more b (c ∷ bytes) h e = (h, e)

-- one byte, which stands before the others
module _ (bytes tail : List ℕ) (b low room : ℕ) (e : bytes ≡ b ∷ tail) (l : low ≡ b) (k : room ≢ 0) where
  pub begins_last : low < 128 → BeginsNumber bytes room low tail
  begins_last h = record {
    front = b ∷ [];
    split = e;
    ends = omega (arith, h, l);
    value = omega (arith, h, l);
    short = omega (arith, k);
  }

  pub begins_more : (n : ℕ) (rest : List ℕ) → 128 ≤ low → BeginsNumber tail (room - 1) n rest → BeginsNumber bytes room (low % 128 + 128 * n) rest
  begins_more n rest h r = record {
    front = b ∷ r.front;
    split = e ∙ ap (λ bs. b ∷ bs) r.split;
    ends = EndsAtLast-more b r.front (omega (arith, h, l)) r.ends;
    value = λ i. sym l i % 128 + 128 * r.value i;
    short = omega (arith, r.short, k);
  }

  pub unread_more : (f : NameFault) (place : ℕ) → 128 ≤ low → WhyUnread f place (room - 1) tail → WhyUnread f place room bytes
  unread_more (Truncated at) place h w = rw e (w.0, (omega (arith, h, l), w.1), omega (arith, w.2, k))
  unread_more (NumberTooLarge at) place h w =
      (b ∷ w.0, w.1, w.2, e ∙ ap (λ bs. b ∷ bs) w.3, (omega (arith, h, l), w.4), omega (arith, w.5, k))
  unread_more (NotUtf8 at) place h w = w

-- a number below 2^32
pub begins_number : (bytes rest : List ℕ) (n : ℕ) → BeginsNumber bytes MOST_BYTES n rest → n < NUMBER_LIMIT → Begins bytes (Number n ∷ []) rest
begins_number bytes rest n r h = record {
  front = r.front;
  split = r.split;
  spelled = (r.front, [], sym (append-nil r.front), record { ends = r.ends; value = r.value; short = r.short; small = h }, refl);
}

pub large_fault : (bytes rest : List ℕ) (n place : ℕ) → BeginsNumber bytes MOST_BYTES n rest → NUMBER_LIMIT ≤ n
    → PartFault (Number 0) bytes place (NumberTooLarge place)
large_fault bytes rest n place r h = (r.front, rest, refl, r.split, inr (r.ends, r.short, omega (arith, r.value, h)))

pub unread_fault : (f : NameFault) (bytes : List ℕ) (place : ℕ) → WhyUnread f place MOST_BYTES bytes → PartFault (Number 0) bytes place f
unread_fault (Truncated at) bytes place w = w
unread_fault (NumberTooLarge at) bytes place w = (w.0, w.1, w.2, w.3, inl (w.4, w.5))
unread_fault (NotUtf8 at) bytes place w = w
