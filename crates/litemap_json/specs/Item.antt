-- Which value of a type a JSON tree spells, or why it spells none, and which key a string spells. A value is seen as its tree.
use Rattle.std.specs.Prelude.{◌≡◌, ◌≢◌, ℕ, ◌^◌, nat_lt, ℤ, pos, negsuc, List, Bool, true, false, if◌then◌else◌}
use Rattle.std.specs.Prelude.{Option, Some, None, Result, Ok, Err, ok_or, option_and_then, option_map}
use Rattle.std.specs.Fmt.{signed_decimal}
use Rattle.std.specs.Str.{bytes_eq}
use Rattle.std.specs.Str.Parse.{true_text, false_text, signed_digits_value}
use Rattle.serde_json.specs.Data.{Num, Data, boolean, number, string, array, Items, no_items, item}
use Rattle.serde_json.specs.Find.{as_number, as_integer, as_bool, as_str, of_integer}
use Rattle.serde_json.specs.Read.{number_of}
use Rattle.litemap_json.specs.declared.item.ItemFault.{ItemFault}
use Rattle.litemap_json.specs.declared.item.ItemFault.TheVariants.{Shape, Range, Float}

-- r, as `see` sees it, is the value or the error that a is; or memory ran out
abbrev pub Reads : {T S E : Type 0} → E → (T → S) → Result S E → Result T E → Type 0
Reads memory see a (Ok x) = a ≡ Ok (see x)
Reads memory see a (Err e) = e ≢ memory → a ≡ Err e

-- ---- whole numbers

-- from 0 to 2 ^ bits - 1
abbrev pub unsigned_fits : ℕ → ℤ → Bool
unsigned_fits bits (pos n) = nat_lt n (2 ^ bits)
unsigned_fits bits (negsuc n) = false

-- from - 2 ^ bits to 2 ^ bits - 1; `negsuc n` is - (n + 1)
abbrev pub signed_fits : ℕ → ℤ → Bool
signed_fits bits (pos n) = nat_lt n (2 ^ bits)
signed_fits bits (negsuc n) = nat_lt n (2 ^ bits)

-- the tree of a whole number
abbrev pub whole_json : ℤ → Data
whole_json z = number (of_integer z)

abbrev or_float : Option Num → Result ℤ ItemFault
or_float None = Err Shape
or_float (Some n) = ok_or (as_integer n) Float

-- the whole number that a tree is
abbrev pub whole_of : Data → Result ℤ ItemFault
whole_of d = or_float (as_number d)

abbrev pub in_range : (ℤ → Bool) → Result ℤ ItemFault → Result Data ItemFault
in_range fits (Err e) = Err e
in_range fits (Ok z) = if fits z then Ok (whole_json z) else Err Range

-- a whole number that fits
abbrev pub whole_item : (ℤ → Bool) → Data → Result Data ItemFault
whole_item fits d = in_range fits (whole_of d)

-- the whole number that the text of a JSON number is
abbrev pub whole_text : List ℕ → Result ℤ ItemFault
whole_text s = ok_or (option_and_then as_integer (number_of s)) Float

-- the whole number whose decimal digits are s: no plus sign, no leading zeros, `-` only before a negative number
abbrev pub whole_of_text : List ℕ → Option ℤ
whole_of_text s = let z = signed_digits_value 10 s in if bytes_eq (signed_decimal z) s then Some z else None

-- the number if it fits
abbrev pub kept : (ℤ → Bool) → Option ℤ → Option ℤ
kept fits None = None
kept fits (Some z) = if fits z then Some z else None

-- a whole number that fits, by its decimal digits
abbrev pub whole_key : (ℤ → Bool) → List ℕ → Option Data
whole_key fits s = option_map whole_json (kept fits (whole_of_text s))

-- ---- booleans and strings

abbrev pub bool_item : Data → Result Data ItemFault
bool_item d = ok_or (option_map boolean (as_bool d)) Shape

-- a boolean's string
abbrev pub bool_text : Bool → List ℕ
bool_text true = true_text
bool_text false = false_text

abbrev pub bool_key : List ℕ → Option Data
bool_key s = if bytes_eq s true_text then Some (boolean true) else (if bytes_eq s false_text then Some (boolean false) else None)

abbrev pub text_item : Data → Result Data ItemFault
text_item d = ok_or (option_map string (as_str d)) Shape

-- ---- pairs

-- the array of two values
abbrev pub pair_json : Data → Data → Data
pair_json d e = array (item d (item e no_items))

-- the two items of an array of exactly two
abbrev pub two_items : Items → Option (Data × Data)
two_items (item d (item e no_items)) = Some (d, e)
two_items _ = None

-- the two items, if the value is an array of exactly two
abbrev pub two_of : Data → Option (Data × Data)
two_of (array ds) = two_items ds
two_of _ = None

abbrev both : Result Data ItemFault → Result Data ItemFault → Result Data ItemFault
both (Err f) r = Err f
both (Ok d) (Err f) = Err f
both (Ok d) (Ok e) = Ok (pair_json d e)

abbrev both_of : (Data → Result Data ItemFault) → (Data → Result Data ItemFault) → Option (Data × Data) → Result Data ItemFault
both_of first second None = Err Shape
both_of first second (Some p) = both (first p.0) (second p.1)

-- an array of exactly two; the first one's error comes before the second's
abbrev pub pair_item : (Data → Result Data ItemFault) → (Data → Result Data ItemFault) → Data → Result Data ItemFault
pair_item first second d = both_of first second (two_of d)
