-- Keys with one tree are equal: the law of `JsonKey`, for each key type.
use Rattle.std.specs.Prelude.{◌≡◌, ℕ, ℤ, pos, negsuc, Bool, true, false, String, string_bytes, refl}
use Rattle.std.specs.Ordering.{nat_cmp, int_cmp, bool_cmp, ordering_then}
use Rattle.std.specs.String.{string_cmp}
use Rattle.std.specs.declared.cmp.Ordering.{Ordering}
use Rattle.std.specs.declared.cmp.Ordering.TheVariants.{Equal}
use Rattle.std.specs.declared.alloc.Global.{Global}
use Rattle.std.specs.Cmp.{IsTotalOrder}
use Rattle.std.proofs.lemmas.Cmp.{nat_cmp_total, int_cmp_total, nat_list_cmp_total, tied_itself}
use Rattle.std.proofs.Common.{sym}
use Rattle.serde_json.specs.Data.{Data, boolean, string}
use Rattle.serde_json.specs.Find.{of_integer}
use Rattle.litemap_json.specs.Item.{pair_json, whole_json}

same_tied : {K : Type 0} {R : K → K → Ordering} → IsTotalOrder R → (x y : K) → x ≡ y → R x y ≡ Equal
same_tied {K} {R} o x y e = rw (sym e) (tied_itself o x)

pub unsigned_one_tree : (x y : ℕ) → whole_json (pos x) ≡ whole_json (pos y) → nat_cmp x y ≡ Equal
unsigned_one_tree x y e = let same : x ≡ y = cc in same_tied nat_cmp_total x y same

of_integer_injective : (x y : ℤ) → of_integer x ≡ of_integer y → x ≡ y
of_integer_injective (pos m) (pos n) e = cc
of_integer_injective (pos m) (negsuc n) e = cc
of_integer_injective (negsuc m) (pos n) e = cc
of_integer_injective (negsuc m) (negsuc n) e = cc

pub signed_one_tree : (x y : ℤ) → whole_json x ≡ whole_json y → int_cmp x y ≡ Equal
signed_one_tree x y e =
    let inner : of_integer x ≡ of_integer y = cc in
    same_tied int_cmp_total x y (of_integer_injective x y inner)

pub bool_one_tree : (x y : Bool) → boolean x ≡ boolean y → bool_cmp x y ≡ Equal
bool_one_tree true false e = cc
bool_one_tree false true e = cc
bool_one_tree _ _ e = refl

pub text_one_tree : (x y : String Global) → string (string_bytes x) ≡ string (string_bytes y) → string_cmp x y ≡ Equal
text_one_tree x y e =
    let same : string_bytes x ≡ string_bytes y = cc in
    same_tied nat_list_cmp_total (string_bytes x) (string_bytes y) same

module _ {A B : Type 0} (a : A → Data) (b : B → Data) (R : A → A → Ordering) (S : B → B → Ordering) where
  pub pair_one_tree : ((x y : A) → a x ≡ a y → R x y ≡ Equal) → ((x y : B) → b x ≡ b y → S x y ≡ Equal)
      → (x y : A × B) → pair_json (a x.0) (b x.1) ≡ pair_json (a y.0) (b y.1) → ordering_then (R x.0 y.0) (S x.1 y.1) ≡ Equal
  pair_one_tree first second x y e =
      let at_first : a x.0 ≡ a y.0 = cc in
      let at_second : b x.1 ≡ b y.1 = cc in
      rw (first x.0 y.0 at_first) (second x.1 y.1 at_second)
