use Rattle.std.proofs.Common.{◌≡◌, arith, ap, ◌∙◌, option_and_then, option_map, rules, Some, string_bytes, sym, w64}
use mir.Val.{to_z, of_z}
use Rattle.serde_json.specs.Find.{as_i64, as_number}
use Rattle.std.proofs.lemmas.Result.{on_ok_weaker}
use Rattle.serde_json.specs.View.{view}
use Rattle.litemap_json.proofs.Tokens.{printable, writes_flag, writes_signed, writes_text, writes_unsigned}
use Rattle.litemap_json.proofs.written.write_value.Goals as goal

pub returns-in-Some-clause-tree : goal.returns-in-Some-clause-tree
returns-in-Some-clause-tree c =
    on_ok_weaker c.string.result
    (writes_text (view c.args.value.now) c.in-Some.text.now c.args.out.now.tokens c.string.new.self.tokens
    (sym c.as_str.ensures ∙ ap (option_map (λ s. s.now)) c.in-Some.is)) c.string.ensures.ok

pub returns-in-Some-as_bool-clause-tree : goal.returns-in-Some-as_bool-clause-tree
returns-in-Some-as_bool-clause-tree c =
    on_ok_weaker c.boolean.result
    (writes_flag (view c.args.value.now) c.in-Some-as_bool.flag c.args.out.now.tokens c.boolean.new.self.tokens (sym c.as_bool.ensures ∙ c.in-Some-as_bool.is))
    c.boolean.ensures.ok

pub returns-in-Some-as_u64-clause-tree : goal.returns-in-Some-as_u64-clause-tree
returns-in-Some-as_u64-clause-tree c =
    on_ok_weaker c.u64.result
    (writes_unsigned (view c.args.value.now) c.in-Some-as_u64.number c.args.out.now.tokens c.u64.new.self.tokens (omega arith)
    (sym c.as_u64.ensures ∙ c.in-Some-as_u64.is)) c.u64.ensures.ok

pub returns-in-Some-as_i64-clause-tree : goal.returns-in-Some-as_i64-clause-tree
returns-in-Some-as_i64-clause-tree c =
    let z = to_z w64 (of_z w64 c.in-Some-as_i64.number) in
    let is : option_and_then as_i64 (as_number (view c.args.value.now)) ≡ Some z = search rules in
    on_ok_weaker c.write_signed.result
    (writes_signed (view c.args.value.now) z c.args.out.now.tokens c.write_signed.new.out.tokens c.write_signed.ensures.kept is)
    c.write_signed.ensures.token

pub write_tokens-requires : goal.write_tokens-requires
write_tokens-requires c = grind (arith, printable (string_bytes c.in_ok-text.text) c.in_ok-text.ensures.order.0 c.in_ok-text.ensures.order.1)
