use Rattle.std.proofs.Common.{◌==◌, ◌++◌, ◌∷◌, length, [], false, true, refl, inl, inr, sym, ◌∙◌, arith, rules, append_assoc, append-nil, length-append, ap}
use Rattle.std.proofs.Common.{subst}
use Rattle.std.proofs.lemmas.List.Splits.{length-slice_split}
use Rattle.std.proofs.lemmas.List.Sums.{count_by-le-length}
use Rattle.names_core.specs.Reply.{names_of}
use Rattle.names_core.specs.Told.{DoesAll, AllDone, BadLine, NoMemory, no_memory}
use Rattle.names_core.proofs.Tolds.{DoesEach-more}
use Rattle.names_core.proofs.Writes.{EndsRun-after, WritesText-after, WritesText-longer, WritesText-nil}
use Rattle.names_core.proofs.program.answer_lines.Goals as goal

pub loop-rest-init : goal.loop-rest-init
loop-rest-init g c = record {
  before = [];
  text = [];
  lines = refl;
  counted = refl;
  leaves = (names_of c.new-names.result, search rules, (refl, refl));
  writes = WritesText-nil _ _;
  bounded = omega (arith, length-slice_split (λ b. b == 10) c.args.input.now, count_by-le-length (λ b. b == 10) c.args.input.now);
}

pub loop-rest-preserved : goal.loop-rest-preserved
loop-rest-preserved g c =
    let was = c.loop-rest.invariant in
    let said = c.first_line.result.0.now in
    let lines = rw (c.in-Some.is, c.first_line.ensures) at was.lines in
    let does = rw (c.in-Ok-Done.field-0-is, ← c.as_bytes.ensures.value) at c.in-Ok-Done.ensures in
    record {
      before = was.before ++ (said ∷ []);
      text = was.text ++ c.as_bytes.result.now;
      lines = lines ∙ sym (append_assoc was.before (said ∷ []) _);
      counted = omega (arith, was.counted, length-append was.before (said ∷ []));
      leaves = (was.leaves.0, was.leaves.1, DoesEach-more _ _ _ was.before said was.text _ was.leaves.2 does);
      writes = WritesText-after _ _ _ _ was.text _ false was.writes c.in-Ok.ensures.writes;
      bounded = omega (arith, was.bounded, simp length-append at (ap length lines), simp length-append at (ap length was.lines));
    }

pub returns-clause-told : goal.returns-clause-told
returns-clause-told g c =
    let was = c.loop-rest.invariant in (
      _,
      0,
      AllDone _ c.requires (subst (λ l. DoesAll l was.text (names_of c.loop-rest.names)) (sym (rw (c.in_default.is, append-nil) at was.lines)) was.leaves)
          refl,
      inl (refl, was.writes),
    )

pub returns-in_default-write_all-clause-told : goal.returns-in_default-write_all-clause-told
returns-in_default-write_all-clause-told g c =
    let was = c.loop-rest.invariant in
    let said = c.first_line.result.0.now in
    let lines = rw (c.in-Some.is, c.first_line.ensures) at was.lines in
    let does = rw (c.in-Ok-Done.field-0-is, ← c.as_bytes.ensures.value) at c.in-Ok-Done.ensures in
    let wrote = WritesText-longer _ _ _ c.as_bytes.result.now no_memory c.in_default-write_all.ensures.writes in (
      _,
      3,
      NoMemory (was.before ++ (said ∷ [])) _ (was.text ++ c.as_bytes.result.now) _ c.requires (lines ∙ sym (append_assoc was.before (said ∷ []) _))
          (was.leaves.0, was.leaves.1, DoesEach-more _ _ _ was.before said was.text _ was.leaves.2 does)
          (sym (append_assoc was.text c.as_bytes.result.now no_memory)) refl,
      inr (refl, WritesText-after _ _ _ _ was.text _ true was.writes wrote),
    )

pub returns-in-Ok-Bad-clause-told : goal.returns-in-Ok-Bad-clause-told
returns-in-Ok-Bad-clause-told g c =
    let was = c.loop-rest.invariant in
    let lines = rw (c.in-Some.is, c.first_line.ensures) at was.lines in
    let bad = rw c.in-Ok-Bad.field-0-is at c.in-Ok-Bad.ensures in (
      _,
      2,
      BadLine was.before _ _ was.text _ c.requires lines was.leaves bad.0 (rw (c.as_bytes-in-Ok-Bad.ensures.value, bad.1, was.counted)) refl,
      EndsRun-after _ _ _ _ was.text _ 2 _ was.writes c.finish.ensures,
    )

pub returns-in-Err-clause-told : goal.returns-in-Err-clause-told
returns-in-Err-clause-told g c =
    let was = c.loop-rest.invariant in
    (_, 3, NoMemory was.before _ was.text _ c.requires was.lines was.leaves refl refl, EndsRun-after _ _ _ _ was.text _ 3 _ was.writes c.finish-in-Err.ensures)
