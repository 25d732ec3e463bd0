use Rattle.std.proofs.Common.{◌≡◌, ◌≤◌, ◌+◌, ◌∙◌, ap, arith, subst, sym}
use Rattle.std.specs.Prelude.{Bool, true, false, IfSome, Option, cond, map, min, take}
use Rattle.nl_field.specs.CrashStates.{saturated}
use Rattle.nl_cmd_answers.proofs.Texts.{counts_one, row_there, saturated_more}
use Rattle.nl_cmd_answers.specs.Rows.{is_ok, read_by, read_in, said, written_by, written_in}
use Rattle.nl_tree.specs.declared.turn.Answered.{Answered}
use Rattle.nl_workers.specs.Table.{Row}
use Rattle.nl_cmd_answers.proofs.summary.tally_of.Goals as goal

cond_few : (b : Bool) → cond b 1 0 ≤ 1
cond_few true = omega arith
cond_few false = omega arith

pub rows-preserved : goal.rows-preserved
rows-preserved c =
    let rows = c.args.answers.now.rows in
    let at = c.rows.at in
    let i = c.rows.invariant in
    let row = row_there rows at (omega (arith, c.rows-test.true, c.len-at-end.ensures)) in
    let m = counts_one rows at row.0 row.1 in
    let got = subst (λ (o : Option Row). IfSome o (λ r. (c.get.result.now.line ≡ r.line) × (c.get.result.now.answered ≡ r.answered))) row.1 c.get.ensures in
    let bytes = subst (λ (o : Option Row). IfSome o (λ r. c.bytes-bytes.result.now ≡ r.bytes)) row.1 c.bytes-bytes.ensures in
    let ok : c.one_if.result ≡ cond (is_ok row.0.answered.reply) 1 0 = c.one_if.ensures ∙ ap (λ b. cond b 1 0) (c.is_ok.ensures ∙ ap (λ (a : Answered). is_ok a.reply) got.1) in
    let one = cond_few (is_ok row.0.answered.reply) in
    let written : c.written_by.result ≡ written_by row.0.answered.reply = c.written_by.ensures ∙ ap (λ (a : Answered). written_by a.reply) got.1 in
    let read : c.read_by.result ≡ read_by row.0.answered.reply row.0.bytes = c.read_by.ensures ∙ (λ j. read_by (got.1 j).reply (bytes j)) in
    let so_far = i.ok in
    let more = m.0 in
    let few = i.few in
    record {
      ok = omega (arith, so_far, more, ok);
      few = omega (arith, ok, one, few);
      written = c.saturating_add.ensures ∙ (λ j. min (i.written j + written j) 18446744073709551615) ∙ saturated_more (written_in (map said (take at rows))) (written_by row.0.answered.reply) ∙ sym (ap saturated m.1);
      read = c.saturating_add-in-rows.ensures ∙ (λ j. min (i.read j + read j) 18446744073709551615) ∙ saturated_more (read_in (map said (take at rows))) (read_by row.0.answered.reply row.0.bytes) ∙ sym (ap saturated m.2);
    }
