use Rattle.std.proofs.Common.{◌≡◌, ◌++◌, ◌∷◌, [], length, Option, ap, ◌∙◌, sym, subst, arith, length-append}
use Rattle.std.specs.Prelude.{IfSome, option_to_list}
use Rattle.nl_tree.specs.Causes.{fault_in}
use Rattle.nl_workers.specs.Table.{Row}
use Rattle.nl_cmd_course.specs.Rounds.{ordered_row, synced_row}
use Rattle.nl_cmd_course.proofs.Listed.{few_options, order_more, syncs_more}
use Rattle.nl_cmd_course.proofs.Lists.{item_at}
use Rattle.nl_cmd_course.proofs.listing.list_answers.Goals as goal

pub rows-preserved : goal.rows-preserved
rows-preserved c =
    let rows = c.args.answers.now.rows in
    let at = c.rows.at in
    let i = c.rows.invariant in
    let row = item_at rows at (omega (arith, c.rows-test.true, c.len-at-end.ensures)) in
    let got = subst (λ (o : Option Row). IfSome o (λ r. (c.get-answer.result.now.line ≡ r.line) × (c.get-answer.result.now.answered ≡ r.answered))) row.1 c.get-answer.ensures in
    let e = c.list_row.ensures in
    let listed : c.list_row.new.order.items ≡ c.rows.order.items ++ ordered_row row.0 ∷ [] = e.order ∙ (λ k. c.rows.order.items ++ record { line = got.0 k; fault = fault_in (got.1 k).reply } ∷ []) in
    let synced : c.list_row.new.syncs.items ≡ c.rows.syncs.items ++ option_to_list (synced_row row.0.line row.0.answered.reply) = e.syncs ∙ (λ k. c.rows.syncs.items ++ option_to_list (synced_row (got.0 k) (got.1 k).reply)) in
    let many = i.many in
    let few = i.few in
    let one = few_options (synced_row row.0.line row.0.answered.reply) in
    let longer = ap length synced ∙ length-append c.rows.syncs.items (option_to_list (synced_row row.0.line row.0.answered.reply)) in
    let next = ap length listed ∙ length-append c.rows.order.items (ordered_row row.0 ∷ []) in
    let a = e.order_room in
    let b = i.order_room in
    let d = e.syncs_room in
    let f = i.syncs_room in
    record {
      order = listed ∙ (ap (λ z. z ++ ordered_row row.0 ∷ []) i.order ∙ sym (order_more rows at row.0 row.1));
      many = omega (arith, many, next);
      order_room = omega (arith, a, b);
      syncs = synced ∙ (ap (λ z. z ++ option_to_list (synced_row row.0.line row.0.answered.reply)) i.syncs ∙ sym (syncs_more rows at row.0 row.1));
      few = omega (arith, few, one, longer);
      syncs_room = omega (arith, d, f);
    }
