use Rattle.std.proofs.Common.{Global, Vec, Bool, ◌&&◌, ◌+◌, ◌++◌, ap, arith, drop, sym, ◌∙◌}
use Rattle.std.specs.Prelude.{nat_lt}
use Rattle.nl_field.specs.Medium.{first_physical, is_virtual_rec}
use Rattle.nl_field.specs.ScanList.{virtual_seen}
use Rattle.nl_field.specs.declared.seen.Seen.{Seen}
use Rattle.nl_map_pages.proofs.Lists.{gathered_all, gathered_more, gathered_same}
use Rattle.nl_map_pages.proofs.virtuals.virtual_pages.Goals.{then-is_virtual+in_ok-push, else-is_virtual}
use Rattle.nl_map_pages.proofs.virtuals.virtual_pages.Goals as goal

pub seen-preserved : goal.seen-preserved
unfolding virtual_seen
seen-preserved c =
    let test : Seen → Bool = λ s. nat_lt s.page (first_physical c.args.shape.now) && is_virtual_rec c.args.shape.now s.rec in
    let rest = virtual_seen c.args.shape.now (drop (c.seen.at + 1) c.args.scan.now.seen) in
    elim c.if-is_virtual.branch [
      | then-is_virtual+in_ok-push w ↦
          ap (λ l. l ++ rest) (ap (λ (v : Vec Seen Global). v.items) w.pages-is ∙ w.in_ok-push.ensures.items)
          ∙ gathered_more test c.args.scan.now.seen c.seen.at c.get-seen.result.now c.seen.pages.items c.get-seen.ensures (sym c.is_virtual.ensures ∙ w.if-is_virtual.true) c.seen.invariant
      | else-is_virtual w ↦
          ap (λ (v : Vec Seen Global). v.items ++ rest) w.pages-is
          ∙ gathered_same test c.args.scan.now.seen c.seen.at c.get-seen.result.now c.seen.pages.items c.get-seen.ensures (sym c.is_virtual.ensures ∙ w.if-is_virtual.false) c.seen.invariant
    ]

pub returns : goal.returns
unfolding virtual_seen
returns c =
    let test : Seen → Bool = λ s. nat_lt s.page (first_physical c.args.shape.now) && is_virtual_rec c.args.shape.now s.rec in
    gathered_all test c.args.scan.now.seen c.seen.at c.seen.pages.items (omega (arith, c.seen-test.false, c.len-at-end.ensures)) c.seen.invariant
