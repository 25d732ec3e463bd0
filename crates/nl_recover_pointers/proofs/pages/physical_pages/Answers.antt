use Rattle.std.proofs.Common.{Global, Vec, Bool, ◌&&◌, ◌+◌, ◌++◌, ap, arith, drop, sym, ◌∙◌}
use Rattle.std.specs.Prelude.{nat_le}
use Rattle.nl_field.specs.Medium.{first_physical, is_physical_rec}
use Rattle.nl_field.specs.ScanList.{physical_seen}
use Rattle.nl_field.specs.declared.seen.Seen.{Seen}
use Rattle.nl_recover_pointers.proofs.Rests.{gathered_all, gathered_more, gathered_same}
use Rattle.nl_recover_pointers.proofs.pages.physical_pages.Goals.{then-is_physical+in_ok-push, else-is_physical}
use Rattle.nl_recover_pointers.proofs.pages.physical_pages.Goals as goal

pub seen-preserved : goal.seen-preserved
unfolding physical_seen
seen-preserved c =
    let test : Seen → Bool = λ s. nat_le (first_physical c.args.shape.now) s.page && is_physical_rec s.rec in
    let rest = physical_seen c.args.shape.now (drop (c.seen.at + 1) c.args.scan.now.seen) in
    elim c.if-is_physical.branch [
      | then-is_physical+in_ok-push w ↦
          ap (λ l. l ++ rest) (ap (λ (v : Vec Seen Global). v.items) w.pages-is ∙ w.in_ok-push.ensures.items)
          ∙ gathered_more test c.args.scan.now.seen c.seen.at c.get-seen.result.now c.seen.pages.items c.get-seen.ensures (sym c.is_physical.ensures ∙ w.if-is_physical.true) c.seen.invariant
      | else-is_physical w ↦
          ap (λ (v : Vec Seen Global). v.items ++ rest) w.pages-is
          ∙ gathered_same test c.args.scan.now.seen c.seen.at c.get-seen.result.now c.seen.pages.items c.get-seen.ensures (sym c.is_physical.ensures ∙ w.if-is_physical.false) c.seen.invariant
    ]

pub returns : goal.returns
unfolding physical_seen
returns c =
    let test : Seen → Bool = λ s. nat_le (first_physical c.args.shape.now) s.page && is_physical_rec s.rec in
    gathered_all test c.args.scan.now.seen c.seen.at c.seen.pages.items (omega (arith, c.seen-test.false, c.len-at-end.ensures)) c.seen.invariant
