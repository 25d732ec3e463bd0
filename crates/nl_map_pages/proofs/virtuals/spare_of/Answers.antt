use Rattle.std.proofs.Common.{◌≡◌, ℕ, ◌+◌, ◌∙◌, ◌/◌, ◌&&◌, ◌||◌, not, Bool, sym, ap, arith}
use Rattle.std.specs.Prelude.{◌==◌}
use Rattle.std.specs.List.{list_all, list_any}
use Rattle.nl_field.specs.Medium.{address_of}
use Rattle.nl_field.specs.ScanList.{on_list}
use Rattle.nl_field.specs.Space.{has_greatest_among}
use Rattle.nl_field.specs.SpareRecord.{stamp_of}
use Rattle.nl_field.specs.declared.seen.Seen.{Seen}
use Rattle.std.proofs.Common.{List, Some}
use Rattle.nl_map_pages.proofs.Lists.{below_next, find_at_range, find_none_range}
use Rattle.nl_map_pages.proofs.virtuals.spare_of.Goals as goal

abbrev can_go : ℕ → List Seen → ℕ → Bool
can_go size pages block =
    list_all (λ r. not (r.page / size == block && has_greatest_among on_list pages r)
    || list_any (λ q. not (q.page / size == block) && (address_of q.rec == address_of r.rec && stamp_of q.rec == stamp_of r.rec)) pages) pages

pub returns-then-is_spare : goal.returns-then-is_spare
returns-then-is_spare c =
    let test = can_go c.args.size c.args.pages.now in
    let at = c.blocks-2.block in
    sym (find_at_range test 0 c.args.count at (omega arith)
    (λ i less. let e : 0 + i ≡ i = omega arith in ap test e ∙ c.blocks-2.invariant i less)
    (let e : 0 + at ≡ at = omega arith in ap test e ∙ sym c.is_spare.ensures ∙ c.if-is_spare.true)
    ∙ (let e : 0 + at ≡ at = omega arith in ap (λ (n : ℕ). Some n) e))

pub returns : goal.returns
returns c =
    let test = can_go c.args.size c.args.pages.now in
    sym (find_none_range test 0 c.args.count
    (λ i less. let e : 0 + i ≡ i = omega arith in ap test e ∙ c.blocks-2.invariant i (omega (arith, less))))

pub blocks-2-preserved : goal.blocks-2-preserved
blocks-2-preserved c = λ i less. below_next (can_go c.args.size c.args.pages.now) c.blocks-2.block c.blocks-2.invariant (sym c.is_spare.ensures ∙ c.if-is_spare.false) i less
