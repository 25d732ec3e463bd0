use Rattle.std.proofs.Common.{◌≡◌, arith, ap, length, map, refl, subst, sym, ◌∙◌}
use Rattle.std.proofs.lemmas.List.{length-map, take_all}
use Rattle.nl_field.specs.declared.pointer.Pointer.{Pointer}
use Rattle.nl_device.specs.Kept.{AreKeptPages, KeptPages}
use Rattle.nl_device.proofs.Alone.{AreMarks, copies_in, marks_more, spare_found, stamp_at}
use Rattle.nl_device.proofs.kept.Kept.spare.Goals as goal

pub needed-init : goal.needed-init
needed-init c =
    let count : length c.clear.new.alone.items ≡ c.args.self.now.count = c.clear.ensures.count ∙ ap (λ (k : KeptPages). k.count) c.self.view_is in
    record {
      same_first = ap (λ (k : KeptPages). k.first) c.self.view_is;
      same_size = ap (λ (k : KeptPages). k.size) c.self.view_is;
      same_pages = refl;
      same_copies = refl;
      marks = record { count = count; each = λ i inside. c.clear.ensures.none i };
    }

pub mark-requires-clause-within : goal.mark-requires-clause-within
mark-requires-clause-within c =
    copies_in c.args.self.now c.needed.self-inside.copies c.needed.self-inside.first c.needed.self-inside.size (length c.needed.self-inside.alone.items) c.get.result.now.stamp
    (subst (AreKeptPages c.args.self.now) (sym c.needed.invariant.same_copies) (subst (λ k. AreKeptPages k c.self.inside.copies) c.self.view_is c.self.invariant))
    c.needed.invariant.same_first c.needed.invariant.same_size c.needed.invariant.marks.count

pub needed-preserved : goal.needed-preserved
needed-preserved c =
    let at = stamp_at c.args.list.now.items c.needed.at c.get.result.now c.get.ensures in
    record {
      same_first = c.needed.invariant.same_first;
      same_size = c.needed.invariant.same_size;
      same_pages = c.needed.invariant.same_pages;
      same_copies = c.needed.invariant.same_copies;
      marks = marks_more c.args.self.now c.needed.self-inside.copies c.needed.self-inside.first c.needed.self-inside.size c.needed.self-inside.alone.items c.mark.new.alone.items
          (map (λ p. p.stamp) c.args.list.now.items) c.needed.at c.get.result.now.stamp
          (subst (AreKeptPages c.args.self.now) (sym c.needed.invariant.same_copies) (subst (λ k. AreKeptPages k c.self.inside.copies) c.self.view_is c.self.invariant))
          c.needed.invariant.same_first c.needed.invariant.same_size c.mark.ensures at.0 at.1 c.needed.invariant.marks;
    }

pub returns-clause-spare : goal.returns-clause-spare
returns-clause-spare c =
    c.first_unmarked.ensures
    ∙ spare_found c.args.self.now c.needed.self-inside.first c.needed.self-inside.alone.items (map (λ p. p.stamp) c.args.list.now.items) c.needed.invariant.same_first
    (subst (λ s. AreMarks c.args.self.now s c.needed.self-inside.alone.items)
    (take_all c.needed.at (map (λ p. p.stamp) c.args.list.now.items) (omega (arith, c.needed-test.false, c.len-at-end.ensures.count, length-map c.args.list.now.items (λ (p : Pointer). p.stamp))))
    c.needed.invariant.marks)
