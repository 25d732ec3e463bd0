use Rattle.std.proofs.Common.{◌≡◌, ◌⊎◌, inl, inr, ◌+◌, ◌*◌, ◌/◌, ◌<◌, ◌≤◌, true, false, length, set, refl, sym, ◌∙◌, subst, length-set}
use Rattle.std.proofs.lemmas.List.{get_or-set_other}
use Rattle.nl_vseg.specs.Layout.{Layout, IsLayout, LayoutTakesAsErased, block_is_free, is_soiled}
use Rattle.nl_vseg.specs.Seen.{seen}
use Rattle.nl_vseg.specs.Used.{used_of}
use Rattle.nl_vseg.proofs.Segments.{taken_cases}
use Rattle.nl_vseg.proofs.Using.{marked_segment}
use Rattle.nl_vseg.proofs.state.State.set_worn.Goals as goal

pub returns-clause-used : goal.returns-clause-used
returns-clause-used c = c.wear_out.ensures.used.each c.args.self.now.active c.requires.formed.segment.active_is

pub returns-clause-formed : goal.returns-clause-formed
returns-clause-formed c =
    let seg = seen c.args.self.now in
    let is = c.requires.formed.segment in
    let t = c.wear_out.new.blocks in
    let step = c.wear_out.ensures in
    record {
      segment = subst (λ n. IsLayout (record seg { table = t; soiled = set seg.soiled c.args.block false; used = n })) (sym (step.used.each seg.active is.active_is))
          (marked_segment seg t (set seg.soiled c.args.block false) step.states (length-set seg.soiled c.args.block false) is);
      rising = step.used.rising c.requires.formed.rising;
      copies = c.requires.formed.copies;
      targets = c.requires.formed.targets ∙ sym step.states.numbers.same_size;
    }

pub returns-clause-erased : goal.returns-clause-erased
returns-clause-erased c p taken ne = cases n.1
  where
    old : Layout
    old = seen c.args.self.now

    new : Layout
    new = record old { table = c.wear_out.new.blocks; soiled = set old.soiled c.args.block false; used = used_of c.wear_out.new.blocks old.active }

    n : (p < length old.table.blocks * old.table.size) × (((new.active * old.table.size + new.used ≤ p) × (p < new.active * old.table.size + old.table.size)) ⊎ ((block_is_free new.table (p / old.table.size) ≡ true) × (is_soiled new (p / old.table.size) ≡ false)))
    n = taken_cases new old.table.size (length old.table.blocks) c.wear_out.ensures.states.numbers.same_size c.wear_out.ensures.states.numbers.same_count p taken

    cases : ((new.active * old.table.size + new.used ≤ p) × (p < new.active * old.table.size + old.table.size)) ⊎ ((block_is_free new.table (p / old.table.size) ≡ true) × (is_soiled new (p / old.table.size) ≡ false)) → LayoutTakesAsErased old p
    cases (inl x) = (n.0, inl (subst (λ u. old.active * old.table.size + u ≤ p) (c.wear_out.ensures.used.each old.active c.requires.formed.segment.active_is) x.0, x.1))
    cases (inr x) = (n.0, inr (sym (c.wear_out.ensures.states.free (p / old.table.size)) ∙ x.0, sym (get_or-set_other old.soiled c.args.block (p / old.table.size) false false ne) ∙ x.1))

pub returns-clause-marks : goal.returns-clause-marks
returns-clause-marks c = refl
