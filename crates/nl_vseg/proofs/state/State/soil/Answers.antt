use Rattle.std.proofs.Common.{◌≡◌, ◌<◌, true, false, length, set, refl, sym, ◌∙◌, ap, subst, arith, length-set}
use Rattle.std.proofs.lemmas.Bool.{true≢false}
use Rattle.std.proofs.lemmas.List.{get_or-set_same, get_or-set_other}
use Rattle.nl_vseg.specs.Layout.{Layout, IsLayout, is_soiled}
use Rattle.nl_vseg.specs.Seen.{seen}
use Rattle.nl_vseg.specs.Used.{used_of}
use Rattle.nl_vseg.proofs.Segments.{taken_still, taken_without}
use Rattle.nl_vseg.proofs.Using.{closed_beside, closed_fewer, closed_idle, closed_in, closed_is, closed_used, marked_segment}
use Rattle.nl_vseg.proofs.Views.{block_within, blank_taken, taken_blank, wear_at}
use Rattle.nl_vseg.proofs.state.State.soil.Goals as goal

pub returns-clause-formed : goal.returns-clause-formed
returns-clause-formed c =
    let seg = seen c.args.self.now in
    let is = c.requires.formed.segment in
    let block = c.args.block in
    let t = c.set_wear.new.blocks in
    let step = c.set_wear.ensures in
    let used_is = closed_used seg block t step.used step.states.numbers.same_size is.active_is refl in
    record {
      segment = subst (λ n. IsLayout (record seg { table = t; soiled = set seg.soiled block true; used = n })) (sym used_is)
          (marked_segment (closed_in seg block) t (set seg.soiled block true) step.states (length-set seg.soiled block true) (closed_is seg block is));
      rising = step.used.rising c.requires.formed.rising;
      copies = c.requires.formed.copies;
      targets = c.requires.formed.targets ∙ sym step.states.numbers.same_size;
    }

pub returns-clause-erased : goal.returns-clause-erased
returns-clause-erased c p shown_is =
    let seg = seen c.args.self.now in
    let is = c.requires.formed.segment in
    let block = c.args.block in
    let t = c.set_wear.new.blocks in
    let step = c.set_wear.ensures in
    let within : block < length seg.soiled = subst (λ n. block < n) (sym is.marks) (block_within block (length seg.table.blocks) seg.table.size is.some c.requires.within) in
    let new : Layout = record { places = seg.places; table = t; soiled = set seg.soiled block true; active = seg.active; used = used_of t seg.active } in
    let out = taken_without (closed_in seg block) new block step.states.numbers refl (closed_used seg block t step.used step.states.numbers.same_size is.active_is refl)
    (λ b free clean.
    let ne : b ≡ block → ⊥ = (λ at. true≢false (sym (get_or-set_same seg.soiled block true false within) ∙ (ap (is_soiled new) (sym at) ∙ clean))) in
    (ne, sym (step.states.free b) ∙ free, sym (get_or-set_other seg.soiled block b true false ne) ∙ clean))
    (closed_idle seg block) p (blank_taken new p shown_is) in
    (taken_blank seg p (closed_fewer seg block p out.0), out.1)

pub returns-clause-still : goal.returns-clause-still
returns-clause-still c p shown_is ne =
    let seg = seen c.args.self.now in
    let is = c.requires.formed.segment in
    let block = c.args.block in
    let t = c.set_wear.new.blocks in
    let step = c.set_wear.ensures in
    let used_is = closed_used seg block t step.used step.states.numbers.same_size is.active_is refl in
    let new : Layout = record { places = seg.places; table = t; soiled = set seg.soiled block true; active = seg.active; used = used_of t seg.active } in
    taken_blank new p (taken_still (closed_in seg block) new block step.states.numbers refl (λ _. used_is)
    (λ b other free clean. (step.states.free b ∙ free, get_or-set_other seg.soiled block b true false other ∙ clean)) p (closed_beside seg block p (blank_taken seg p shown_is) ne) ne)

pub set_wear-requires-clause-within : goal.set_wear-requires-clause-within
set_wear-requires-clause-within c = block_within c.args.block (length c.args.self.now.blocks.blocks) c.args.self.now.blocks.size c.requires.formed.segment.some c.requires.within

pub index_mut-requires : goal.index_mut-requires
index_mut-requires c =
    let within = block_within c.args.block (length c.args.self.now.blocks.blocks) c.args.self.now.blocks.size c.requires.formed.segment.some c.requires.within in
    let marks = c.requires.formed.segment.marks in
    omega (arith, within, marks)

pub returns-clause-wear : goal.returns-clause-wear
returns-clause-wear c =
    let first = c.set_wear.ensures.states.numbers.same_first ∙ c.requires.formed.segment.first in
    wear_at c.set_wear.new.blocks c.args.block first ∙ c.set_wear.ensures.wear

pub returns-clause-others : goal.returns-clause-others
returns-clause-others c other ne =
    let first = c.set_wear.ensures.states.numbers.same_first ∙ c.requires.formed.segment.first in
    wear_at c.set_wear.new.blocks other first ∙ (c.set_wear.ensures.others other ne ∙ sym (wear_at c.args.self.now.blocks other c.requires.formed.segment.first))
