use Rattle.std.proofs.Common.{set, refl, sym, ◌∙◌, subst, length-set}
use Rattle.nl_vseg.specs.Layout.{IsLayout}
use Rattle.nl_vseg.specs.Seen.{seen}
use Rattle.nl_vseg.specs.Used.{used_of}
use Rattle.nl_vseg.proofs.Segments.{freed, freed_taken}
use Rattle.nl_vseg.proofs.Using.{closed_fewer, closed_idle, closed_in, closed_is, closed_used}
use Rattle.nl_vseg.proofs.state.State.set_free.Goals as goal

pub returns-clause-erased : goal.returns-clause-erased
returns-clause-erased c p taken =
    let seg = seen c.args.self.now in
    let is = c.requires.formed.segment in
    let t = c.free_block.new.blocks in
    let step = c.free_block.ensures in
    let e = freed_taken (closed_in seg c.args.block) (record { places = seg.places; table = t; soiled = set seg.soiled c.args.block c.args.soiled; active = seg.active; used = used_of t seg.active })
    c.args.block c.args.soiled is.some is.marks
    step.states
    refl refl (closed_used seg c.args.block t step.used step.states.numbers.same_size is.active_is refl) c.requires.within (closed_idle seg c.args.block) p taken in
    (e.0, λ ne. closed_fewer seg c.args.block p (e.1 ne))

pub returns-clause-formed : goal.returns-clause-formed
returns-clause-formed c =
    let seg = seen c.args.self.now in
    let is = c.requires.formed.segment in
    let t = c.free_block.new.blocks in
    let step = c.free_block.ensures in
    let soiled = set seg.soiled c.args.block c.args.soiled in
    record {
      segment = subst (λ n. IsLayout (record seg { table = t; soiled = soiled; used = n })) (sym (closed_used seg c.args.block t step.used step.states.numbers.same_size is.active_is refl))
          (freed (closed_in seg c.args.block) t soiled c.args.block (closed_is seg c.args.block is) step.states (length-set seg.soiled c.args.block c.args.soiled) (closed_idle seg c.args.block) c.requires.unmapped);
      rising = step.used.rising c.requires.formed.rising;
      copies = c.requires.formed.copies;
      targets = c.requires.formed.targets ∙ sym step.states.numbers.same_size;
    }

pub returns-clause-free : goal.returns-clause-free
returns-clause-free c = record { same_places = refl; same_active = refl; used = c.free_block.ensures.used; states = c.free_block.ensures.states }

pub returns-clause-marks : goal.returns-clause-marks
returns-clause-marks c = refl
