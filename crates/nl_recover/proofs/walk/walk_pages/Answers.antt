use Rattle.std.proofs.Common.{◌∙◌, sym}
use Rattle.nl_meta.specs.Pages.{page_of}
use Rattle.nl_meta.specs.Walk.{fault_in, walk_over}
use Rattle.nl_recover.specs.Held.{metadata_phases, pointer_phases}
use Rattle.nl_recover.proofs.WalkFacts.{joins-none, joins-some}
use Rattle.nl_recover.proofs.walk.walk_pages.Goals as goal

pub returns-in-Some : goal.returns-in-Some
unfolding walk_over
returns-in-Some c = joins-some (fault_in c.args.shape.now (page_of c.args.meta.now) c.args.scan.now.seen) metadata_phases pointer_phases c.in-Some.place (sym c.in_ok-place.ensures.value ∙ c.in-Some.is)

pub returns-in-Some-2 : goal.returns-in-Some-2
unfolding walk_over
returns-in-Some-2 c = joins-none (fault_in c.args.shape.now (page_of c.args.meta.now) c.args.scan.now.seen) metadata_phases pointer_phases (sym c.in_ok-place.ensures.value ∙ c.in-None.is) ∙ sym c.in_ok-place-in-None.ensures ∙ c.in-Some-2.is

pub returns-in-None-2 : goal.returns-in-None-2
unfolding walk_over
returns-in-None-2 c = (
  joins-none (fault_in c.args.shape.now (page_of c.args.meta.now) c.args.scan.now.seen) metadata_phases pointer_phases (sym c.in_ok-place.ensures.value ∙ c.in-None.is) ∙ sym c.in_ok-place-in-None.ensures ∙ c.in-None-2.is,
  c.in_ok-held-in-None.ensures,
)
