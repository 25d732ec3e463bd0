use Rattle.nl_pseg.specs.Seen.{FitsPhysical}
use Rattle.nl_field.specs.declared.answers.NamedRead.TheVariants.{Done, Fault}
use Rattle.nl_field.specs.Page.{page_at, written}
use Rattle.std.proofs.Common.{subst, ◌≡◌, ◌⊎◌, Some, sym, refl}
use Rattle.nl_field.specs.Live.{resolve}
use Rattle.nl_pseg.specs.Answers.{ReadsHeld}
use Rattle.nl_pseg.specs.Segment.{Physical, held_at, IsPhysicalOf}
use Rattle.nl_pseg_pages.specs.Pages.{TellsFound, stamp_at}
use Rattle.nl_pseg.proofs.pseg.PSeg.physical_read.Goals as goal

pub returns-clause-answer : goal.returns-clause-answer
returns-clause-answer g c = subst (λ (s : Physical). ReadsHeld (held_at s (resolve s.pairs c.args.at.name)) c.args.tag c.args.at.stamp c.read.new.buf c.read.result) c.self.view_is c.read.ensures.answer

pub read-requires-clause-formed : goal.read-requires-clause-formed
read-requires-clause-formed g c = c.self.invariant.0

pub read-requires-clause-fits : goal.read-requires-clause-fits
read-requires-clause-fits g c = subst (λ (s : Physical). FitsPhysical (g.M.Nand.geometry c.args.media.now) s) (sym c.self.view_is) c.requires.fits

pub read-requires-clause-segment : goal.read-requires-clause-segment
read-requires-clause-segment g c t = subst (IsPhysicalOf (g.M.Nand.contents c.args.media.now)) (sym c.self.view_is) (c.requires.segment t)

pub returns-clause-segment : goal.returns-clause-segment
returns-clause-segment g c = refl

pub returns-clause-value : goal.returns-clause-value
returns-clause-value g c t = subst (λ (s : Physical). c.read.result ≡ Done → page_at (g.M.Nand.contents c.args.media.now) (resolve s.pairs c.args.at.name) ≡ written c.read.new.buf) c.self.view_is (c.read.ensures.value t)

pub returns-clause-kept : goal.returns-clause-kept
returns-clause-kept g c t = subst (λ (s : Physical). held_at s (resolve s.pairs c.args.at.name) ≡ Some (record { tag = c.args.tag; stamp = c.args.at.stamp }) → (c.read.result ≡ Done) ⊎ (c.read.result ≡ Fault)) c.self.view_is (c.read.ensures.kept t)

pub returns-clause-found : goal.returns-clause-found
returns-clause-found g c = c.read.ensures.found

pub returns-clause-told : goal.returns-clause-told
returns-clause-told g c t = subst (λ (s : Physical). TellsFound (stamp_at (page_at (g.M.Nand.contents c.args.media.now) (resolve s.pairs c.args.at.name))) c.read.result) c.self.view_is (c.read.ensures.told t)

pub returns-clause-geometry : goal.returns-clause-geometry
returns-clause-geometry g c = c.read.ensures.geometry

pub returns-clause-contents : goal.returns-clause-contents
returns-clause-contents g c = c.read.ensures.contents

pub returns-clause-left : goal.returns-clause-left
returns-clause-left g c = c.read.ensures.left

pub returns-clause-clock : goal.returns-clause-clock
returns-clause-clock g c = c.read.ensures.clock

pub returns-clause-write_faults : goal.returns-clause-write_faults
returns-clause-write_faults g c = c.read.ensures.write_faults

pub returns-clause-read_faults : goal.returns-clause-read_faults
returns-clause-read_faults g c = c.read.ensures.read_faults
