use Rattle.nl_pseg.specs.Space.{HasRoomForVictim, left_in_victim}
use Rattle.std.proofs.Common.{◌≡◌, ◌<◌, subst, ◌↔◌, sym}
use Rattle.nl_pseg.specs.Cleaning.{CountedMove}
use Rattle.nl_pseg.specs.Tries.{SpendsTriedCopy}
use Rattle.nl_pseg.specs.Copies.{CopiesOn, CopiesPage}
use Rattle.nl_pseg.specs.Segment.{IsClean, Physical, IsPhysicalOf}
use Rattle.nl_pseg.specs.Kept.{kept}
use Rattle.nl_pseg.specs.Seen.{seen, FitsPhysical}
use Rattle.nl_pseg.specs.declared.cleaned.Copied.TheVariants.{Nothing}
use Rattle.nl_pseg.proofs.pseg.PSeg.copy_one.Goals as goal

pub returns-clause-counts : goal.returns-clause-counts
returns-clause-counts g c =
    let e = c.copy_one-copied in
    subst (λ (s : Physical). CountedMove g.M.Nand.clock g.M.Nand.read_faults g.M.Nand.write_faults (IsClean s) c.args.media.now e.new.media e.result) c.self.view_is e.ensures.counts

pub copy_one-copied-requires-clause-fits : goal.copy_one-copied-requires-clause-fits
copy_one-copied-requires-clause-fits g c = subst (λ (s : Physical). FitsPhysical (g.M.Nand.geometry c.args.media.now) s) (sym c.self.view_is) c.requires.fits

pub copy_one-copied-requires-clause-lands : goal.copy_one-copied-requires-clause-lands
copy_one-copied-requires-clause-lands g c = subst HasRoomForVictim (sym c.self.view_is) c.requires.lands

pub copy_one-copied-requires-clause-segment : goal.copy_one-copied-requires-clause-segment
copy_one-copied-requires-clause-segment g c t = subst (IsPhysicalOf (g.M.Nand.contents c.args.media.now)) (sym c.self.view_is) (c.requires.segment t)

pub whole-requires-clause-formed : goal.whole-requires-clause-formed
whole-requires-clause-formed g c = c.copy_one-copied.ensures.consistent.formed

pub whole-requires-clause-tied : goal.whole-requires-clause-tied
whole-requires-clause-tied g c = c.copy_one-copied.ensures.consistent.tied

pub whole-requires-clause-few : goal.whole-requires-clause-few
whole-requires-clause-few g c = c.copy_one-copied.ensures.consistent.few

pub returns-clause-whole : goal.returns-clause-whole
returns-clause-whole g c = c.whole.ensures.whole

pub returns-clause-nothing : goal.returns-clause-nothing
returns-clause-nothing g c = subst (λ (s : Physical). (c.copy_one-copied.result ≡ Nothing) ↔ (left_in_victim s ≡ 0)) c.self.view_is c.copy_one-copied.ensures.nothing

pub returns-clause-refused : goal.returns-clause-refused
returns-clause-refused g c = subst (λ (s : Physical). c.copy_one-copied.result ≡ Nothing → ((seen (kept c.copy_one-copied.new.self)) ≡ s) × (c.copy_one-copied.new.media ≡ c.args.media.now)) c.self.view_is c.copy_one-copied.ensures.refused

pub returns-clause-lands : goal.returns-clause-lands
returns-clause-lands g c = c.copy_one-copied.ensures.lands

pub returns-clause-geometry : goal.returns-clause-geometry
returns-clause-geometry g c = c.copy_one-copied.ensures.geometry

pub copy_one-copied-requires-clause-consistent : goal.copy_one-copied-requires-clause-consistent
copy_one-copied-requires-clause-consistent g c =
    record { formed = c.self.invariant.0; tied = c.self.invariant.1; few = c.self.invariant.2 }

pub returns-clause-copies : goal.returns-clause-copies
returns-clause-copies g c =
    subst (λ (s : Physical). CopiesPage c.copy_one-copied.result s (seen (kept c.copy_one-copied.new.self))) c.self.view_is c.copy_one-copied.ensures.copies

pub returns-clause-medium : goal.returns-clause-medium
returns-clause-medium g c t =
    subst (λ (s : Physical). CopiesOn g.M.Nand.clock g.M.Nand.contents g.M.Nand.left c.copy_one-copied.result s (seen (kept c.copy_one-copied.new.self)) c.args.media.now c.copy_one-copied.new.media) c.self.view_is (c.copy_one-copied.ensures.medium t)

pub returns-clause-tried : goal.returns-clause-tried
returns-clause-tried g c =
    let e = c.copy_one-copied in
    subst (λ (s : Physical). SpendsTriedCopy e.result (g.M.Nand.write_faults c.args.media.now < g.M.Nand.write_faults e.new.media) s (seen (kept e.new.self))) c.self.view_is e.ensures.tried
