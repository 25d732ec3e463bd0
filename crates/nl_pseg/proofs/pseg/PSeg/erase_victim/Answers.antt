use Rattle.nl_pseg.specs.declared.cleaned.Erasure.TheVariants.{Nothing}
use Rattle.nl_pseg.specs.Space.{left_in_victim, victims}
use Rattle.std.proofs.Common.{◌≡◌, sym, subst, ◌↔◌}
use Rattle.nl_pseg.specs.Copies.{ErasesIfDone, ErasesOn}
use Rattle.nl_pseg.specs.Segment.{Physical, IsPhysicalOf}
use Rattle.nl_pseg.specs.Seen.{seen, FitsPhysical}
use Rattle.nl_pseg.specs.Kept.{kept}
use Rattle.nl_pseg.proofs.pseg.PSeg.erase_victim.Goals as goal

pub erase_victim-erased-requires-clause-fits : goal.erase_victim-erased-requires-clause-fits
erase_victim-erased-requires-clause-fits g c = subst (λ (s : Physical). FitsPhysical (g.M.Nand.geometry c.args.media.now) s) (sym c.self.view_is) c.requires.fits

pub erase_victim-erased-requires-clause-segment : goal.erase_victim-erased-requires-clause-segment
erase_victim-erased-requires-clause-segment g c t = subst (IsPhysicalOf (g.M.Nand.contents c.args.media.now)) (sym c.self.view_is) (c.requires.segment t)

pub whole-requires-clause-formed : goal.whole-requires-clause-formed
whole-requires-clause-formed g c = c.erase_victim-erased.ensures.consistent.formed

pub whole-requires-clause-tied : goal.whole-requires-clause-tied
whole-requires-clause-tied g c = c.erase_victim-erased.ensures.consistent.tied

pub whole-requires-clause-few : goal.whole-requires-clause-few
whole-requires-clause-few g c = c.erase_victim-erased.ensures.consistent.few

pub returns-clause-whole : goal.returns-clause-whole
returns-clause-whole g c = c.whole.ensures.whole

pub returns-clause-nothing : goal.returns-clause-nothing
returns-clause-nothing g c = subst (λ (s : Physical). (c.erase_victim-erased.result ≡ Nothing) ↔ ((victims s ≡ 1) × (left_in_victim s ≡ 0) → ⊥)) c.self.view_is c.erase_victim-erased.ensures.nothing

pub returns-clause-refused : goal.returns-clause-refused
returns-clause-refused g c is = c.erase_victim-erased.ensures.refused is

pub returns-clause-geometry : goal.returns-clause-geometry
returns-clause-geometry g c = c.erase_victim-erased.ensures.geometry

pub returns-clause-clock : goal.returns-clause-clock
returns-clause-clock g c = c.erase_victim-erased.ensures.clock

pub returns-clause-read_faults : goal.returns-clause-read_faults
returns-clause-read_faults g c = c.erase_victim-erased.ensures.read_faults

pub returns-clause-write_faults : goal.returns-clause-write_faults
returns-clause-write_faults g c = c.erase_victim-erased.ensures.write_faults

pub erase_victim-erased-requires-clause-consistent : goal.erase_victim-erased-requires-clause-consistent
erase_victim-erased-requires-clause-consistent g c =
    record { formed = c.self.invariant.0; tied = c.self.invariant.1; few = c.self.invariant.2 }

pub returns-clause-erases : goal.returns-clause-erases
returns-clause-erases g c =
    subst (λ (s : Physical). ErasesIfDone c.erase_victim-erased.result s (seen (kept c.erase_victim-erased.new.self))) c.self.view_is c.erase_victim-erased.ensures.erases

pub returns-clause-medium : goal.returns-clause-medium
returns-clause-medium g c t =
    subst (λ (s : Physical). ErasesOn g.M.Nand.clock g.M.Nand.contents g.M.Nand.left c.erase_victim-erased.result s (seen (kept c.erase_victim-erased.new.self)) c.args.media.now c.erase_victim-erased.new.media) c.self.view_is (c.erase_victim-erased.ensures.medium t)
