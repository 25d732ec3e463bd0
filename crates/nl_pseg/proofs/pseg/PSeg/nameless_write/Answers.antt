use Rattle.nl_field.specs.declared.answers.Named.TheVariants.{NoPage}
use Rattle.std.proofs.Common.{subst, ◌≡◌, ◌↔◌, sym}
use Rattle.nl_pseg.specs.Effects.{WriteCounted}
use Rattle.nl_pseg.specs.Segment.{CanSpareBlock, Physical, NeedsNoErase, IsPhysicalOf, room}
use Rattle.nl_pseg.specs.Seen.{seen, FitsPhysical}
use Rattle.nl_pseg.specs.Writes.{AddsPage, WritesOn}
use Rattle.nl_pseg.proofs.Wrote.{placed_adds, placed_few, placed_spare}
use Rattle.nl_pseg.specs.Kept.{kept}
use Rattle.nl_pseg.proofs.pseg.PSeg.nameless_write.Goals as goal

pub whole-requires-clause-few : goal.whole-requires-clause-few
whole-requires-clause-few g c =
    let i = c.self.invariant in
    let e = c.write-named.ensures in
    placed_few c.write-named.result c.args.stamp _ (kept c.self.inside.state) (kept c.write-named.new.self) i.0 i.1 i.3 i.2 e.formed e.tied c.table.ensures e.placing

pub returns-clause-counts : goal.returns-clause-counts
returns-clause-counts g c =
    subst (λ (s : Physical). WriteCounted g.M.Nand.clock g.M.Nand.read_faults g.M.Nand.write_faults (NeedsNoErase s) c.args.media.now c.write-named.new.media c.write-named.result) c.self.view_is c.write-named.ensures.counts

pub write-named-requires-clause-formed : goal.write-named-requires-clause-formed
write-named-requires-clause-formed g c = c.self.invariant.0

pub write-named-requires-clause-tied : goal.write-named-requires-clause-tied
write-named-requires-clause-tied g c = c.self.invariant.1

pub write-named-requires-clause-fits : goal.write-named-requires-clause-fits
write-named-requires-clause-fits g c = subst (λ (s : Physical). FitsPhysical (g.M.Nand.geometry c.args.media.now) s) (sym c.self.view_is) c.requires.fits

pub write-named-requires-clause-stamp : goal.write-named-requires-clause-stamp
write-named-requires-clause-stamp g c = c.requires.stamp

pub write-named-requires-clause-segment : goal.write-named-requires-clause-segment
write-named-requires-clause-segment g c t = subst (IsPhysicalOf (g.M.Nand.contents c.args.media.now)) (sym c.self.view_is) (c.requires.segment t)

pub whole-requires-clause-formed : goal.whole-requires-clause-formed
whole-requires-clause-formed g c = c.write-named.ensures.formed

pub whole-requires-clause-tied : goal.whole-requires-clause-tied
whole-requires-clause-tied g c = c.write-named.ensures.tied

pub returns-clause-whole : goal.returns-clause-whole
returns-clause-whole g c = c.whole.ensures.whole

pub returns-clause-live : goal.returns-clause-live
returns-clause-live g c is = c.write-named.ensures.live is

pub returns-clause-full : goal.returns-clause-full
returns-clause-full g c = subst (λ (s : Physical). (c.write-named.result ≡ NoPage) ↔ (room s ≡ 0)) c.self.view_is c.write-named.ensures.full

pub returns-clause-refused : goal.returns-clause-refused
returns-clause-refused g c = subst (λ (s : Physical). c.write-named.result ≡ NoPage → ((seen (kept c.write-named.new.self)) ≡ s) × (c.write-named.new.media ≡ c.args.media.now)) c.self.view_is c.write-named.ensures.refused

pub returns-clause-geometry : goal.returns-clause-geometry
returns-clause-geometry g c = c.write-named.ensures.geometry

pub returns-clause-adds : goal.returns-clause-adds
returns-clause-adds g c =
    let s = kept c.self.inside.state in
    let n = kept c.write-named.new.self in
    let i = c.self.invariant in
    let e = c.write-named.ensures in
    subst (λ (o : Physical). AddsPage c.args.tag c.args.stamp c.write-named.result o (seen n)) c.self.view_is
    (placed_adds c.write-named.result c.args.tag c.args.stamp s n i.0 i.1 i.3 i.2 e.formed e.tied c.table.ensures e.placing)

pub returns-clause-medium : goal.returns-clause-medium
returns-clause-medium g c t =
    subst (λ (s : Physical). WritesOn g.M.Nand.clock g.M.Nand.contents g.M.Nand.left c.args.tag c.args.stamp c.args.from.now.main c.write-named.result s (seen (kept c.write-named.new.self)) c.args.media.now c.write-named.new.media) c.self.view_is (c.write-named.ensures.medium t)

pub returns-clause-spare : goal.returns-clause-spare
returns-clause-spare g c t =
    let s = kept c.self.inside.state in
    let n = kept c.write-named.new.self in
    let i = c.self.invariant in
    let e = c.write-named.ensures in
    subst (λ (o : Physical). CanSpareBlock (g.M.Nand.contents c.args.media.now) o → CanSpareBlock (g.M.Nand.contents c.write-named.new.media) (seen n)) c.self.view_is
    (placed_spare c.write-named.result c.args.stamp _ s n i.0 i.1 i.3 i.2 e.formed e.tied c.table.ensures e.placing (e.medium t).crash)
