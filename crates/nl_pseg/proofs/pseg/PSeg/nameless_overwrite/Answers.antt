use Rattle.std.proofs.Common.{◌≡◌, ◌⊎◌, ◌↔◌, subst, sym}
use Rattle.nl_field.specs.Live.{resolve}
use Rattle.nl_field.specs.declared.answers.Named.TheVariants.{NoPage, NotLive}
use Rattle.nl_pseg.specs.Effects.{WriteCounted}
use Rattle.nl_pseg.specs.Segment.{CanSpareBlock, Physical, IsLive, NeedsNoErase, IsPhysicalOf, room}
use Rattle.nl_pseg.specs.Seen.{seen, FitsPhysical}
use Rattle.nl_pseg.specs.Writes.{ReplacesPage, WritesOn}
use Rattle.nl_pseg.proofs.Overwrote.{over_few, over_replaces, over_spare}
use Rattle.nl_pseg.specs.Kept.{kept}
use Rattle.nl_pseg.proofs.pseg.PSeg.nameless_overwrite.Goals as goal

pub whole-requires-clause-few : goal.whole-requires-clause-few
whole-requires-clause-few g c =
    let i = c.self.invariant in
    let e = c.overwrite-named.ensures in
    over_few c.overwrite-named.result (resolve (seen (kept c.self.inside.state)).pairs c.args.old.name) c.args.stamp _ (kept c.self.inside.state) (kept c.overwrite-named.new.self) i.0 i.1 i.3 i.2 e.formed e.tied c.table.ensures e.over

pub returns-clause-counts : goal.returns-clause-counts
returns-clause-counts g c =
    let e = c.overwrite-named.ensures in
    subst (λ (s : Physical). WriteCounted g.M.Nand.clock g.M.Nand.read_faults g.M.Nand.write_faults (NeedsNoErase s) c.args.media.now c.overwrite-named.new.media c.overwrite-named.result) c.self.view_is
    (e.counts)

pub returns-clause-live : goal.returns-clause-live
returns-clause-live g c =
    let e = c.overwrite-named.ensures in
    subst (λ (s : Physical). (c.overwrite-named.result ≡ NotLive) ↔ (IsLive s c.args.old → ⊥)) c.self.view_is
    (e.live)

pub returns-clause-full : goal.returns-clause-full
returns-clause-full g c =
    let e = c.overwrite-named.ensures in
    subst (λ (s : Physical). (c.overwrite-named.result ≡ NoPage) ↔ (IsLive s c.args.old × (room s ≡ 0))) c.self.view_is
    (e.full)

pub returns-clause-refused : goal.returns-clause-refused
returns-clause-refused g c =
    let e = c.overwrite-named.ensures in
    subst (λ (s : Physical). (c.overwrite-named.result ≡ NotLive) ⊎ (c.overwrite-named.result ≡ NoPage) → ((seen (kept c.overwrite-named.new.self)) ≡ s) × (c.overwrite-named.new.media ≡ c.args.media.now)) c.self.view_is
    (e.refused)

pub overwrite-named-requires-clause-formed : goal.overwrite-named-requires-clause-formed
overwrite-named-requires-clause-formed g c = c.self.invariant.0

pub overwrite-named-requires-clause-tied : goal.overwrite-named-requires-clause-tied
overwrite-named-requires-clause-tied g c = c.self.invariant.1

pub overwrite-named-requires-clause-fits : goal.overwrite-named-requires-clause-fits
overwrite-named-requires-clause-fits g c = subst (λ (s : Physical). FitsPhysical (g.M.Nand.geometry c.args.media.now) s) (sym c.self.view_is) c.requires.fits

pub overwrite-named-requires-clause-stamp : goal.overwrite-named-requires-clause-stamp
overwrite-named-requires-clause-stamp g c = c.requires.stamp

pub overwrite-named-requires-clause-segment : goal.overwrite-named-requires-clause-segment
overwrite-named-requires-clause-segment g c t = subst (IsPhysicalOf (g.M.Nand.contents c.args.media.now)) (sym c.self.view_is) (c.requires.segment t)

pub whole-requires-clause-formed : goal.whole-requires-clause-formed
whole-requires-clause-formed g c = c.overwrite-named.ensures.formed

pub whole-requires-clause-tied : goal.whole-requires-clause-tied
whole-requires-clause-tied g c = c.overwrite-named.ensures.tied

pub returns-clause-whole : goal.returns-clause-whole
returns-clause-whole g c = c.whole.ensures.whole

pub returns-clause-geometry : goal.returns-clause-geometry
returns-clause-geometry g c = c.overwrite-named.ensures.geometry

pub returns-clause-replaces : goal.returns-clause-replaces
returns-clause-replaces g c =
    let s = kept c.self.inside.state in
    let n = kept c.overwrite-named.new.self in
    let i = c.self.invariant in
    let e = c.overwrite-named.ensures in
    subst (λ (o : Physical). ReplacesPage (resolve o.pairs c.args.old.name) c.args.tag c.args.stamp c.overwrite-named.result o (seen n)) c.self.view_is
    (over_replaces c.overwrite-named.result (resolve (seen s).pairs c.args.old.name) c.args.tag c.args.stamp s n i.0 i.1 i.3 i.2 e.formed e.tied c.table.ensures e.over)

pub returns-clause-medium : goal.returns-clause-medium
returns-clause-medium g c t =
    subst (λ (s : Physical). WritesOn g.M.Nand.clock g.M.Nand.contents g.M.Nand.left c.args.tag c.args.stamp c.args.from.now.main c.overwrite-named.result s (seen (kept c.overwrite-named.new.self)) c.args.media.now c.overwrite-named.new.media) c.self.view_is (c.overwrite-named.ensures.medium t)

pub returns-clause-spare : goal.returns-clause-spare
returns-clause-spare g c t =
    let s = kept c.self.inside.state in
    let n = kept c.overwrite-named.new.self in
    let i = c.self.invariant in
    let e = c.overwrite-named.ensures in
    subst (λ (o : Physical). CanSpareBlock (g.M.Nand.contents c.args.media.now) o → CanSpareBlock (g.M.Nand.contents c.overwrite-named.new.media) (seen n)) c.self.view_is
    (over_spare c.overwrite-named.result (resolve (seen s).pairs c.args.old.name) c.args.stamp _ s n i.0 i.1 i.3 i.2 e.formed e.tied c.table.ensures e.over (e.medium t).crash)
