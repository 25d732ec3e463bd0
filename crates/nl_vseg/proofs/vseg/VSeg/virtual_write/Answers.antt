use Rattle.std.proofs.Common.{◌≡◌, ◌<◌, subst}
use Rattle.nl_field.specs.declared.answers.VirtualWrite.TheVariants.{Done, Fault}
use Rattle.nl_vseg.specs.Cleaning.{LosesUntold}
use Rattle.nl_vseg.specs.Segment.{Segment}
use Rattle.nl_vseg.specs.Seen.{segment_of}
use Rattle.nl_vseg.specs.Tries.{SpendsTriedPage}
use Rattle.nl_vseg.specs.Writes.{StillServes, WritesValueAt, WritesDirectly}
use Rattle.nl_vseg.proofs.vseg.VSeg.virtual_write.Goals as goal

pub returns : goal.returns
returns g c =
    let e = c.write.ensures in
    let new = segment_of c.write.new.self in
    let old = c.args.media.now in
    let media = c.write.new.media in
    record {
      serves = subst (λ (s : Segment). StillServes g.M.Nand s new media) c.self.view_is e.serves;
      writes = subst (λ (s : Segment). WritesValueAt g.M.Nand c.args.vaddr c.args.stamp c.args.from.now.main (c.write.result ≡ Done) (c.write.result ≡ Fault) s new old media) c.self.view_is e.writes;
      direct = subst (λ (s : Segment). 0 < s.room → c.write.result ≡ Done → WritesDirectly g.M.Nand c.args.vaddr c.args.stamp c.args.from.now.main s new old media) c.self.view_is e.direct;
      spends = subst (λ (s : Segment). 0 < s.room → SpendsTriedPage (c.write.result ≡ Done) s new) c.self.view_is e.spends;
      lost = subst (λ (s : Segment). LosesUntold g.M.Nand.tells s.places c.write.result) c.self.view_is e.lost;
    }
