use Rattle.std.proofs.Common.{◌≡◌, sym, ap, ◌∙◌, is_some, inl, subst, arith}
use Rattle.nl_field.specs.declared.inode.InodeRec.{InodeRec}
use Rattle.nl_field.specs.declared.inode.Kind.TheVariants.{Unused}
use Rattle.nl_meta.proofs.Lists.{some_in}
use Rattle.nl_meta_running.proofs.Holds.{bounds-of}
use Rattle.nl_meta_running.proofs.Kept.{inode-resident}
use Rattle.nl_meta_running.proofs.SameNeeded.{inode-address}
use Rattle.nl_meta_running.proofs.holding.node.Goals as goal

pub hold-requires-clause-needed : goal.hold-requires-clause-needed
hold-requires-clause-needed g c =
    let b = bounds-of (g.D.Counts.shape c.args.device.now) (g.met.D.VirtualPages.numbers c.args.device.now c.requires.formed) in
    let f = b.places in
    let h = c.requires.used.1.below in
    inl (inode-address (g.D.Counts.shape c.args.device.now) c.args.ino (omega (arith, f, h)))

pub get-requires-clause-spelled : goal.get-requires-clause-spelled
get-requires-clause-spelled g c =
    let b = bounds-of (g.D.Counts.shape c.args.device.now) (g.met.D.VirtualPages.numbers c.args.device.now c.requires.formed) in
    let used = c.requires.used.1 in
    ap is_some (inode-resident g.D.Counts c.args.device.now c.args.meta.now c.hold.new.device c.hold.new.meta b c.in-Ok.ensures.kept c.args.ino used.below c.in-Ok.ensures.there.there) ∙ ap is_some used.spelled

pub returns-in-Ok-clause-node : goal.returns-in-Ok-clause-node
returns-in-Ok-clause-node g c =
    let b = bounds-of (g.D.Counts.shape c.args.device.now) (g.met.D.VirtualPages.numbers c.args.device.now c.requires.formed) in
    let used = c.requires.used.1 in
    let spelled = sym (inode-resident g.D.Counts c.args.device.now c.args.meta.now c.hold.new.device c.hold.new.meta b c.in-Ok.ensures.kept c.args.ino used.below c.in-Ok.ensures.there.there) ∙ c.get.ensures in
    record {
      below = used.below;
      spelled = spelled;
      used = subst (λ (r : InodeRec). r.kind ≡ Unused → ⊥) (some_in c.requires.used.0 c.get.result (sym used.spelled ∙ spelled)) used.used;
    }
