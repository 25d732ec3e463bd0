use Rattle.std.proofs.Common.{◌≡◌, sym, ap, ◌∙◌, is_some, inl, subst, arith, Some}
use Rattle.nl_field.specs.declared.inode.InodeRec.{InodeRec}
use Rattle.nl_meta.proofs.Lists.{some_in}
use Rattle.nl_meta_running.specs.Running.{IsNodeOf}
use Rattle.nl_meta_running.proofs.Holds.{bounds-of}
use Rattle.nl_meta_running.proofs.Kept.{inode-resident, used-on}
use Rattle.nl_meta_running.proofs.SameNeeded.{inode-address}
use Rattle.nl_calls_steps.proofs.Stepping.{core_read, reads_rise}
use Rattle.nl_calls_steps.proofs.reading.open_node.Goals as goal

pub hold-requires-clause-needed : goal.hold-requires-clause-needed
hold-requires-clause-needed g c =
    let G = g.D.Counts in
    let shape = G.shape c.args.core.now.device in
    let b = bounds-of shape c.device_stands.ensures.volume in
    let f = b.places in
    let h = c.requires.used.1.below in
    inl (inode-address shape c.args.ino (omega (arith, f, h)))

pub get-requires-clause-spelled : goal.get-requires-clause-spelled
get-requires-clause-spelled g c =
    let G = g.D.Counts in
    let v = c.args.core.now in
    let b = bounds-of (G.shape v.device) c.device_stands.ensures.volume in
    let used = c.requires.used.1 in
    ap is_some (inode-resident G v.device v.meta c.hold.new.device c.hold.new.meta b c.in-Ok.ensures.kept c.args.ino used.below c.in-Ok.ensures.there.there) ∙ ap is_some used.spelled

pub returns-in-Ok-clause-core : goal.returns-in-Ok-clause-core
returns-in-Ok-clause-core g c =
    let G = g.D.Counts in
    let v = c.args.core.now in
    let e = c.in-Ok.ensures in
    core_read G v c.hold.new.device c.hold.new.meta c.device_stands.ensures.volume c.hold.ensures.formed c.device_stands-in-Ok.ensures.pages c.requires.core e.kept (let same = e.reads in omega (arith, same))

pub returns-in-Err-clause-core : goal.returns-in-Err-clause-core
returns-in-Err-clause-core g c =
    let G = g.D.Counts in
    let v = c.args.core.now in
    let e = c.in-Err.ensures in
    core_read G v c.hold.new.device c.hold.new.meta c.device_stands.ensures.volume c.hold.ensures.formed c.device_stands-in-Err.ensures.pages c.requires.core e.kept (reads_rise G v.device c.hold.new.device (Some c.in-Err.stop) e.reads)

pub returns-in-Ok-clause-node : goal.returns-in-Ok-clause-node
returns-in-Ok-clause-node g c =
    let G = g.D.Counts in
    let v = c.args.core.now in
    let b = bounds-of (G.shape v.device) c.device_stands.ensures.volume in
    let on = c.in-Ok.ensures.kept in
    let used = c.requires.used.1 in
    let spelled = sym (inode-resident G v.device v.meta c.hold.new.device c.hold.new.meta b on c.args.ino used.below c.in-Ok.ensures.there.there) ∙ c.get.ensures in
    let same : c.requires.used.0 ≡ c.get.result = some_in c.requires.used.0 c.get.result (sym used.spelled ∙ spelled) in
    let before : IsNodeOf G v.device v.meta c.args.ino c.get.result = subst (λ (r : InodeRec). IsNodeOf G v.device v.meta c.args.ino r) same used in
    record { before = before; after = used-on G v.device v.meta c.hold.new.device c.hold.new.meta b on c.args.ino c.get.result before; there = c.in-Ok.ensures.there.there }
