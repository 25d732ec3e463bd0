use Rattle.std.proofs.Common.{◌≡◌, ◌∙◌, List, Some, None, ap, sym, subst}
use Rattle.nl_core_open.proofs.OnlyRead.{Reads, then_read}
use Rattle.nl_device.specs.Kept.{KeptPages, kept_of_scan}
use Rattle.nl_device.specs.Medium.{medium_of}
use Rattle.nl_device.specs.Reopened.{CanBeRetained}
use Rattle.nl_device.specs.Retain.{CanRetain, kept_of}
use Rattle.nl_device.specs.contracts.counts.DeviceCounts.TheImpl.{ghosts}
use Rattle.nl_field.specs.CrashStates.{Rose}
use Rattle.nl_field.specs.declared.pointer.Pointer.{Pointer}
use Rattle.nl_field.specs.declared.shape.Shape.{Shape}
use Rattle.nl_iface.specs.Names.{Names}
use Rattle.nl_meta_running.specs.Running.{running_on}
use Rattle.nl_recover.specs.Retaining.{pointers_in}
use Rattle.nl_map.proofs.Judged.{count_is, first_is, live_is}
use Rattle.nl_map.proofs.judging.judge.Goals as goal

pub retain-requires-clause-idle : goal.retain-requires-clause-idle
retain-requires-clause-idle g c = ap (λ (n : Names). n.space.victim) c.recover.ensures.device.names ∙ c.requires.idle

pub retain-requires-clause-no_live : goal.retain-requires-clause-no_live
retain-requires-clause-no_live g c = λ p. ap (λ (n : Names). n.live p) c.recover.ensures.device.names ∙ c.requires.no_live p

pub retain-requires-clause-can : goal.retain-requires-clause-can
retain-requires-clause-can g c =
    let G = ghosts g.row.M g.M.Nand g.M.Nand-dict in
    let s = c.args.device in
    let d = c.recover.new.device in
    let w = c.in-Ready.walked in
    let seen = c.args.scan.now.seen in
    let r = c.recover.ensures in
    let told = c.kept_can_be_retained.ensures in
    let walked = c.in-Ready.ensures.walked in
    let pages = running_on G d w.meta in
    let held : CanBeRetained d.shape seen (pointers_in d.shape pages) = record {
      spare = told.spare d.shape pages seen walked.consistent;
      found = told.found d.shape pages seen walked.consistent;
      differ = told.differ d.shape pages seen walked.consistent;
      names_differ = told.names_differ d.shape pages seen walked.consistent;
      own = told.own d.shape pages seen walked.consistent;
      few_lost = told.few_lost d.shape pages seen walked.consistent;
    } in
    let listed : CanBeRetained d.shape seen w.kept.items = subst (λ (ps : List Pointer). CanBeRetained d.shape seen ps) (sym walked.kept) held in
    let same : d.shape ≡ c.args.shape.now = r.device.medium.virtual.same_shape ∙ sym c.requires.shape in
    let kept : kept_of d ≡ kept_of_scan d.shape seen =
    c.formed_devices.ensures.kept s d c.requires.formed r.formed r.device.medium.virtual.same_shape r.device.medium.found
    ∙ c.requires.scanned ∙ ap (λ (h : Shape). kept_of_scan h seen) (sym same) in
    subst (λ (k : KeptPages). CanRetain k w.kept.items) (sym kept) (c.a_list_tells_what_can_be_retained.ensures d.shape seen w.kept.items listed)

pub returns-in-Ok-clause-told : goal.returns-in-Ok-clause-told
returns-in-Ok-clause-told g c = λ tells.
    let G = ghosts g.row.M g.M.Nand g.M.Nand-dict in
    let s = c.args.device in
    let d = c.recover.new.device in
    let w = c.in-Ready.walked in
    let r = c.recover.ensures in
    let image = g.M.Nand.contents (medium_of s) in
    let kept : kept_of d ≡ kept_of_scan c.args.shape.now c.args.scan.now.seen =
    c.formed_devices.ensures.kept s d c.requires.formed r.formed r.device.medium.virtual.same_shape r.device.medium.found ∙ c.requires.scanned in (
      first_is G s d image c.args.shape.now c.args.scan.now tells c.requires.shape (c.requires.image tells) (c.requires.map tells) (c.requires.listed tells) None (c.in-Ready.ensures.told tells),
      live_is G s d image c.args.shape.now c.args.scan.now tells c.requires.shape (c.requires.image tells) (c.requires.map tells) (c.requires.listed tells) w r.device c.in-Ready.ensures.walked
          c.in-Ok.live (G.found d) (G.names c.retain.new.self) kept c.retain.ensures.retained c.in-Ok.ensures,
      count_is G s d image c.args.shape.now c.args.scan.now tells c.requires.shape (c.requires.image tells) (c.requires.map tells) (c.requires.listed tells) w r.device c.in-Ready.ensures.walked,
    )

pub returns-in-Damaged-clause-told : goal.returns-in-Damaged-clause-told
returns-in-Damaged-clause-told g c = λ tells.
    let G = ghosts g.row.M g.M.Nand g.M.Nand-dict in
    let s = c.args.device in
    let d = c.recover.new.device in
    first_is G s d (g.M.Nand.contents (medium_of s)) c.args.shape.now c.args.scan.now tells c.requires.shape (c.requires.image tells) (c.requires.map tells) (c.requires.listed tells)
    (Some c.in-Damaged.place) (c.in-Damaged.ensures.told tells)

-- ---- the medium was only read

pub returns-in-Ok-clause-medium : goal.returns-in-Ok-clause-medium
returns-in-Ok-clause-medium g c =
    let N = g.M.Nand in
    let k = c.recover.ensures.device.medium in
    let b = c.retain.ensures.medium in
    let s = medium_of c.args.device in
    let d = medium_of c.recover.new.device in
    let e = medium_of c.retain.new.self in
    subst (Reads N s) (sym c.into_media-media.ensures)
    (then_read N s d e (record { same_contents = k.contents; no_more_left = k.left; same_clock = k.clock; same_write_faults = k.write_faults })
    (record { same_contents = b.contents; no_more_left = b.left; same_clock = b.clock; same_write_faults = b.write_faults }))

pub returns-in-Ready-clause-medium : goal.returns-in-Ready-clause-medium
returns-in-Ready-clause-medium g c =
    let N = g.M.Nand in
    let k = c.recover.ensures.device.medium in
    let b = c.retain.ensures.medium in
    let s = medium_of c.args.device in
    let d = medium_of c.recover.new.device in
    let e = medium_of c.retain.new.self in
    subst (Reads N s) (sym c.into_media-media.ensures)
    (then_read N s d e (record { same_contents = k.contents; no_more_left = k.left; same_clock = k.clock; same_write_faults = k.write_faults })
    (record { same_contents = b.contents; no_more_left = b.left; same_clock = b.clock; same_write_faults = b.write_faults }))

pub returns-in-Ok-clause-no_fault : goal.returns-in-Ok-clause-no_fault
returns-in-Ok-clause-no_fault g c = λ no.
    ap g.M.Nand.read_faults c.into_media-media.ensures ∙ (c.retain.ensures.medium.read_faults ∙ c.in-Ready.ensures.faults.stays tt (λ x. x))

pub returns-in-Ready-clause-no_fault : goal.returns-in-Ready-clause-no_fault
returns-in-Ready-clause-no_fault g c = λ no.
    ap g.M.Nand.read_faults c.into_media-media.ensures ∙ (c.retain.ensures.medium.read_faults ∙ c.in-Ready.ensures.faults.stays tt (λ x. x))

pub returns-in-Damaged-clause-medium : goal.returns-in-Damaged-clause-medium
returns-in-Damaged-clause-medium g c =
    let k = c.recover.ensures.device.medium in
    subst (Reads g.M.Nand (medium_of c.args.device)) (sym c.into_media.ensures)
    (record { same_contents = k.contents; no_more_left = k.left; same_clock = k.clock; same_write_faults = k.write_faults })

pub returns-in-Damaged-clause-no_fault : goal.returns-in-Damaged-clause-no_fault
returns-in-Damaged-clause-no_fault g c = λ no. ap g.M.Nand.read_faults c.into_media.ensures ∙ c.in-Damaged.ensures.faults.stays tt (λ x. x)

pub returns-in-Fault-clause-medium : goal.returns-in-Fault-clause-medium
returns-in-Fault-clause-medium g c =
    let k = c.recover.ensures.device.medium in
    subst (Reads g.M.Nand (medium_of c.args.device)) (sym c.into_media-in-Fault.ensures)
    (record { same_contents = k.contents; no_more_left = k.left; same_clock = k.clock; same_write_faults = k.write_faults })

pub returns-in-Fault-clause-fault : goal.returns-in-Fault-clause-fault
returns-in-Fault-clause-fault g c = λ is.
    subst (λ (m : g.row.M.Denot). Rose (g.M.Nand.read_faults (medium_of c.args.device)) (g.M.Nand.read_faults m)) (sym c.into_media-in-Fault.ensures) (c.in-Fault.ensures.faults.cause tt)

pub returns-clause-medium : goal.returns-clause-medium
returns-clause-medium g c =
    let k = c.recover.ensures.device.medium in
    subst (Reads g.M.Nand (medium_of c.args.device)) (sym c.into_media-in-Memory.ensures)
    (record { same_contents = k.contents; no_more_left = k.left; same_clock = k.clock; same_write_faults = k.write_faults })

pub returns-clause-no_fault : goal.returns-clause-no_fault
returns-clause-no_fault g c = λ no. ap g.M.Nand.read_faults c.into_media-in-Memory.ensures ∙ c.in-Memory.ensures.faults.stays tt (λ x. x)
