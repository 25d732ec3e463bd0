use Rattle.std.proofs.Common.{◌≡◌, ◌*◌, inl, ◌∙◌, ℕ, List, [], ◌∷◌, None, Some, length, ap, arith, refl, subst, sym}
use Rattle.nl_field.specs.Medium.{shape_of_image}
use Rattle.nl_field.specs.Numbers.{ShapeBounds, shape_for}
use Rattle.nl_field.specs.Page.{Image}
use Rattle.nl_field.specs.declared.shape.Shape.{Shape}
use Rattle.nl_device.specs.Kept.{kept_of_scan}
use Rattle.nl_device.specs.Medium.{medium_of}
use Rattle.nl_device.specs.contracts.counts.DeviceCounts.TheImpl.{ghosts}
use Rattle.nl_meta.specs.Consistent.{page_on}
use Rattle.nl_meta.specs.Committed.{committed}
use Rattle.nl_meta.specs.Walk.{walk, walk_over}
use Rattle.nl_iface.specs.Stored.{stored_in}
use Rattle.nl_meta_running.specs.Running.{stored_on}
use Rattle.nl_meta_running.proofs.Holds.{bounds-of}
use Rattle.nl_spec_commits.specs.Trees.{all_at}
use Rattle.nl_core.specs.Trees.{CoreRepresents}
use Rattle.nl_spec_image.specs.Stands.{ConsistentAs}
use Rattle.nl_recover.proofs.Imaged.{lists_readable}
use Rattle.nl_core_open.specs.Figures.{greatest_seen, least_seen}
use Rattle.nl_core_open.proofs.CanOpen.{can_begin}
use Rattle.nl_core_open.proofs.Imaged.{consistent, counted, none_failed, over, pairs, sound, walk_is}
use Rattle.nl_core_open.proofs.NextNumber.{next_number_is}
use Rattle.nl_core_open.proofs.OnlyRead.{Reads, device_read, then_read, was_read}
use Rattle.nl_core_open.proofs.SeenWear.{greatest_is, least_is}
use Rattle.nl_core_open.proofs.Spelled.{few_calls, next_small}
use Rattle.nl_core_open.proofs.opening.open_formed.Goals as goal

-- the numbers of an image are those of its medium
of_image : (blocks pages : ℕ) (image : Image) → image.blocks ≡ blocks → image.pages ≡ pages → shape_for blocks pages ≡ shape_of_image image
of_image blocks pages image is_blocks is_pages = λ i. shape_for ((sym is_blocks) i) ((sym is_pages) i)

pub returns-then-len-eq0-clause-told : goal.returns-then-len-eq0-clause-told
returns-then-len-eq0-clause-told g c = λ t.
    let image = g.M.Nand.contents c.args.media in
    (lists_readable image).0 (sym (c.in-Ready.ensures.tables t).each_page ∙ none c.in-Ready.scan.seen (sym c.len.ensures ∙ c.if-len-eq0.true))
  where
    none : {A : Type 0} (xs : List A) → length xs ≡ 0 → xs ≡ []
    none [] e = refl
    none (x ∷ xs) e = cc

pub returns-then-len-eq0-clause-medium : goal.returns-then-len-eq0-clause-medium
returns-then-len-eq0-clause-medium g c = subst (Reads g.M.Nand c.args.media) (sym c.into_media.ensures) (was_read g.M.Nand c.args.media (medium_of c.in-Ready.device) c.in-Ready.ensures.kept)

pub room_for-requires : goal.room_for-requires
room_for-requires g c = subst ShapeBounds (sym (c.requires.shape ∙ sym c.in-Ready.ensures.started.numbers)) (bounds-of c.in-Ready.device.shape c.in-Ready.ensures.formed.legal)

pub begin-requires-clause-can : goal.begin-requires-clause-can
begin-requires-clause-can g c =
    let G = ghosts g.row.M g.M.Nand g.M.Nand-dict in
    let s = c.in-Ready.device in
    let d = c.recover.new.device in
    let t = c.in-Ready.scan in
    let e = c.in-Ready.ensures in
    let r = c.recover.ensures in
    let image = g.M.Nand.contents c.args.media in
    let same : c.args.shape ≡ s.shape = c.requires.shape ∙ sym e.started.numbers in
    let fits = λ (tells : g.M.Nand.tells). g.met.M.Nand.contents_fit c.args.media tells in
    let is : g.M.Nand.tells → s.shape ≡ shape_of_image image = λ tells. e.started.numbers ∙ of_image (g.M.Nand.geometry c.args.media).blocks (g.M.Nand.geometry c.args.media).pages image (fits tells).blocks (fits tells).pages in
    let listed = λ (tells : g.M.Nand.tells). (e.tables tells).each_page in
    let none : g.M.Nand.tells → walk image ≡ None = λ tells.
    sym (walk_is G s d image t tells (is tells) (e.map tells) (listed tells))
    ∙ subst (λ (h : Shape). walk_over h (committed h (stored_on G s)) t.seen ≡ None) same (c.in-Ready-recover.ensures.told tells) in
    let good = λ (tells : g.M.Nand.tells). consistent G s d image t tells (is tells) (e.map tells) (listed tells) (none tells) in
    can_begin G s d (g.M.Nand.geometry c.args.media) t r.device e.started e.fits e.scanned
    (c.formed_devices.ensures.kept s d e.formed r.formed r.device.medium.virtual.same_shape r.device.medium.found) (λ block seen. e.spare (block, inl seen))
    (λ tells. none_failed G s d image t tells (is tells) (e.map tells) (listed tells) (e.agreed tells) (good tells))
    (λ tells. (image, ap stored_in (r.device.medium.contents tells ∙ e.kept.same_contents), good tells))

pub returns-in-Ok-clause-told : goal.returns-in-Ok-clause-told
returns-in-Ok-clause-told g c = λ tells.
    let G = ghosts g.row.M g.M.Nand g.M.Nand-dict in
    let s = c.in-Ready.device in
    let d = c.recover.new.device in
    let t = c.in-Ready.scan in
    let e = c.in-Ready.ensures in
    let r = c.recover.ensures in
    let image = g.M.Nand.contents c.args.media in
    let same : c.args.shape ≡ s.shape = c.requires.shape ∙ sym e.started.numbers in
    let fits = λ (tells : g.M.Nand.tells). g.met.M.Nand.contents_fit c.args.media tells in
    let is : g.M.Nand.tells → s.shape ≡ shape_of_image image = λ tells. e.started.numbers ∙ of_image (g.M.Nand.geometry c.args.media).blocks (g.M.Nand.geometry c.args.media).pages image (fits tells).blocks (fits tells).pages in
    let listed = λ (tells : g.M.Nand.tells). (e.tables tells).each_page in
    let none : g.M.Nand.tells → walk image ≡ None = λ tells.
    sym (walk_is G s d image t tells (is tells) (e.map tells) (listed tells))
    ∙ subst (λ (h : Shape). walk_over h (committed h (stored_on G s)) t.seen ≡ None) same (c.in-Ready-recover.ensures.told tells) in
    let w = c.in-Ready-recover.walked in
    let count = counted G s d image t tells (is tells) (e.map tells) (listed tells) w r.device c.in-Ready-recover.ensures.walked in (
      (λ blank. c.if-len-eq0.false (c.len.ensures ∙ ap length (listed tells ∙ (lists_readable image).1 blank))),
      consistent G s d image t tells (is tells) (e.map tells) (listed tells) (none tells),
      (count.0, count.1, count.2 ∙ sym c.begin.ensures.begins.counts.0),
    )

pub returns-in-Ok-clause-stands : goal.returns-in-Ok-clause-stands
returns-in-Ok-clause-stands g c = λ tells.
    let G = ghosts g.row.M g.M.Nand g.M.Nand-dict in
    let s = c.in-Ready.device in
    let d = c.recover.new.device in
    let t = c.in-Ready.scan in
    let e = c.in-Ready.ensures in
    let r = c.recover.ensures in
    let image = g.M.Nand.contents c.args.media in
    let same : c.args.shape ≡ s.shape = c.requires.shape ∙ sym e.started.numbers in
    let fits = λ (tells : g.M.Nand.tells). g.met.M.Nand.contents_fit c.args.media tells in
    let is : g.M.Nand.tells → s.shape ≡ shape_of_image image = λ tells. e.started.numbers ∙ of_image (g.M.Nand.geometry c.args.media).blocks (g.M.Nand.geometry c.args.media).pages image (fits tells).blocks (fits tells).pages in
    let listed = λ (tells : g.M.Nand.tells). (e.tables tells).each_page in
    let none : g.M.Nand.tells → walk image ≡ None = λ tells.
    sym (walk_is G s d image t tells (is tells) (e.map tells) (listed tells))
    ∙ subst (λ (h : Shape). walk_over h (committed h (stored_on G s)) t.seen ≡ None) same (c.in-Ready-recover.ensures.told tells) in
    let w = c.in-Ready-recover.walked in
    let v = c.begin.result in
    let tree = sound G s d image t tells (is tells) (e.map tells) (listed tells) w r.device c.in-Ready-recover.ensures.walked (fits tells).whole (none tells) in
    let count : w.count ≡ v.count = sym c.begin.ensures.begins.counts.0 in
    let it = over G s d image t tells (is tells) (e.map tells) (listed tells) w r.device c.in-Ready-recover.ensures.walked (ap stored_in e.kept.same_contents) tree.0 tree.1 in (
      tree.0,
      subst (λ n. ConsistentAs image n tree.0) count tree.1,
      subst (λ n. CoreRepresents G v (page_on image) (all_at n tree.0)) count (c.begin.ensures.stands tells image tree.0 it),
    )

-- the super page spells the count, and the scanned pages their numbers, whatever the medium
pub returns-in-Ok-clause-few : goal.returns-in-Ok-clause-few
returns-in-Ok-clause-few g c =
    let k = c.in-Ready-recover.ensures.walked.count in
    let low = few_calls _ k.0 k.1 in
    let is = k.2 in
    let same = c.begin.ensures.begins.counts.0 in
    omega (arith, low, is, same)

pub returns-in-Ok-clause-behind : goal.returns-in-Ok-clause-behind
returns-in-Ok-clause-behind g c =
    let N = g.M.Nand in
    let t = c.in-Ready.scan in
    let e = c.in-Ready.ensures in
    let next = c.begin.ensures.begins.medium.next_stamp ∙ (c.recover.ensures.device.medium.next_stamp ∙ e.started.stamp) in
    let low = next_small ((N.geometry c.args.media).blocks * (N.geometry c.args.media).pages) t.seen e.fits.pages in
    record {
      table = t;
      fits = e.fits;
      next_is = next;
      spelled = omega (arith, next, low);
    }

pub returns-in-Ok-clause-number : goal.returns-in-Ok-clause-number
returns-in-Ok-clause-number g c = λ tells.
    let G = ghosts g.row.M g.M.Nand g.M.Nand-dict in
    let s = c.in-Ready.device in
    let d = c.recover.new.device in
    let t = c.in-Ready.scan in
    let e = c.in-Ready.ensures in
    let r = c.recover.ensures in
    let image = g.M.Nand.contents c.args.media in
    let same : c.args.shape ≡ s.shape = c.requires.shape ∙ sym e.started.numbers in
    let fits = λ (tells : g.M.Nand.tells). g.met.M.Nand.contents_fit c.args.media tells in
    let is : g.M.Nand.tells → s.shape ≡ shape_of_image image = λ tells. e.started.numbers ∙ of_image (g.M.Nand.geometry c.args.media).blocks (g.M.Nand.geometry c.args.media).pages image (fits tells).blocks (fits tells).pages in
    let listed = λ (tells : g.M.Nand.tells). (e.tables tells).each_page in
    let none : g.M.Nand.tells → walk image ≡ None = λ tells.
    sym (walk_is G s d image t tells (is tells) (e.map tells) (listed tells))
    ∙ subst (λ (h : Shape). walk_over h (committed h (stored_on G s)) t.seen ≡ None) same (c.in-Ready-recover.ensures.told tells) in
    let w = c.in-Ready-recover.walked in
    let v = c.begin.result in
    let tree = sound G s d image t tells (is tells) (e.map tells) (listed tells) w r.device c.in-Ready-recover.ensures.walked (fits tells).whole (none tells) in
    let it = over G s d image t tells (is tells) (e.map tells) (listed tells) w r.device c.in-Ready-recover.ensures.walked (ap stored_in e.kept.same_contents) tree.0 tree.1 in
    let shape : (G.shape d).vaddrs ≡ s.shape.vaddrs = ap (λ (h : Shape). h.vaddrs) r.device.medium.virtual.same_shape in
    let bounds = bounds-of s.shape e.formed.legal in
    let addresses = bounds.addresses in
    next_number_is G d t.seen w image tree.0 it c.in-Ready-recover.ensures.walked tells (omega (arith, shape, addresses)) v c.begin.ensures.begins.metadata.0 c.begin.ensures.begins.metadata.1

pub returns-in-Ok-clause-next_stamp : goal.returns-in-Ok-clause-next_stamp
returns-in-Ok-clause-next_stamp g c = λ tells.
    c.begin.ensures.begins.medium.next_stamp ∙ (c.recover.ensures.device.medium.next_stamp ∙ (c.in-Ready.ensures.started.stamp ∙ (c.in-Ready.ensures.tables tells).next))

pub returns-in-Ok-clause-pairs : goal.returns-in-Ok-clause-pairs
returns-in-Ok-clause-pairs g c = λ tells.
    let G = ghosts g.row.M g.M.Nand g.M.Nand-dict in
    let s = c.in-Ready.device in
    let d = c.recover.new.device in
    let t = c.in-Ready.scan in
    let e = c.in-Ready.ensures in
    let r = c.recover.ensures in
    let image = g.M.Nand.contents c.args.media in
    let fits = λ (tells : g.M.Nand.tells). g.met.M.Nand.contents_fit c.args.media tells in
    let is : g.M.Nand.tells → s.shape ≡ shape_of_image image = λ tells. e.started.numbers ∙ of_image (g.M.Nand.geometry c.args.media).blocks (g.M.Nand.geometry c.args.media).pages image (fits tells).blocks (fits tells).pages in
    let listed = λ (tells : g.M.Nand.tells). (e.tables tells).each_page in
    let shape = r.device.medium.virtual.same_shape in
    let kept = c.formed_devices.ensures.kept s d e.formed r.formed shape r.device.medium.found ∙ (e.scanned ∙ ap (λ (h : Shape). kept_of_scan h t.seen) (sym shape)) in
    c.begin.ensures.pairs ∙ pairs G s d image t tells (is tells) (e.map tells) (listed tells) c.in-Ready-recover.walked r.device c.in-Ready-recover.ensures.walked kept

pub returns-in-Ok-clause-wear : goal.returns-in-Ok-clause-wear
returns-in-Ok-clause-wear g c = λ tells.
    let image = g.M.Nand.contents c.args.media in
    let listed = (c.in-Ready.ensures.tables tells).each_page in
    (c.least.ensures ∙ (ap least_seen listed ∙ least_is image), c.greatest.ensures ∙ (ap greatest_seen listed ∙ greatest_is image))

pub returns-in-Ok-clause-medium : goal.returns-in-Ok-clause-medium
returns-in-Ok-clause-medium g c =
    let N = g.M.Nand in
    let d = medium_of c.recover.new.device in
    let k = c.recover.ensures.device.medium in
    let b = c.begin.ensures.begins.medium in
    then_read N c.args.media d (medium_of c.begin.result.device)
    (device_read N c.args.media (medium_of c.in-Ready.device) d c.in-Ready.ensures.kept k.contents k.left k.clock k.write_faults)
    (record { same_contents = b.contents; no_more_left = b.left; same_clock = b.clock; same_write_faults = b.write_faults })

pub returns-in-Ok-clause-no_fault : goal.returns-in-Ok-clause-no_fault
returns-in-Ok-clause-no_fault g c quiet = c.begin.ensures.begins.medium.read_faults ∙ (c.in-Ready-recover.ensures.faults.stays tt (λ x. x) ∙ c.in-Ready.ensures.counts.1)

pub returns-in-Ready-recover-clause-medium : goal.returns-in-Ready-recover-clause-medium
returns-in-Ready-recover-clause-medium g c =
    let k = c.recover.ensures.device.medium in
    subst (Reads g.M.Nand c.args.media) (sym c.into_media-in-Err.ensures)
    (device_read g.M.Nand c.args.media (medium_of c.in-Ready.device) (medium_of c.recover.new.device) c.in-Ready.ensures.kept k.contents k.left k.clock k.write_faults)

pub returns-in-Ready-recover-clause-no_fault : goal.returns-in-Ready-recover-clause-no_fault
returns-in-Ready-recover-clause-no_fault g c quiet =
    ap g.M.Nand.read_faults c.into_media-in-Err.ensures ∙ (c.in-Ready-recover.ensures.faults.stays tt (λ x. x) ∙ c.in-Ready.ensures.counts.1)

pub returns-in-Damaged-clause-told : goal.returns-in-Damaged-clause-told
returns-in-Damaged-clause-told g c = λ tells.
    let G = ghosts g.row.M g.M.Nand g.M.Nand-dict in
    let s = c.in-Ready.device in
    let d = c.recover.new.device in
    let t = c.in-Ready.scan in
    let e = c.in-Ready.ensures in
    let r = c.recover.ensures in
    let image = g.M.Nand.contents c.args.media in
    let same : c.args.shape ≡ s.shape = c.requires.shape ∙ sym e.started.numbers in
    let fits = λ (tells : g.M.Nand.tells). g.met.M.Nand.contents_fit c.args.media tells in
    let is : g.M.Nand.tells → s.shape ≡ shape_of_image image = λ tells. e.started.numbers ∙ of_image (g.M.Nand.geometry c.args.media).blocks (g.M.Nand.geometry c.args.media).pages image (fits tells).blocks (fits tells).pages in
    let listed = λ (tells : g.M.Nand.tells). (e.tables tells).each_page in (
      (λ blank. c.if-len-eq0.false (c.len.ensures ∙ ap length (listed tells ∙ (lists_readable image).1 blank))),
      sym (walk_is G s d image t tells (is tells) (e.map tells) (listed tells))
          ∙ subst (λ (h : Shape). walk_over h (committed h (stored_on G s)) t.seen ≡ Some c.in-Damaged.place) same (c.in-Damaged.ensures.told tells),
    )

pub returns-in-Damaged-clause-medium : goal.returns-in-Damaged-clause-medium
returns-in-Damaged-clause-medium g c =
    let k = c.recover.ensures.device.medium in
    subst (Reads g.M.Nand c.args.media) (sym c.into_media-in-Damaged.ensures)
    (device_read g.M.Nand c.args.media (medium_of c.in-Ready.device) (medium_of c.recover.new.device) c.in-Ready.ensures.kept k.contents k.left k.clock k.write_faults)

pub returns-in-Fault-recover-clause-medium : goal.returns-in-Fault-recover-clause-medium
returns-in-Fault-recover-clause-medium g c =
    let k = c.recover.ensures.device.medium in
    subst (Reads g.M.Nand c.args.media) (sym c.into_media-in-Fault-recover.ensures)
    (device_read g.M.Nand c.args.media (medium_of c.in-Ready.device) (medium_of c.recover.new.device) c.in-Ready.ensures.kept k.contents k.left k.clock k.write_faults)

pub returns-in-Fault-recover-clause-no_fault : goal.returns-in-Fault-recover-clause-no_fault
returns-in-Fault-recover-clause-no_fault g c quiet = absurd (quiet tt)

pub returns-in-Ready-clause-medium : goal.returns-in-Ready-clause-medium
returns-in-Ready-clause-medium g c =
    let k = c.recover.ensures.device.medium in
    subst (Reads g.M.Nand c.args.media) (sym c.into_media-in-Memory-recover.ensures)
    (device_read g.M.Nand c.args.media (medium_of c.in-Ready.device) (medium_of c.recover.new.device) c.in-Ready.ensures.kept k.contents k.left k.clock k.write_faults)
