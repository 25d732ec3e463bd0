use Rattle.std.proofs.Common.{◌≡◌, inl, inr, ⊎_elim, ℕ, ◌+◌, ◌*◌, ◌≤◌, Option, refl, sym, ◌∙◌, subst, arith}
use Rattle.nl_field.specs.CrashStates.{Rose}
use Rattle.nl_field.specs.Page.{Image}
use Rattle.nl_field.specs.declared.answers.VirtualWrite.TheVariants as write
use Rattle.nl_iface.specs.Stored.{Value}
use Rattle.nl_nand.specs.Nand.{ImageOf}
use Rattle.nl_vseg.specs.Effects.{ImageKeepsMap, GainsValue}
use Rattle.nl_vseg.specs.Places.{map_of, stamp_for}
use Rattle.nl_device.proofs.Calls.{found_beyond, found_still}
use Rattle.nl_device.proofs.Laws.{names_are, no_stamp_beyond}
use Rattle.nl_device.proofs.Made.{made_medium}
use Rattle.nl_device.proofs.Forms.{begins, kept_segments, lift, same_from, shape_is}
use Rattle.nl_device.proofs.Writes.{beyond_of, bytes_same, done_or, keeps_below, keeps_leaves, keeps_there, next_rises, next_taken, none_stray, physical_kept, rose_or, stamp_lost, stamps_done, stray_done, stray_failed, stray_kept, takes_below, takes_leaves, takes_there, with_there, write_rises}
use Rattle.nl_device.proofs.Leaving.{names_in, names_still, spare_kept, victim_from}
use Rattle.nl_device.proofs.virtual_pages.DeviceVirtualPages.virtual_write.Goals as goal

pub returns-clause-left : goal.returns-clause-left
returns-clause-left g c t =
    let d = c.args.self.now in
    let f = c.requires.formed in
    let e = c.virtual_write-answer.ensures in
    let old = g.M.Nand.contents d.media in
    let new = g.M.Nand.contents c.virtual_write-answer.new.media in
    let map : ℕ → Option Value = λ u. map_of d.vseg.places old u in
    let old_is = shape_is f.segments (g.met.M.Nand.contents_fit d.media t) in
    let new_is = shape_is f.segments (subst (λ n. ImageOf n new) e.writes.geometry (g.met.M.Nand.contents_fit c.virtual_write-answer.new.media t)) in
    let main = c.args.from.now.main in
    let some = f.segments.some in
    let keeps = λ (image : Image) (k : ImageKeepsMap d.vseg.pages d.vseg.bound map old image). subst (λ (x : ℕ). ImageKeepsMap x (d.shape.vblocks * d.shape.pages) map old image) f.segments.virtual_pages (subst (λ b. ImageKeepsMap d.vseg.pages b map old image) f.segments.virtual_bound k) in
    let takes = λ (image : Image) (k : GainsValue d.vseg.pages d.vseg.bound map c.args.vaddr d.next main old image). subst (λ (x : ℕ). GainsValue x (d.shape.vblocks * d.shape.pages) map c.args.vaddr d.next main old image) f.segments.virtual_pages (subst (λ b. GainsValue d.vseg.pages b map c.args.vaddr d.next main old image) f.segments.virtual_bound k) in
    record {
      stops = lift (λ d. d.media) _ _ ((e.writes.value t).crash) (λ m image l turned.
          let image_is = shape_is f.segments (subst (λ n. ImageOf n image) e.writes.geometry (g.met.M.Nand.left_fits c.virtual_write-answer.new.media m image t l)) in
          ⊎_elim
          (λ was. inl (was.0, keeps_leaves d.shape c.args.vaddr d.next main map old image old_is image_is some (keeps image was.1)))
          (λ new. inr (takes_leaves d.shape c.args.vaddr d.next main map old image old_is image_is some (takes image new) (f.medium t).below))
          turned);
      now = ⊎_elim
          (λ done. inr (takes_leaves d.shape c.args.vaddr d.next main map old new old_is new_is some (takes new ((e.writes.value t).takes done)) (f.medium t).below))
          (λ undone. ⊎_elim
          (λ k. inl (undone, keeps_leaves d.shape c.args.vaddr d.next main map old new old_is new_is some (keeps new k)))
          (λ k. inr (takes_leaves d.shape c.args.vaddr d.next main map old new old_is new_is some (takes new k) (f.medium t).below))
          ((e.writes.value t).either))
          (done_or c.virtual_write-answer.result);
    }

pub returns-clause-written : goal.returns-clause-written
returns-clause-written g c =
    let d = c.args.self.now in
    let f = c.requires.formed in
    let e = c.virtual_write-answer.ensures in
    let old = g.M.Nand.contents d.media in
    let new = g.M.Nand.contents c.virtual_write-answer.new.media in
    let bound = d.shape.vblocks * d.shape.pages in
    let map : ℕ → Option Value = λ u. map_of d.vseg.places old u in
    let now : ℕ → Option Value = λ u. map_of c.virtual_write-answer.new.self.places new u in
    let main = c.args.from.now.main in
    let to_keeps : ImageKeepsMap d.vseg.pages d.vseg.bound map old new → ImageKeepsMap d.vseg.pages bound map old new = λ k. subst (λ b. ImageKeepsMap d.vseg.pages b map old new) f.segments.virtual_bound k in
    let to_takes : GainsValue d.vseg.pages d.vseg.bound map c.args.vaddr d.next main old new → GainsValue d.vseg.pages bound map c.args.vaddr d.next main old new = λ k. subst (λ b. GainsValue d.vseg.pages b map c.args.vaddr d.next main old new) f.segments.virtual_bound k in
    record {
      stamps = e.writes.stamps.taken;
      same_stamps = e.writes.stamps.same;
      map = λ t done u. (e.writes.value t).map done u;
      same_map = λ t undone u. (e.writes.value t).same undone u;
      failed = λ t v x stray. ⊎_elim
          (λ done. inl (stray_done d.vseg.pages bound c.args.vaddr d.next main map now old new (f.medium t).below (to_takes ((e.writes.value t).takes done)) ((e.writes.value t).map done) v x stray))
          (λ undone. ⊎_elim
          (λ rose. ⊎_elim
          (λ k. inl (stray_kept d.vseg.pages bound c.args.vaddr d.next main map now old new (f.medium t).below (to_keeps k) ((e.writes.value t).same undone) v x stray))
          (λ k. ⊎_elim
          (λ was. inl was)
          (λ here. inr (undone, rose, here.0, here.1))
          (stray_failed d.vseg.pages bound c.args.vaddr d.next main map now old new (f.medium t).below (to_takes k) ((e.writes.value t).same undone) v x stray))
          ((e.writes.value t).either))
          (λ unrisen. inl (stray_kept d.vseg.pages bound c.args.vaddr d.next main map now old new (f.medium t).below (to_keeps ((e.writes.value t).unused undone unrisen)) ((e.writes.value t).same undone) v x stray))
          (rose_or (g.M.Nand.write_faults d.media) (g.M.Nand.write_faults c.virtual_write-answer.new.media)))
          (done_or c.virtual_write-answer.result);
      superseded = λ t done x stray. none_stray d.vseg.pages bound c.args.vaddr d.next main map now old new (f.medium t).below (to_takes ((e.writes.value t).takes done)) ((e.writes.value t).map done) x stray;
    }

pub returns-clause-kept : goal.returns-clause-kept
returns-clause-kept g c =
    let f = c.requires.formed in
    record {
      same_shape = refl;
      tables = record { live = λ q. refl; pairs = refl; pending = refl; handled = λ n. refl; posted = refl };
      space = record {
        same = record { block = refl; all = refl; bad = omega arith; kept = refl };
        blocks = (refl, refl, refl);
        pages = (refl, refl, refl);
        cleaning = (refl, refl, refl);
        room = omega arith;
      };
      names = λ none. refl;
      bytes = λ t. bytes_same (c.args.self.now.shape.vblocks * c.args.self.now.shape.pages) (g.M.Nand.contents c.args.self.now.media) (g.M.Nand.contents c.virtual_write-answer.new.media)
          (λ p le. beyond_of ((c.virtual_write-answer.ensures.writes.value t).either) p (subst (λ b. b ≤ p) (sym f.segments.virtual_bound) le));
      found = refl;
      clean = λ k. k;
    }

pub returns-clause-spare : goal.returns-clause-spare
returns-clause-spare g c = record { cleaned = λ done. c.virtual_write-answer.ensures.serves.spare; sound = λ none. c.virtual_write-answer.ensures.serves.spare }

pub returns-clause-next_stamp : goal.returns-clause-next_stamp
returns-clause-next_stamp g c =
    let d = c.args.self.now in
    let e = c.virtual_write-answer.ensures in
    let before = g.M.Nand.write_faults d.media in
    let after = g.M.Nand.write_faults c.virtual_write-answer.new.media in
    let means = c.takes_stamp-taken.ensures in
    let to_rose : Rose c.write_faults-faults.result c.write_faults.result → Rose before after = λ rose. subst (λ n. Rose n after) c.write_faults-faults.ensures (subst (λ n. Rose c.write_faults-faults.result n) c.write_faults.ensures rose) in
    let from_rose : Rose before after → Rose c.write_faults-faults.result c.write_faults.result = λ rose. subst (λ n. Rose n c.write_faults.result) (sym c.write_faults-faults.ensures) (subst (λ n. Rose before n) (sym c.write_faults.ensures) rose) in
    write_rises (c.virtual_write-answer.result ≡ write.Done) c.takes_stamp-taken.result c.stamp_after-self.result d.next (g.M.Nand.clock d.media) (g.M.Nand.clock c.virtual_write-answer.new.media) before after c.stamp_after-self.ensures
    ((λ taken. ⊎_elim (λ done. inl done) (λ rose. inr (to_rose rose)) (means.0 taken)), (λ tried. means.1 (⊎_elim (λ done. inl done) (λ rose. inr (from_rose rose)) tried)))
    e.writes.counts.later e.writes.counts.more_writes e.writes.ticks

pub returns-clause-clock : goal.returns-clause-clock
returns-clause-clock g c = record { clock = c.virtual_write-answer.ensures.writes.counts.later; later = c.virtual_write-answer.ensures.writes.ticks }

pub returns-clause-faults : goal.returns-clause-faults
returns-clause-faults g c =
    let k = c.virtual_write-answer.ensures.writes.counts in
    record { reads_never_fall = k.more_reads; writes_never_fall = k.more_writes; cause = k.cause; stays = λ exact un. k.stays un }

pub returns-clause-formed : goal.returns-clause-formed
returns-clause-formed g c =
    let d = c.args.self.now in
    let f = c.requires.formed in
    let e = c.virtual_write-answer.ensures in
    let old = g.M.Nand.contents d.media in
    let new = g.M.Nand.contents c.virtual_write-answer.new.media in
    let seg = c.virtual_write-answer.new.self in
    let bound = d.shape.vblocks * d.shape.pages in
    let map : ℕ → Option Value = λ u. map_of d.vseg.places old u in
    let main = c.args.from.now.main in
    let next = c.stamp_after-self.result in
    let taken = c.takes_stamp-taken.result in
    let to_keeps : ImageKeepsMap d.vseg.pages d.vseg.bound map old new → ImageKeepsMap d.vseg.pages bound map old new = λ k. subst (λ b. ImageKeepsMap d.vseg.pages b map old new) f.segments.virtual_bound k in
    let to_takes : GainsValue d.vseg.pages d.vseg.bound map c.args.vaddr d.next main old new → GainsValue d.vseg.pages bound map c.args.vaddr d.next main old new = λ k. subst (λ b. GainsValue d.vseg.pages b map c.args.vaddr d.next main old new) f.segments.virtual_bound k in
    let rises : d.next ≤ next = next_rises taken next d.next c.stamp_after-self.ensures in
    let more_done : c.virtual_write-answer.result ≡ write.Done → next ≡ d.next + 1 = λ done. next_taken taken next d.next c.stamp_after-self.ensures (c.takes_stamp-taken.ensures.1 (inl done)) in
    let more_rose : Rose (g.M.Nand.write_faults d.media) (g.M.Nand.write_faults c.virtual_write-answer.new.media) → next ≡ d.next + 1 = λ rose. next_taken taken next d.next c.stamp_after-self.ensures (c.takes_stamp-taken.ensures.1 (inr (subst (λ n. Rose n c.write_faults.result) (sym c.write_faults-faults.ensures) (subst (λ n. Rose (g.M.Nand.write_faults d.media) n) (sym c.write_faults.ensures) rose)))) in
    record {
      segments = kept_segments f.segments e.writes.geometry e.serves.numbers;
      mapped = record { places_in = e.serves.below; blank_in = e.serves.within };
      live = f.live;
      spare = f.spare;
      called = f.called;
      legal = f.legal;
      unwritten = no_stamp_beyond (kept_segments f.segments e.writes.geometry e.serves.numbers);
      names = names_are (kept_segments f.segments e.writes.geometry e.serves.numbers) next f.live f.names.space (λ p h held. let lt = f.stamp.live p h held in omega (arith, lt, rises));
      found = found_still f.found rises;
      found_stored = λ t.
          let beyond = λ (p : ℕ) (le : bound ≤ p). beyond_of ((e.writes.value t).either) p (subst (λ b. b ≤ p) (sym f.segments.virtual_bound) le) in
          let old_is = shape_is f.segments (g.met.M.Nand.contents_fit d.media t) in
          let new_is = shape_is f.segments (subst (λ n. ImageOf n new) e.writes.geometry (g.met.M.Nand.contents_fit c.virtual_write-answer.new.media t)) in
          found_beyond d.kept d.shape old new (same_from d.shape old new old_is new_is beyond) (bytes_same bound old new beyond) (f.found_stored t);
      stamp = record {
        some = let some = f.stamp.some in omega (arith, some, rises);
        addresses = λ v t has. ⊎_elim
            (λ done. stamps_done c.args.vaddr d.next next (λ u. stamp_for d.vseg.places u) (λ u. stamp_for seg.places u) (e.writes.stamps.taken done) f.stamp.addresses (more_done done) v t has)
            (λ undone. let lt = f.stamp.addresses v t (sym (e.writes.stamps.same undone v) ∙ has) in omega (arith, lt, rises))
            (done_or c.virtual_write-answer.result);
        live = λ p h held. let lt = f.stamp.live p h held in omega (arith, lt, rises);
      };
      medium = λ t.
          let on = f.medium t in
          let beyond = λ (p : ℕ) (le : bound ≤ p). beyond_of ((e.writes.value t).either) p (subst (λ b. b ≤ p) (sym f.segments.virtual_bound) le) in
          let now_fits = subst (λ n. ImageOf n new) e.writes.geometry (g.met.M.Nand.contents_fit c.virtual_write-answer.new.media t) in
          made_medium (kept_segments f.segments refl e.serves.numbers) now_fits f.live (e.serves.segment t)
          (physical_kept bound d.pseg old new f.live f.spare.whole (begins f.segments) (λ p le. beyond_of ((e.writes.value t).either) p (subst (λ b. b ≤ p) (sym f.segments.virtual_bound) le)) on.physical_is)
          (λ v s n has. ⊎_elim
          (λ done. with_there d.vseg.pages bound c.args.vaddr d.next main map old new (to_takes ((e.writes.value t).takes done)) v s n (sym ((e.writes.value t).map done v) ∙ has))
          (λ undone. ⊎_elim
          (λ k. keeps_there d.vseg.pages bound c.args.vaddr d.next main map old new (to_keeps k) v s n (sym ((e.writes.value t).same undone v) ∙ has))
          (λ k. takes_there d.vseg.pages bound c.args.vaddr d.next main map old new (to_takes k) v s n (sym ((e.writes.value t).same undone v) ∙ has))
          ((e.writes.value t).either))
          (done_or c.virtual_write-answer.result))
          (⊎_elim
          (λ done. takes_below d.next next (to_takes ((e.writes.value t).takes done)) on.below (more_done done))
          (λ undone. ⊎_elim
          (λ rose. ⊎_elim
          (λ k. keeps_below d.next next (to_keeps k) on.below rises)
          (λ k. takes_below d.next next (to_takes k) on.below (more_rose rose))
          ((e.writes.value t).either))
          (λ unrisen. keeps_below d.next next (to_keeps ((e.writes.value t).unused undone unrisen)) on.below rises)
          (rose_or (g.M.Nand.write_faults d.media) (g.M.Nand.write_faults c.virtual_write-answer.new.media)))
          (done_or c.virtual_write-answer.result))
          (λ p page is.
          let same = same_from d.shape old new (shape_is f.segments (g.met.M.Nand.contents_fit d.media t)) (shape_is f.segments now_fits) beyond in
          let was = on.named_below p page (sym (same p) ∙ is) in
          omega (arith, was, rises))
          f.spare
          (spare_kept d.pseg old new
          (λ p h has. beyond p (subst (λ n. n ≤ p) (begins f.segments) (f.live.in_segment p h has).0))
          (λ q hand. beyond q (victim_from f.segments f.spare q hand)) on.spare)
          (names_still (names_in on.pages) (λ name page live. inl (live, same_from d.shape old new (shape_is f.segments (g.met.M.Nand.contents_fit d.media t)) (shape_is f.segments now_fits) beyond name)));
    }

pub returns-clause-lost : goal.returns-clause-lost
returns-clause-lost g c = stamp_lost g.M.Nand.tells c.args.self.now.vseg.places c.virtual_write-answer.result c.virtual_write-answer.ensures.lost
