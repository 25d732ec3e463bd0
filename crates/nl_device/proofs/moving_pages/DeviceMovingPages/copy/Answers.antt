use Rattle.std.proofs.Common.{ℕ, ◌^◌, true, false, Bool, cond, is_some, get_or, inl, inr, ⊎_elim, ◌/◌, Option, Some, None, ◌*◌, ◌≡◌, ◌∙◌, ◌<◌, ◌≤◌, List, length, ap, arith, refl, subst, sym}
use Rattle.nl_callbacks.specs.Pending.{PendingTable, callback_of, new_entry, place_of}
use Rattle.nl_pseg.specs.declared.cleaned.Copied.TheVariants as copy
use Rattle.nl_field.specs.declared.pointer.Tag.{Tag}
use Rattle.nl_device.specs.Device.{IsDevice}
use Rattle.std.proofs.lemmas.Bool.{OnFalse_at, OnTrue_at, cases_Bool, true≢false}
use Rattle.std.proofs.lemmas.Option.{none-some}
use Rattle.nl_field.specs.Page.{Image, page_at, written}
use Rattle.nl_field.specs.declared.pointer.Pointer.{Pointer}
use Rattle.nl_nand.specs.Nand.{ImageOf}
use Rattle.nl_iface.specs.Moves.{Copies}
use Rattle.nl_iface.specs.Stored.{stored_in}
use Rattle.nl_iface.specs.Space.{VictimBegun}
use Rattle.nl_iface.specs.Victims.{StaysOrTakes}
use Rattle.std.specs.Bool.{OnFalse, OnTrue}
use Rattle.nl_pseg.specs.Cleaning.{BeginsBlock, CrashesMove, IsChosen, MovesLivePage, MovesNone}
use Rattle.nl_pseg.specs.Effects.{PlacesOnImage, PageIsProgrammed}
use Rattle.nl_pseg.specs.Pages.{main_of, page_with}
use Rattle.nl_pseg.specs.declared.held.Held.{Held}
use Rattle.nl_vseg.specs.Places.{map_of}
use Rattle.nl_device.specs.Shown.{IsStray, bytes_at, live_page}
use Rattle.nl_device.specs.Space.{live_in, space_of}
use Rattle.nl_device.proofs.Calls.{in_within}
use Rattle.nl_device.proofs.Made.{bytes_from}
use Rattle.nl_device.proofs.Posting.{copies}
use Rattle.nl_device.proofs.SpaceSteps.{begun, copied}
use Rattle.nl_device.proofs.Spacing.{one_for_one}
use Rattle.nl_pseg.specs.Segment.{Physical, held_at, wear_of}
use Rattle.nl_device.specs.Callbacks.{names_with}
use Rattle.nl_device.specs.State.{held_of}
use Rattle.nl_iface.specs.declared.moving.Copying.TheVariants as now
use Rattle.nl_device.proofs.Forms.{begins, lift}
use Rattle.nl_device.proofs.CopyLeft.{begun_medium, copy_counted, copy_left, copy_there, copy_ticks, failed_space, failed_tables, lost_found, lost_wanted, not_copied, still_cleans}
use Rattle.nl_device.proofs.Idle.{idle_mid, land_can, left_is, mid_idle, mid_lands}
use Rattle.nl_device.proofs.Naming.{either_live, either_low, live_bytes, map_same, stray_same, to_takes}
use Rattle.nl_device.proofs.Moving.{here_now, insert_length}
use Rattle.nl_device.proofs.Moved.{copies_from, may_copy, mid_held, mid_tables, moved_device, post_room, taken_device, takes_victim, unmoved_device}
use Rattle.nl_device.proofs.moving_pages.DeviceMovingPages.copy.Goals as goal

moved_nothing : (before after : ℕ) (tag : Tag) (stamp : ℕ) → copy.Moved before after tag stamp ≡ copy.Nothing → ⊥
moved_nothing before after tag stamp e = cc

moved_fault : (before after : ℕ) (tag : Tag) (stamp : ℕ) → copy.Moved before after tag stamp ≡ copy.Fault → ⊥
moved_fault before after tag stamp e = cc

lost_nothing : (wanted found : ℕ) → copy.Lost wanted found ≡ copy.Nothing → ⊥
lost_nothing wanted found e = cc

lost_fault : (wanted found : ℕ) → copy.Lost wanted found ≡ copy.Fault → ⊥
lost_fault wanted found e = cc

fault_nothing : copy.Fault ≡ copy.Nothing → ⊥
fault_nothing e = cc

nothing_fault : copy.Nothing ≡ copy.Fault → ⊥
nothing_fault e = cc

did_is_nothing : now.Did ≡ now.Nothing → ⊥
did_is_nothing e = cc

did_is_fault : now.Did ≡ now.Fault → ⊥
did_is_fault e = cc

nothing_is_fault : now.Nothing ≡ now.Fault → ⊥
nothing_is_fault e = cc

lost_is_nothing : (wanted found : ℕ) → now.Lost wanted found ≡ now.Nothing → ⊥
lost_is_nothing wanted found e = cc

lost_is_fault : (wanted found : ℕ) → now.Lost wanted found ≡ now.Fault → ⊥
lost_is_fault wanted found e = cc

fault_is_nothing : now.Fault ≡ now.Nothing → ⊥
fault_is_nothing e = cc

pub post-requires : goal.post-requires
post-requires g c =
    let d = c.args.self.now in
    let b = c.begin-began.ensures in
    let mid = taken_device c.requires.formed (λ t. g.met.M.Nand.contents_fit d.media t) c.begin-began.new.self false c.begin-began.result b.begun b.none b.whole b.kept b.segment b.spare in
    post_room mid c.in-Moved.ensures.copies.moved

pub returns-in-Moved-clause-formed : goal.returns-in-Moved-clause-formed
returns-in-Moved-clause-formed g c =
    let d = c.args.self.now in
    let b = c.begin-began.ensures in
    let e = c.copy_one-answer.ensures in
    let fits = λ (t : g.M.Nand.tells). g.met.M.Nand.contents_fit d.media t in
    let mid = taken_device c.requires.formed fits c.begin-began.new.self false c.begin-began.result b.begun b.none b.whole b.kept b.segment b.spare in
    let p = c.post.ensures in
    let room = post_room mid c.in-Moved.ensures.copies.moved in
    subst (λ k. IsDevice (g.M.Nand.geometry c.copy_one-answer.new.media) g.M.Nand.tells (g.M.Nand.contents c.copy_one-answer.new.media) d.shape d.vseg c.copy_one-answer.new.self c.post.new.self k d.next) (sym c.forget_after.ensures)
    (moved_device mid e.geometry fits (λ t. g.met.M.Nand.contents_fit c.copy_one-answer.new.media t) c.copy_one-answer.new.self e.whole e.copies.kept_block (λ t. (e.medium t).segment) (λ t. (e.medium t).spare)
    (λ t. may_copy ((c.copy_one-answer.ensures.medium t).crash (λ none. moved_nothing c.in-Moved.before c.in-Moved.after c.in-Moved.tag c.in-Moved.stamp (sym c.in-Moved.is ∙ none))))
    c.in-Moved.before c.in-Moved.after (record { tag = c.in-Moved.tag; stamp = c.in-Moved.stamp }) c.in-Moved.ensures.copies.moved c.post.new.self c.post.result p.table
    (ap (λ (x : PendingTable). x.callbacks) p.posted)
    (let l = ap (λ (x : PendingTable). length x.callbacks) p.posted in let r = ap (λ (x : PendingTable). x.room) p.posted in let i = insert_length d.pending.callbacks (place_of d.pending.callbacks c.post.result) (new_entry (callback_of c.post.result c.in-Moved.before c.in-Moved.after c.in-Moved.tag c.in-Moved.stamp)) in omega (arith, l, r, i, room)))

pub returns-in-Fault-clause-formed : goal.returns-in-Fault-clause-formed
returns-in-Fault-clause-formed g c =
    let d = c.args.self.now in
    let b = c.begin-began.ensures in
    let e = c.copy_one-answer.ensures in
    let fits = λ (t : g.M.Nand.tells). g.met.M.Nand.contents_fit d.media t in
    let mid = taken_device c.requires.formed fits c.begin-began.new.self false c.begin-began.result b.begun b.none b.whole b.kept b.segment b.spare in
    subst (λ k. IsDevice (g.M.Nand.geometry c.copy_one-answer.new.media) g.M.Nand.tells (g.M.Nand.contents c.copy_one-answer.new.media) d.shape d.vseg c.copy_one-answer.new.self d.pending k d.next) (sym c.forget_after-in-Fault.ensures)
    (unmoved_device mid e.geometry fits (λ t. g.met.M.Nand.contents_fit c.copy_one-answer.new.media t) c.copy_one-answer.new.self e.whole e.copies.kept_block (λ t. (e.medium t).segment) (λ t. (e.medium t).spare)
    (λ t. may_copy ((c.copy_one-answer.ensures.medium t).crash (λ none. fault_nothing (sym c.in-Fault.is ∙ none)))) (c.in-Fault.ensures.copies.kept (λ moved. moved)))

pub returns-in-Moved-clause-kept : goal.returns-in-Moved-clause-kept
returns-in-Moved-clause-kept g c =
    let d = c.args.self.now in
    let f = c.requires.formed in
    let b = c.begin-began.ensures in
    let e = c.copy_one-answer.ensures in
    let old = g.M.Nand.contents d.media in
    let new = g.M.Nand.contents c.copy_one-answer.new.media in
    let bound = d.shape.vblocks * d.shape.pages in
    let mid = taken_device f (λ t. g.met.M.Nand.contents_fit d.media t) c.begin-began.new.self false c.begin-began.result b.begun b.none b.whole b.kept b.segment b.spare in
    let either = λ (t : g.M.Nand.tells). to_takes (may_copy ((e.medium t).crash (λ none. moved_nothing c.in-Moved.before c.in-Moved.after c.in-Moved.tag c.in-Moved.stamp (sym c.in-Moved.is ∙ none)))).either in
    let low = λ (t : g.M.Nand.tells) (p : ℕ) (lt : p < bound). either_low (either t) p (subst (λ n. p < n) (sym (begins mid.segments)) lt) in
    let same = λ (t : g.M.Nand.tells). map_same old new d.vseg f.mapped (λ p lt. low t p (subst (λ n. p < n) f.segments.virtual_bound lt)) in
    record {
      virtual = record {
        same_shape = refl;
        same_stamps = λ v. refl;
        same_map = same;
        no_failed = λ t v x stray. stray_same bound old new _ _ (low t) (same t) v x stray;
        spare = λ s. s;
      };
      bytes = λ t q page is.
          let h = held_of (held_at d.pseg q) page is in
          live_bytes bound old new q (either_live (either t) q h.0 (mid_held d.pseg c.begin-began.new.self c.begin-began.result b.begun b.none q h.0 h.1));
      clean = λ clean. e.copies.clean (b.clean clean);
      next_stamp = refl;
      clock = e.counts.later;
    }

pub returns-in-Moved-clause-nothing : goal.returns-in-Moved-clause-nothing
returns-in-Moved-clause-nothing g c =
    let b = c.begin-began.ensures in (
      (λ is. absurd (did_is_nothing is)),
      (λ idle. absurd (moved_nothing _ _ _ _ (sym c.in-Moved.is ∙ c.copy_one-answer.ensures.nothing.1 (idle_mid c.args.self.now.pseg c.begin-began.new.self c.begin-began.result b.cannot b.none c.requires.formed.spare.whole idle).1))),
    )

pub returns-in-Lost-clause-kept : goal.returns-in-Lost-clause-kept
returns-in-Lost-clause-kept g c =
    let d = c.args.self.now in
    let f = c.requires.formed in
    let b = c.begin-began.ensures in
    let e = c.copy_one-answer.ensures in
    let old = g.M.Nand.contents d.media in
    let new = g.M.Nand.contents c.copy_one-answer.new.media in
    let bound = d.shape.vblocks * d.shape.pages in
    let mid = taken_device f (λ t. g.met.M.Nand.contents_fit d.media t) c.begin-began.new.self false c.begin-began.result b.begun b.none b.whole b.kept b.segment b.spare in
    let either = λ (t : g.M.Nand.tells). to_takes (may_copy ((e.medium t).crash (λ none. lost_nothing c.in-Lost.wanted c.in-Lost.found (sym c.in-Lost.is ∙ none)))).either in
    let low = λ (t : g.M.Nand.tells) (p : ℕ) (lt : p < bound). either_low (either t) p (subst (λ n. p < n) (sym (begins mid.segments)) lt) in
    let same = λ (t : g.M.Nand.tells). map_same old new d.vseg f.mapped (λ p lt. low t p (subst (λ n. p < n) f.segments.virtual_bound lt)) in
    record {
      virtual = record {
        same_shape = refl;
        same_stamps = λ v. refl;
        same_map = same;
        no_failed = λ t v x stray. stray_same bound old new _ _ (low t) (same t) v x stray;
        spare = λ s. s;
      };
      bytes = λ t q page is.
          let h = held_of (held_at d.pseg q) page is in
          live_bytes bound old new q (either_live (either t) q h.0 (mid_held d.pseg c.begin-began.new.self c.begin-began.result b.begun b.none q h.0 h.1));
      clean = λ clean. e.copies.clean (b.clean clean);
      next_stamp = refl;
      clock = e.counts.later;
    }

pub returns-in-Lost-clause-nothing : goal.returns-in-Lost-clause-nothing
returns-in-Lost-clause-nothing g c =
    let b = c.begin-began.ensures in (
      (λ is. absurd (lost_is_nothing _ _ is)),
      (λ idle. absurd (lost_nothing _ _ (sym c.in-Lost.is ∙ c.copy_one-answer.ensures.nothing.1 (idle_mid c.args.self.now.pseg c.begin-began.new.self c.begin-began.result b.cannot b.none c.requires.formed.spare.whole idle).1))),
    )

pub returns-in-Fault-clause-kept : goal.returns-in-Fault-clause-kept
returns-in-Fault-clause-kept g c =
    let d = c.args.self.now in
    let f = c.requires.formed in
    let b = c.begin-began.ensures in
    let e = c.copy_one-answer.ensures in
    let old = g.M.Nand.contents d.media in
    let new = g.M.Nand.contents c.copy_one-answer.new.media in
    let bound = d.shape.vblocks * d.shape.pages in
    let mid = taken_device f (λ t. g.met.M.Nand.contents_fit d.media t) c.begin-began.new.self false c.begin-began.result b.begun b.none b.whole b.kept b.segment b.spare in
    let either = λ (t : g.M.Nand.tells). to_takes (may_copy ((e.medium t).crash (λ none. fault_nothing (sym c.in-Fault.is ∙ none)))).either in
    let low = λ (t : g.M.Nand.tells) (p : ℕ) (lt : p < bound). either_low (either t) p (subst (λ n. p < n) (sym (begins mid.segments)) lt) in
    let same = λ (t : g.M.Nand.tells). map_same old new d.vseg f.mapped (λ p lt. low t p (subst (λ n. p < n) f.segments.virtual_bound lt)) in
    record {
      virtual = record {
        same_shape = refl;
        same_stamps = λ v. refl;
        same_map = same;
        no_failed = λ t v x stray. stray_same bound old new _ _ (low t) (same t) v x stray;
        spare = λ s. s;
      };
      bytes = λ t q page is.
          let h = held_of (held_at d.pseg q) page is in
          live_bytes bound old new q (either_live (either t) q h.0 (mid_held d.pseg c.begin-began.new.self c.begin-began.result b.begun b.none q h.0 h.1));
      clean = λ clean. e.copies.clean (b.clean clean);
      next_stamp = refl;
      clock = e.counts.later;
    }

pub returns-in-Fault-clause-nothing : goal.returns-in-Fault-clause-nothing
returns-in-Fault-clause-nothing g c =
    let b = c.begin-began.ensures in (
      (λ is. absurd (fault_is_nothing is)),
      (λ idle. absurd (fault_nothing (sym c.in-Fault.is ∙ c.copy_one-answer.ensures.nothing.1 (idle_mid c.args.self.now.pseg c.begin-began.new.self c.begin-began.result b.cannot b.none c.requires.formed.spare.whole idle).1))),
    )

pub returns-in-Lost-clause-formed : goal.returns-in-Lost-clause-formed
returns-in-Lost-clause-formed g c =
    let d = c.args.self.now in
    let b = c.begin-began.ensures in
    let e = c.copy_one-answer.ensures in
    let fits = λ (t : g.M.Nand.tells). g.met.M.Nand.contents_fit d.media t in
    let mid = taken_device c.requires.formed fits c.begin-began.new.self false c.begin-began.result b.begun b.none b.whole b.kept b.segment b.spare in
    subst (λ k. IsDevice (g.M.Nand.geometry c.copy_one-answer.new.media) g.M.Nand.tells (g.M.Nand.contents c.copy_one-answer.new.media) d.shape d.vseg c.copy_one-answer.new.self d.pending k d.next) (sym c.forget_after-in-Lost.ensures)
    (unmoved_device mid e.geometry fits (λ t. g.met.M.Nand.contents_fit c.copy_one-answer.new.media t) c.copy_one-answer.new.self e.whole e.copies.kept_block (λ t. (e.medium t).segment) (λ t. (e.medium t).spare)
    (λ t. may_copy ((e.medium t).crash (λ none. lost_nothing c.in-Lost.wanted c.in-Lost.found (sym c.in-Lost.is ∙ none)))) (c.in-Lost.ensures.copies.kept (λ moved. moved)))

pub copy_one-answer-requires-clause-lands : goal.copy_one-answer-requires-clause-lands
copy_one-answer-requires-clause-lands g c =
    let b = c.begin-began.ensures in
    mid_lands c.args.self.now.pseg c.begin-began.new.self c.begin-began.result c.requires.lands b.begun b.none

pub returns-else-began-clause-nothing : goal.returns-else-began-clause-nothing
returns-else-began-clause-nothing g c =
    let b = c.begin-began.ensures in
    ((λ is. mid_idle c.args.self.now.pseg c.begin-began.new.self c.begin-began.result b.cannot b.none c.if-began.false (c.copy_one-answer.ensures.nothing.0 c.in-Nothing.is)), (λ idle. refl))

pub returns-then-began-clause-nothing : goal.returns-then-began-clause-nothing
returns-then-began-clause-nothing g c =
    let b = c.begin-began.ensures in
    ((λ is. absurd (did_is_nothing is)), (λ idle. absurd (true≢false (sym c.if-began.true ∙ (idle_mid c.args.self.now.pseg c.begin-began.new.self c.begin-began.result b.cannot b.none c.requires.formed.spare.whole idle).0))))

pub returns-then-began-clause-formed : goal.returns-then-began-clause-formed
returns-then-began-clause-formed g c =
    let d = c.args.self.now in
    let b = c.begin-began.ensures in
    let r = c.copy_one-answer.ensures.refused c.in-Nothing.is in
    let mid = taken_device c.requires.formed (λ t. g.met.M.Nand.contents_fit d.media t) c.begin-began.new.self false c.begin-began.result b.begun b.none b.whole b.kept b.segment b.spare in
    subst (λ m. IsDevice (g.M.Nand.geometry m) g.M.Nand.tells (g.M.Nand.contents m) d.shape d.vseg c.copy_one-answer.new.self d.pending d.kept d.next) (sym r.1)
    (subst (λ (s : Physical). IsDevice (g.M.Nand.geometry d.media) g.M.Nand.tells (g.M.Nand.contents d.media) d.shape d.vseg s d.pending d.kept d.next) (sym r.0) mid)

pub returns-then-began-clause-did : goal.returns-then-began-clause-did
returns-then-began-clause-did g c is =
    let d = c.args.self.now in
    let e = c.copy_one-answer.ensures in
    let new = c.copy_one-answer.new.self in
    let r = e.refused c.in-Nothing.is in
    let b : (block : ℕ) × IsChosen false d.pseg block × BeginsBlock block d.pseg c.begin-began.new.self = OnTrue_at c.if-began.true c.begin-began.ensures.begun in
    inr (
      record {
        tables = record {
          live = λ q. ap (λ (s : Physical). live_page (held_at s q)) r.0 ∙ ap (λ (l : List (Option Held)). live_page (get_or l q None)) b.2.tables.same_held;
          pairs = ap (λ (s : Physical). s.pairs) r.0 ∙ b.2.tables.same_pairs;
          pending = refl;
          handled = λ n. refl;
          posted = refl;
        };
        space = subst (λ (s : Physical). VictimBegun (space_of d.pseg) (space_of s)) (sym r.0) (begun b.0 d.pseg c.begin-began.new.self b.2);
        medium = record {
          virtual = record {
            same_shape = refl;
            same_stamps = λ v. refl;
            same_map = λ t v. ap (λ m. map_of d.vseg.places (g.M.Nand.contents m) v) r.1;
            no_failed = λ t v x stray. subst (λ m. IsStray (d.shape.vblocks * d.shape.pages) (g.M.Nand.contents m) (λ u. map_of d.vseg.places (g.M.Nand.contents m) u) v x) r.1 stray;
            spare = λ s. s;
          };
          contents = λ t. ap g.M.Nand.contents r.1;
          left = λ t m i l. subst (λ x. g.M.Nand.left x m i) r.1 l;
          bytes = λ t p. ap (λ m. bytes_at (d.shape.vblocks * d.shape.pages) (g.M.Nand.contents m) p) r.1;
          found = refl;
          next_stamp = refl;
          clean = λ clean. e.copies.clean (c.begin-began.ensures.clean clean);
          clock = ap g.M.Nand.clock r.1;
          write_faults = ap g.M.Nand.write_faults r.1;
        };
      },
      ap (λ (s : Physical). (space_of s).left) r.0 ∙ (left_is c.begin-began.new.self ∙ e.nothing.0 c.in-Nothing.is),
    )

pub returns-else-began-clause-none : goal.returns-else-began-clause-none
returns-else-began-clause-none g c is =
    let d = c.args.self.now in
    let r = c.copy_one-answer.ensures.refused c.in-Nothing.is in
    record {
      medium = record {
        virtual = record {
          same_shape = refl;
          same_stamps = λ v. refl;
          same_map = λ t v. ap (λ m. map_of d.vseg.places (g.M.Nand.contents m) v) r.1;
          no_failed = λ t v x stray. subst (λ m. IsStray (d.shape.vblocks * d.shape.pages) (g.M.Nand.contents m) (λ u. map_of d.vseg.places (g.M.Nand.contents m) u) v x) r.1 stray;
          spare = λ s. s;
        };
        contents = λ t. ap g.M.Nand.contents r.1;
        left = λ t m i l. subst (λ x. g.M.Nand.left x m i) r.1 l;
        bytes = λ t p. ap (λ m. bytes_at (d.shape.vblocks * d.shape.pages) (g.M.Nand.contents m) p) r.1;
        found = refl;
        next_stamp = refl;
        clean = λ clean. c.copy_one-answer.ensures.copies.clean (c.begin-began.ensures.clean clean);
        clock = ap g.M.Nand.clock r.1;
        write_faults = ap g.M.Nand.write_faults r.1;
      };
      names = ap (λ (s : Physical). names_with s d.pending) (r.0 ∙ OnFalse_at c.if-began.false c.begin-began.ensures.none);
    }

pub returns-then-began-clause-kept : goal.returns-then-began-clause-kept
returns-then-began-clause-kept g c =
    let d = c.args.self.now in
    let b = c.begin-began.ensures in
    let tables = mid_tables d.pseg c.begin-began.new.self c.begin-began.result b.begun b.none in
    still_cleans _ (begun_medium _ (λ m. not_copied d.pseg c.copy_one-answer.new.self m.taken (ap (λ (s : Physical). s.pairs) (c.copy_one-answer.ensures.refused c.in-Nothing.is).0 ∙ tables.1) m.takes m.space) (returns-then-began-clause-did g c refl))

pub returns-else-began-clause-kept : goal.returns-else-began-clause-kept
returns-else-began-clause-kept g c = still_cleans _ (returns-else-began-clause-none g c refl).medium

pub returns-in-Moved-clause-did : goal.returns-in-Moved-clause-did
returns-in-Moved-clause-did g c is =
    let d = c.args.self.now in
    let f = c.requires.formed in
    let b = c.begin-began.ensures in
    let e = c.copy_one-answer.ensures in
    let p = c.post.ensures in
    let new = c.copy_one-answer.new.self in
    let seg = c.begin-began.new.self in
    let before = c.in-Moved.before in
    let after = c.in-Moved.after in
    let h : Held = record { tag = c.in-Moved.tag; stamp = c.in-Moved.stamp } in
    let m : MovesLivePage before after h seg new = c.in-Moved.ensures.copies.moved in
    let fits = λ (t : g.M.Nand.tells). g.met.M.Nand.contents_fit d.media t in
    let mid = taken_device f fits seg false c.begin-began.result b.begun b.none b.whole b.kept b.segment b.spare in
    let tables = mid_tables d.pseg seg c.begin-began.result b.begun b.none in
    let within = in_within mid.segments before (mid.live.in_segment before h m.was) in
    let below = in_within mid.segments after m.dead.within in
    let apart : before ≡ after → ⊥ = λ same. none-some h (sym m.dead.dead ∙ (ap (held_at seg) (sym same) ∙ m.was)) in
    let one = one_for_one seg.held after before h h below within apart m.dead.dead m.was in
    let bound = d.shape.vblocks * d.shape.pages in
    let bytes = λ (t : g.M.Nand.tells).
    let k : PageIsProgrammed seg after (written (page_with (main_of (page_at (g.M.Nand.contents d.media) before)) h.tag h.stamp (wear_of seg (after / seg.size)))) (g.M.Nand.contents d.media) (g.M.Nand.contents c.copy_one-answer.new.media) = (c.in-Moved.ensures.medium t).programmed in
    bytes_from bound (g.M.Nand.contents c.copy_one-answer.new.media) after (subst (λ n. n ≤ after) (begins mid.segments) m.dead.within.0) ∙ (ap main_of k.has
    ∙ sym (bytes_from bound (g.M.Nand.contents d.media) before (subst (λ n. n ≤ before) (begins mid.segments) (mid.live.in_segment before h m.was).0))) in
    inl (record {
      callback = callback_of c.post.result before after h.tag h.stamp;
      names = copies_from (callback_of c.post.result before after h.tag h.stamp) d.pseg seg d.pending (names_with new c.post.new.self) tables.0 tables.1
          (copies before after c.post.result h.tag h.stamp seg new d.pending c.post.new.self m within below p.fresh p.next (subst (λ n. n < 2 ^ 64) c.posted.ensures c.posted.type_inv) (ap (λ (x : PendingTable). x.callbacks) p.posted) (ap (λ (x : PendingTable). x.posted) p.posted));
      taken = space_of seg;
      takes = takes_victim d.pseg seg c.begin-began.result b.begun b.none (ap (λ (o : Option ℕ). cond (is_some o) 1 0) m.in_victim);
      space = copied before after h seg new m (let l = ap live_in m.held in omega (arith, l, one));
      bytes = bytes;
      programmed = λ t.
          ((returns-in-Moved-clause-formed g c).medium t).holds after (record { tag = h.tag; stamp = h.stamp }) (ap live_page (here_now before after h seg new m b.whole e.whole within below))
          ∙ (λ i. Some (record { tag = h.tag; stamp = h.stamp; bytes = bytes t i }));
    })

pub returns-then-began-clause-left : goal.returns-then-began-clause-left
returns-then-began-clause-left g c t =
    let d = c.args.self.now in
    let b = c.begin-began.ensures in
    let tables = mid_tables d.pseg c.begin-began.new.self c.begin-began.result b.begun b.none in
    inr (begun_medium _ (λ m. not_copied d.pseg c.copy_one-answer.new.self m.taken (ap (λ (s : Physical). s.pairs) (c.copy_one-answer.ensures.refused c.in-Nothing.is).0 ∙ tables.1) m.takes m.space) (returns-then-began-clause-did g c refl))

pub returns-then-began-clause-lands : goal.returns-then-began-clause-lands
returns-then-began-clause-lands g c = ⊎_elim (λ rose. inl rose) (λ room. inr (land_can c.copy_one-answer.new.self room)) c.copy_one-answer.ensures.lands

pub returns-then-began-clause-clock : goal.returns-then-began-clause-clock
returns-then-began-clause-clock g c =
    let d = c.args.self.now in
    let b = c.begin-began.ensures in
    let tables = mid_tables d.pseg c.begin-began.new.self c.begin-began.result b.begun b.none in
    copy_ticks _ c.in-Nothing.ensures.counts refl refl b.clean (λ m. absurd (not_copied d.pseg c.copy_one-answer.new.self m.taken (ap (λ (s : Physical). s.pairs) (c.copy_one-answer.ensures.refused c.in-Nothing.is).0 ∙ tables.1) m.takes m.space)) (λ un. inl (λ moved. moved))

pub returns-then-began-clause-faults : goal.returns-then-began-clause-faults
returns-then-began-clause-faults g c = copy_counted c.copy_one-answer.ensures.counts (λ fault. absurd (did_is_fault fault)) (λ fault. absurd (nothing_fault (sym c.in-Nothing.is ∙ fault)))

pub returns-else-began-clause-left : goal.returns-else-began-clause-left
returns-else-began-clause-left g c t = inr (returns-else-began-clause-none g c refl).medium

pub returns-else-began-clause-lands : goal.returns-else-began-clause-lands
returns-else-began-clause-lands g c = ⊎_elim (λ rose. inl rose) (λ room. inr (land_can c.copy_one-answer.new.self room)) c.copy_one-answer.ensures.lands

pub returns-else-began-clause-clock : goal.returns-else-began-clause-clock
returns-else-began-clause-clock g c =
    let d = c.args.self.now in
    let b = c.begin-began.ensures in
    let tables = mid_tables d.pseg c.begin-began.new.self c.begin-began.result b.begun b.none in
    copy_ticks _ c.in-Nothing.ensures.counts refl refl b.clean (λ m. absurd (not_copied d.pseg c.copy_one-answer.new.self m.taken (ap (λ (s : Physical). s.pairs) (c.copy_one-answer.ensures.refused c.in-Nothing.is).0 ∙ tables.1) m.takes m.space)) (λ un. inl (λ moved. moved))

pub returns-else-began-clause-faults : goal.returns-else-began-clause-faults
returns-else-began-clause-faults g c = copy_counted c.copy_one-answer.ensures.counts (λ fault. absurd (nothing_is_fault fault)) (λ fault. absurd (nothing_fault (sym c.in-Nothing.is ∙ fault)))

pub returns-in-Moved-clause-lands : goal.returns-in-Moved-clause-lands
returns-in-Moved-clause-lands g c = ⊎_elim (λ rose. inl rose) (λ room. inr (land_can c.copy_one-answer.new.self room)) c.copy_one-answer.ensures.lands

pub returns-in-Moved-clause-clock : goal.returns-in-Moved-clause-clock
returns-in-Moved-clause-clock g c = copy_ticks _ c.in-Moved.ensures.counts refl refl c.begin-began.ensures.clean (λ m. tt) (λ un. inr (⊎_elim (λ m. absurd (un m)) (λ begun. begun.0.medium.clock) (returns-in-Moved-clause-did g c refl)))

pub returns-in-Moved-clause-faults : goal.returns-in-Moved-clause-faults
returns-in-Moved-clause-faults g c = copy_counted c.copy_one-answer.ensures.counts (λ fault. absurd (did_is_fault fault)) (λ fault. absurd (moved_fault _ _ _ _ (sym c.in-Moved.is ∙ fault)))

pub returns-in-Moved-clause-left : goal.returns-in-Moved-clause-left
returns-in-Moved-clause-left g c t =
    let d = c.args.self.now in
    let f = c.requires.formed in
    let b = c.begin-began.ensures in
    let e = c.copy_one-answer.ensures in
    let p = c.post.ensures in
    let new = c.copy_one-answer.new.self in
    let seg = c.begin-began.new.self in
    let before = c.in-Moved.before in
    let after = c.in-Moved.after in
    let h : Held = record { tag = c.in-Moved.tag; stamp = c.in-Moved.stamp } in
    let m : MovesLivePage before after h seg new = c.in-Moved.ensures.copies.moved in
    let fits = λ (t : g.M.Nand.tells). g.met.M.Nand.contents_fit d.media t in
    let mid = taken_device f fits seg false c.begin-began.result b.begun b.none b.whole b.kept b.segment b.spare in
    let tables = mid_tables d.pseg seg c.begin-began.result b.begun b.none in
    let within = in_within mid.segments before (mid.live.in_segment before h m.was) in
    let below = in_within mid.segments after m.dead.within in
    let bound = d.shape.vblocks * d.shape.pages in
    let image_was = g.M.Nand.contents d.media in
    let image_now = g.M.Nand.contents c.copy_one-answer.new.media in
    let call = callback_of c.post.result before after h.tag h.stamp in
    let names : Copies call (names_with d.pseg d.pending) (names_with new c.post.new.self) = copies_from call d.pseg seg d.pending (names_with new c.post.new.self) tables.0 tables.1
    (copies before after c.post.result h.tag h.stamp seg new d.pending c.post.new.self m within below p.fresh p.next (subst (λ n. n < 2 ^ 64) c.posted.ensures c.posted.type_inv) (ap (λ (x : PendingTable). x.callbacks) p.posted) (ap (λ (x : PendingTable). x.posted) p.posted)) in
    let k : CrashesMove g.M.Nand.clock g.M.Nand.contents g.M.Nand.left seg d.media c.copy_one-answer.new.media (copy.Moved before after h.tag h.stamp) = (c.in-Moved.ensures.medium t).crash (moved_nothing before after h.tag h.stamp) in
    let is_before : before ≡ k.before = k.moved.0 in
    let is_h : h ≡ k.h = k.moved.1 in
    let is_page : after ≡ k.crash.page = ap (λ (at : Pointer). at.name) k.crash.named in
    let fit = subst (λ n. ImageOf n image_now) e.geometry (g.met.M.Nand.contents_fit c.copy_one-answer.new.media t) in
    let there = λ (image : Image) (here : ImageOf (g.M.Nand.geometry d.media) image) (places : PlacesOnImage seg k.crash.page k.h.tag k.h.stamp (main_of (page_at image_was k.before)) image_was image).
    ap (stored_in image).named is_page ∙ (copy_there mid t (fits t) k.before k.crash.page k.h k.was image here places ∙ (λ i. Some (record { tag = (sym is_h i).tag; stamp = (sym is_h i).stamp; bytes = bytes_at bound image_was (sym is_before i) }))) in
    let x : PageIsProgrammed seg after (written (page_with (main_of (page_at image_was before)) h.tag h.stamp (wear_of seg (after / seg.size)))) image_was image_now = (c.in-Moved.ensures.medium t).programmed in
    let bytes : bytes_at bound image_now after ≡ bytes_at bound image_was before = bytes_from bound image_now after (subst (λ n. n ≤ after) (begins mid.segments) m.dead.within.0) ∙ (ap main_of x.has
    ∙ sym (bytes_from bound image_was before (subst (λ n. n ≤ before) (begins mid.segments) (mid.live.in_segment before h m.was).0))) in
    inl (record {
      stops = lift (λ d. d.media) _ _ k.crash.crash (λ m image l turned.
          let here = subst (λ n. ImageOf n image) e.geometry (g.met.M.Nand.left_fits c.copy_one-answer.new.media m image t l) in
          ⊎_elim
          (λ was. inl ((λ done. was.0 tt), copy_left mid t (fits t) k.before k.crash.page k.h k.was d.pseg tables.0 tables.1 image here (inl was.1)))
          (λ places. inr (call, names, (copy_left mid t (fits t) k.before k.crash.page k.h k.was d.pseg tables.0 tables.1 image here (inr places), there image here places)))
          turned);
      now = inr (
        call,
        names,
        (
          copy_left mid t (fits t) k.before k.crash.page k.h k.was d.pseg tables.0 tables.1 image_now fit k.crash.either,
          ((returns-in-Moved-clause-formed g c).medium t).holds after (record { tag = h.tag; stamp = h.stamp }) (ap live_page (here_now before after h seg new m b.whole e.whole within below))
              ∙ (λ i. Some (record { tag = h.tag; stamp = h.stamp; bytes = bytes i })),
        ),
      );
    })

pub returns-in-Lost-clause-failed : goal.returns-in-Lost-clause-failed
returns-in-Lost-clause-failed g c un_did un_nothing =
    let d = c.args.self.now in
    let b = c.begin-began.ensures in
    let e = c.copy_one-answer.ensures in
    let m = c.in-Lost.ensures.copies.kept (λ moved. moved) in
    let space = failed_space d.pseg c.begin-began.new.self c.copy_one-answer.new.self c.begin-began.result b.begun b.none m b.whole e.whole (λ none. lost_nothing c.in-Lost.wanted c.in-Lost.found (sym c.in-Lost.is ∙ e.nothing.1 none)) in
    record {
      tables = failed_tables d.pseg c.begin-began.new.self c.copy_one-answer.new.self c.begin-began.result d.pending b.begun b.none m;
      taken = space_of c.begin-began.new.self;
      takes = space.0;
      space = space.1;
    }

pub returns-in-Lost-clause-left : goal.returns-in-Lost-clause-left
returns-in-Lost-clause-left g c t =
    let d = c.args.self.now in
    let b = c.begin-began.ensures in
    let e = c.copy_one-answer.ensures in
    let new = c.copy_one-answer.new.self in
    let seg = c.begin-began.new.self in
    let fits = λ (t : g.M.Nand.tells). g.met.M.Nand.contents_fit d.media t in
    let mid = taken_device c.requires.formed fits seg false c.begin-began.result b.begun b.none b.whole b.kept b.segment b.spare in
    let tables = mid_tables d.pseg seg c.begin-began.result b.begun b.none in
    let kept : MovesNone seg new = c.in-Lost.ensures.copies.kept (λ moved. moved) in
    let k : CrashesMove g.M.Nand.clock g.M.Nand.contents g.M.Nand.left seg d.media c.copy_one-answer.new.media (copy.Lost c.in-Lost.wanted c.in-Lost.found) = (c.in-Lost.ensures.medium t).crash (lost_nothing c.in-Lost.wanted c.in-Lost.found) in
    let fit = subst (λ n. ImageOf n (g.M.Nand.contents c.copy_one-answer.new.media)) e.geometry (g.met.M.Nand.contents_fit c.copy_one-answer.new.media t) in
    inl (record {
      stops = lift (λ d. d.media) _ _ k.crash.crash (λ m image l turned.
          let here = subst (λ n. ImageOf n image) e.geometry (g.met.M.Nand.left_fits c.copy_one-answer.new.media m image t l) in
          inl (
            (λ moves. absurd (not_copied d.pseg new moves.taken (kept.tables.same_pairs ∙ tables.1) moves.takes moves.space)),
            copy_left mid t (fits t) k.before k.crash.page k.h k.was d.pseg tables.0 tables.1 image here (⊎_elim (λ was. inl was.1) (λ places. inr places) turned),
          ));
      now = inl (
        (λ moves. not_copied d.pseg new moves.taken (kept.tables.same_pairs ∙ tables.1) moves.takes moves.space),
        copy_left mid t (fits t) k.before k.crash.page k.h k.was d.pseg tables.0 tables.1 (g.M.Nand.contents c.copy_one-answer.new.media) fit k.crash.either,
      );
    })

pub returns-in-Lost-clause-lands : goal.returns-in-Lost-clause-lands
returns-in-Lost-clause-lands g c = ⊎_elim (λ rose. inl rose) (λ room. inr (land_can c.copy_one-answer.new.self room)) c.copy_one-answer.ensures.lands

pub returns-in-Lost-clause-clock : goal.returns-in-Lost-clause-clock
returns-in-Lost-clause-clock g c =
    let d = c.args.self.now in
    let b = c.begin-began.ensures in
    let tables = mid_tables d.pseg c.begin-began.new.self c.begin-began.result b.begun b.none in
    let kept : MovesNone c.begin-began.new.self c.copy_one-answer.new.self = c.in-Lost.ensures.copies.kept (λ moved. moved) in
    copy_ticks _ c.in-Lost.ensures.counts refl refl b.clean (λ m. absurd (not_copied d.pseg c.copy_one-answer.new.self m.taken (kept.tables.same_pairs ∙ tables.1) m.takes m.space)) (λ un. inl (λ moved. moved))

pub returns-in-Lost-clause-faults : goal.returns-in-Lost-clause-faults
returns-in-Lost-clause-faults g c = copy_counted c.copy_one-answer.ensures.counts (λ fault. absurd (lost_is_fault _ _ fault)) (λ fault. absurd (lost_fault _ _ (sym c.in-Lost.is ∙ fault)))

pub returns-in-Lost-clause-told : goal.returns-in-Lost-clause-told
returns-in-Lost-clause-told g c t w found is = (c.copy_one-answer.ensures.medium t).told c.in-Lost.wanted c.in-Lost.found c.in-Lost.is

pub returns-in-Lost-clause-lost : goal.returns-in-Lost-clause-lost
returns-in-Lost-clause-lost g c w found is =
    let d = c.args.self.now in
    let b = c.begin-began.ensures in
    let tables = mid_tables d.pseg c.begin-began.new.self c.begin-began.result b.begun b.none in
    let lost = c.in-Lost.ensures.copies.lost w found (λ i. copy.Lost (ap lost_wanted is i) (ap lost_found is i)) in
    let page = lost.1 in
    (lost.0, (page.0, record { tag = page.1.tag; stamp = page.1.stamp }, ap (λ (l : List (Option Held)). live_page (get_or l page.0 None)) (sym tables.0) ∙ ap live_page page.3, page.4))

pub returns-in-Fault-clause-failed : goal.returns-in-Fault-clause-failed
returns-in-Fault-clause-failed g c un_did un_nothing =
    let d = c.args.self.now in
    let b = c.begin-began.ensures in
    let e = c.copy_one-answer.ensures in
    let m = c.in-Fault.ensures.copies.kept (λ moved. moved) in
    let space = failed_space d.pseg c.begin-began.new.self c.copy_one-answer.new.self c.begin-began.result b.begun b.none m b.whole e.whole (λ none. fault_nothing (sym c.in-Fault.is ∙ e.nothing.1 none)) in
    record {
      tables = failed_tables d.pseg c.begin-began.new.self c.copy_one-answer.new.self c.begin-began.result d.pending b.begun b.none m;
      taken = space_of c.begin-began.new.self;
      takes = space.0;
      space = space.1;
    }

pub returns-in-Fault-clause-left : goal.returns-in-Fault-clause-left
returns-in-Fault-clause-left g c t =
    let d = c.args.self.now in
    let b = c.begin-began.ensures in
    let e = c.copy_one-answer.ensures in
    let new = c.copy_one-answer.new.self in
    let seg = c.begin-began.new.self in
    let fits = λ (t : g.M.Nand.tells). g.met.M.Nand.contents_fit d.media t in
    let mid = taken_device c.requires.formed fits seg false c.begin-began.result b.begun b.none b.whole b.kept b.segment b.spare in
    let tables = mid_tables d.pseg seg c.begin-began.result b.begun b.none in
    let kept : MovesNone seg new = c.in-Fault.ensures.copies.kept (λ moved. moved) in
    let k : CrashesMove g.M.Nand.clock g.M.Nand.contents g.M.Nand.left seg d.media c.copy_one-answer.new.media copy.Fault = (c.in-Fault.ensures.medium t).crash fault_nothing in
    let fit = subst (λ n. ImageOf n (g.M.Nand.contents c.copy_one-answer.new.media)) e.geometry (g.met.M.Nand.contents_fit c.copy_one-answer.new.media t) in
    inl (record {
      stops = lift (λ d. d.media) _ _ k.crash.crash (λ m image l turned.
          let here = subst (λ n. ImageOf n image) e.geometry (g.met.M.Nand.left_fits c.copy_one-answer.new.media m image t l) in
          inl (
            (λ moves. absurd (not_copied d.pseg new moves.taken (kept.tables.same_pairs ∙ tables.1) moves.takes moves.space)),
            copy_left mid t (fits t) k.before k.crash.page k.h k.was d.pseg tables.0 tables.1 image here (⊎_elim (λ was. inl was.1) (λ places. inr places) turned),
          ));
      now = inl (
        (λ moves. not_copied d.pseg new moves.taken (kept.tables.same_pairs ∙ tables.1) moves.takes moves.space),
        copy_left mid t (fits t) k.before k.crash.page k.h k.was d.pseg tables.0 tables.1 (g.M.Nand.contents c.copy_one-answer.new.media) fit k.crash.either,
      );
    })

pub returns-in-Fault-clause-lands : goal.returns-in-Fault-clause-lands
returns-in-Fault-clause-lands g c = ⊎_elim (λ rose. inl rose) (λ room. inr (land_can c.copy_one-answer.new.self room)) c.copy_one-answer.ensures.lands

pub returns-in-Fault-clause-clock : goal.returns-in-Fault-clause-clock
returns-in-Fault-clause-clock g c =
    let d = c.args.self.now in
    let b = c.begin-began.ensures in
    let tables = mid_tables d.pseg c.begin-began.new.self c.begin-began.result b.begun b.none in
    let kept : MovesNone c.begin-began.new.self c.copy_one-answer.new.self = c.in-Fault.ensures.copies.kept (λ moved. moved) in
    copy_ticks _ c.in-Fault.ensures.counts refl refl b.clean (λ m. absurd (not_copied d.pseg c.copy_one-answer.new.self m.taken (kept.tables.same_pairs ∙ tables.1) m.takes m.space)) (λ un. inl (λ moved. moved))

pub returns-in-Fault-clause-faults : goal.returns-in-Fault-clause-faults
returns-in-Fault-clause-faults g c = copy_counted c.copy_one-answer.ensures.counts (λ fault. c.in-Fault.is) (λ fault. refl)

-- the victim is that of before, or was chosen
taken : (old mid new : Physical) (began : Bool) → OnTrue began ((block : ℕ) × IsChosen false old block × BeginsBlock block old mid) → OnFalse began (mid ≡ old) → new.victim ≡ mid.victim → StaysOrTakes (IsChosen false old) old.victim new.victim
taken old mid new began begun none same = ⊎_elim
    (λ (is : began ≡ true). let b : (block : ℕ) × IsChosen false old block × BeginsBlock block old mid = OnTrue_at is begun in inr (b.2.none, (b.0, b.1, same ∙ b.2.victim)))
    (λ (is : began ≡ false). inl (same ∙ ap (λ (s : Physical). s.victim) (OnFalse_at is none)))
    (cases_Bool began)

pub returns-in-Moved-clause-chosen : goal.returns-in-Moved-clause-chosen
returns-in-Moved-clause-chosen g c = let b = c.begin-began.ensures in taken c.args.self.now.pseg c.begin-began.new.self c.copy_one-answer.new.self c.begin-began.result b.begun b.none (c.in-Moved.ensures.copies.moved.victim)

pub returns-then-began-clause-chosen : goal.returns-then-began-clause-chosen
returns-then-began-clause-chosen g c = let b = c.begin-began.ensures in taken c.args.self.now.pseg c.begin-began.new.self c.copy_one-answer.new.self c.begin-began.result b.begun b.none (ap (λ (s : Physical). s.victim) (c.copy_one-answer.ensures.refused c.in-Nothing.is).0)

pub returns-else-began-clause-chosen : goal.returns-else-began-clause-chosen
returns-else-began-clause-chosen g c = let b = c.begin-began.ensures in taken c.args.self.now.pseg c.begin-began.new.self c.copy_one-answer.new.self c.begin-began.result b.begun b.none (ap (λ (s : Physical). s.victim) (c.copy_one-answer.ensures.refused c.in-Nothing.is).0)

pub returns-in-Lost-clause-chosen : goal.returns-in-Lost-clause-chosen
returns-in-Lost-clause-chosen g c = let b = c.begin-began.ensures in taken c.args.self.now.pseg c.begin-began.new.self c.copy_one-answer.new.self c.begin-began.result b.begun b.none ((c.in-Lost.ensures.copies.kept (λ moved. moved)).victim)

pub returns-in-Fault-clause-chosen : goal.returns-in-Fault-clause-chosen
returns-in-Fault-clause-chosen g c = let b = c.begin-began.ensures in taken c.args.self.now.pseg c.begin-began.new.self c.copy_one-answer.new.self c.begin-began.result b.begun b.none ((c.in-Fault.ensures.copies.kept (λ moved. moved)).victim)
