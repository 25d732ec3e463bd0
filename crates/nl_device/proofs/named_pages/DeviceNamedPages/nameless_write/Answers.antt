use Rattle.std.proofs.Common.{◌≡◌, ◌⊎◌, inl, inr, ⊎_elim, refl, sym, ap, ◌∙◌, subst, ℕ, ◌*◌, ◌/◌, ◌≤◌, ◌<◌, length, get_or, false, List, Option, Some, None}
use Rattle.std.proofs.lemmas.List.{get_or-set_same, length-set}
use Rattle.nl_field.specs.Page.{Image, Page, written, page_at}
use Rattle.nl_field.specs.declared.answers.Named.{Named}
use Rattle.nl_field.specs.declared.answers.Named.TheVariants as named
use Rattle.nl_field.specs.declared.pointer.Pointer.{Pointer}
use Rattle.nl_nand.specs.Nand.{ImageOf}
use Rattle.nl_iface.specs.Stored.{stored_in}
use Rattle.nl_pseg.specs.Answers.{IsPlaced}
use Rattle.nl_pseg.specs.Effects.{PreservesSegment, PlacesOnImage, PageIsProgrammed}
use Rattle.nl_pseg.specs.Pages.{main_of, page_with}
use Rattle.nl_pseg.specs.Segment.{IsClean, Physical, held_at, wear_of}
use Rattle.nl_pseg.specs.declared.held.Held.{Held}
use Rattle.nl_device.specs.Device.{HasSpareBlock}
use Rattle.nl_device.specs.State.{held_of}
use Rattle.nl_device.specs.Shown.{bytes_at, found_by_number, live_page}
use Rattle.nl_device.proofs.Calls.{in_within}
use Rattle.nl_device.proofs.Forms.{begins, lift}
use Rattle.nl_device.proofs.Living.{live_kept, live_more, more_below, same_below_still, set_live}
use Rattle.nl_device.proofs.Made.{bytes_from}
use Rattle.nl_device.proofs.Naming.{either_live, either_low, in_block, leaves_tried, live_bytes, map_same, placed_takes, programmed_named, shown_from, stray_same, to_takes, new_as, tried_as}
use Rattle.nl_device.proofs.Placing.{after_rises, after_tried, counted, fault_room, fault_space, from_placed, if_not_placed, if_refused, named_has, named_rises, not_touched, not_tried, placed_at, placed_both, placed_or, placed_yes, room_is, to_placed, tried_placed}
use Rattle.nl_device.proofs.Spacing.{none_retired, wrote_one}
use Rattle.nl_device.proofs.Tried.{kept_untried, new_name, next_untried, tried_device}
use Rattle.nl_device.specs.Callbacks.{names_with}
use Rattle.std.specs.Prelude.{Contains}
use Rattle.nl_device.proofs.Calling.{called_same}
use Rattle.nl_device.proofs.Leaving.{hand_kept, names_in}
use Rattle.nl_device.proofs.Living.{more_keeps, more_less, same_before, same_keeps}
use Rattle.nl_device.proofs.named_pages.DeviceNamedPages.nameless_write.Goals as goal

pub returns-clause-not_live : goal.returns-clause-not_live
returns-clause-not_live g c = c.nameless_write-answer.ensures.live

pub returns-clause-no_page : goal.returns-clause-no_page
returns-clause-no_page g c =
    let d = c.args.self.now in
    let e = c.nameless_write-answer.ensures in
    ((λ is. room_is d.pseg ∙ e.full.0 is), (λ none. e.full.1 (sym (room_is d.pseg) ∙ none)))

pub returns-clause-placed : goal.returns-clause-placed
returns-clause-placed g c =
    let d = c.args.self.now in
    let f = c.requires.formed in
    let e = c.nameless_write-answer.ensures in
    let seg = c.nameless_write-answer.new.self in
    let new = g.M.Nand.contents c.nameless_write-answer.new.media in
    placed_both c.nameless_write-answer.result _ _ _ e.adds.writes.placed e.adds.held (λ at is dead held.
    let below = in_within f.segments at.name dead.0.within in
    record {
      stamp = dead.1;
      is_new = new_as d.pseg d.pending (new_name f.segments at.name dead.0);
      names = record {
        live = λ q. ap (λ (l : List (Option Held)). live_page (get_or l q None)) held ∙ set_live d.pseg.held at.name c.args.tag d.next below q;
        pairs = e.adds.pairs;
        pending = refl;
        handled = λ x has. refl;
        posted = refl;
      };
      space = wrote_one d.pseg seg at.name (record { tag = c.args.tag; stamp = d.next }) e.adds.writes.pages e.adds.cleaning e.adds.lands (e.adds.spent (placed_yes c.nameless_write-answer.result at is)) below dead.0.dead held e.adds.pairs;
      bytes = λ t. let p = placed_at c.nameless_write-answer.result _ at is (e.medium t).programmed in
          bytes_from (d.shape.vblocks * d.shape.pages) new at.name (subst (λ n. n ≤ at.name) (begins f.segments) p.dead.within.0) ∙ ap main_of p.has;
      block = λ t none. let p = placed_at c.nameless_write-answer.result _ at is (e.medium t).programmed in
          in_block _ d.shape d.vseg d.pseg (g.M.Nand.contents d.media) new f.segments (g.met.M.Nand.contents_fit d.media t) (subst (λ n. ImageOf n new) e.geometry (g.met.M.Nand.contents_fit c.nameless_write-answer.new.media t)) f.live (f.medium t).physical_is at.name _ p;
    })

-- a write that is refused found no page
no_page_of : (answer : Named) → (answer ≡ named.NotLive → ⊥) → (answer ≡ named.NotLive) ⊎ (answer ≡ named.NoPage) → answer ≡ named.NoPage
no_page_of answer live (inl is) = absurd (live is)
no_page_of answer live (inr is) = is

pub returns-clause-none : goal.returns-clause-none
returns-clause-none g c un =
    let e = c.nameless_write-answer.ensures in
    let un_placed : IsPlaced c.nameless_write-answer.result → ⊥ = λ is. un (from_placed c.nameless_write-answer.result is) in
    record {
      tables = record { live = λ q. ap (λ (l : List (Option Held)). live_page (get_or l q None)) (e.adds.writes.same un_placed); pairs = e.adds.pairs; pending = refl; handled = λ n. refl; posted = refl };
      fault = fault_space c.nameless_write-answer.result c.args.self.now.pseg c.nameless_write-answer.new.self e.adds.writes.pages (λ un. e.adds.cleaning) (λ un. e.adds.lands) e.adds.writes.failed e.adds.writes.same (λ un. e.adds.pairs);
    }

pub returns-clause-refused : goal.returns-clause-refused
returns-clause-refused g c = if_refused c.nameless_write-answer.result _ (λ is.
    let d = c.args.self.now in
    let e = c.nameless_write-answer.ensures in
    let same = e.refused (no_page_of c.nameless_write-answer.result e.live is) in
    let untried : c.is_tried-tried.result ≡ false = c.is_tried-tried.ensures ∙ not_tried c.nameless_write-answer.result is in
    let kept = kept_untried d.kept c.forget_after.new.self c.is_tried-tried.result c.forget_after.ensures untried in
    let next = next_untried c.is_tried-tried.result c.stamp_after-self.result d.next c.stamp_after-self.ensures untried in
    let image : g.M.Nand.contents c.nameless_write-answer.new.media ≡ g.M.Nand.contents d.media = ap g.M.Nand.contents same.1 in
    let low : (p : ℕ) → p < d.shape.vblocks * d.shape.pages → page_at (g.M.Nand.contents c.nameless_write-answer.new.media) p ≡ page_at (g.M.Nand.contents d.media) p = λ p lt. ap (λ (i : Image). page_at i p) image in
    let map = map_same (g.M.Nand.contents d.media) (g.M.Nand.contents c.nameless_write-answer.new.media) d.vseg c.requires.formed.mapped (λ p lt. ap (λ (i : Image). page_at i p) image) in
    record {
      medium = record {
        virtual = record {
          same_shape = refl;
          same_stamps = λ v. refl;
          same_map = λ t. map;
          no_failed = λ t v x stray. stray_same (d.shape.vblocks * d.shape.pages) (g.M.Nand.contents d.media) (g.M.Nand.contents c.nameless_write-answer.new.media) _ _ low map v x stray;
          spare = λ s. s;
        };
        contents = λ t. image;
        left = λ t m i l. subst (λ x. g.M.Nand.left x m i) same.1 l;
        bytes = λ t p. ap (λ (i : Image). bytes_at (d.shape.vblocks * d.shape.pages) i p) image;
        found = ap found_by_number kept;
        next_stamp = next;
        clean = λ clean. subst IsClean (sym same.0) clean;
        clock = ap g.M.Nand.clock same.1;
        write_faults = ap g.M.Nand.write_faults same.1;
      };
      names = ap (λ (s : Physical). names_with s d.pending) same.0;
    })

pub returns-clause-left : goal.returns-clause-left
returns-clause-left g c t =
    let d = c.args.self.now in
    let f = c.requires.formed in
    let e = c.nameless_write-answer.ensures in
    let k = (e.medium t).crash in
    let answer = c.nameless_write-answer.result in
    let seg = c.nameless_write-answer.new.self in
    let old = g.M.Nand.contents d.media in
    let new = g.M.Nand.contents c.nameless_write-answer.new.media in
    let main = c.args.from.now.main in
    let old_fits = g.met.M.Nand.contents_fit d.media t in
    let value : ℕ → Page = λ p. written (page_with main c.args.tag d.next (wear_of d.pseg (p / d.pseg.size))) in
    let leaves = λ (image : Image) (fits : ImageOf (g.M.Nand.geometry d.media) image) (x : PreservesSegment d.pseg old image ⊎ PlacesOnImage d.pseg k.page c.args.tag d.next main old image).
    tried_as d.pseg d.pending (leaves_tried (g.M.Nand.geometry d.media) d.shape d.vseg d.pseg old image f.segments old_fits fits f.live (f.medium t).physical_is k.page d.next c.args.tag main f.spare (f.medium t).spare (names_in (f.medium t).pages) x) in
    let there = λ (image : Image) (fits : ImageOf (g.M.Nand.geometry d.media) image) (x : PlacesOnImage d.pseg k.page c.args.tag d.next main old image).
    named_has answer k.page d.next (λ n. (stored_in image).named n ≡ Some (record { tag = c.args.tag; stamp = d.next; bytes = main })) k.named
    (programmed_named (g.M.Nand.geometry d.media) d.shape d.vseg d.pseg old image f.segments old_fits fits f.live (f.medium t).physical_is k.page c.args.tag d.next (wear_of d.pseg (k.page / d.pseg.size)) main x.shows x.takes) in
    let fits = subst (λ n. ImageOf n new) e.geometry (g.met.M.Nand.contents_fit c.nameless_write-answer.new.media t) in
    let now_held : (at : Pointer) → answer ≡ named.Placed at → held_at seg at.name ≡ Some (record { tag = c.args.tag; stamp = d.next }) = λ at is.
    let dead = placed_at answer _ at is e.adds.writes.placed in
    ap (λ (l : List (Option Held)). get_or l at.name None) (placed_at answer _ at is e.adds.held) ∙ get_or-set_same d.pseg.held at.name _ None (in_within f.segments at.name dead.0.within) in
    record {
      stops = lift (λ d. d.media) _ _ k.crash (λ m image l turned.
          let here = subst (λ n. ImageOf n image) e.geometry (g.met.M.Nand.left_fits c.nameless_write-answer.new.media m image t l) in
          ⊎_elim
          (λ was. inl ((λ is. was.0 (to_placed answer is)), leaves image here (inl was.1)))
          (λ places. inr (leaves image here (inr places), there image here places))
          turned);
      now = ⊎_elim
          (λ at.
          let e_name : at.0.name ≡ k.page = ap (λ (p : Pointer). p.name) (placed_at answer _ at.0 at.1 k.named) in
          let programmed = subst (λ n. PageIsProgrammed d.pseg n (value n) old new) e_name (placed_at answer _ at.0 at.1 (e.medium t).programmed) in
          let live = ap (λ n. held_at seg n) (sym e_name) ∙ now_held at.0 at.1 in
          let places : PlacesOnImage d.pseg k.page c.args.tag d.next main old new = record {
            takes = placed_takes (to_takes k.either) refl programmed;
            shows = shown_from c.args.tag d.next _ main (page_at new k.page) programmed.has ((e.medium t).segment.holds k.page (record { tag = c.args.tag; stamp = d.next }) live);
          } in
          inr (leaves new fits (inr places), there new fits places))
          (λ un. ⊎_elim
          (λ keeps. inl ((λ is. un (to_placed answer is)), leaves new fits (inl keeps)))
          (λ places. inr (leaves new fits (inr places), if_not_placed answer _ un))
          k.either)
          (placed_or answer);
    }

pub returns-clause-kept : goal.returns-clause-kept
returns-clause-kept g c =
    let d = c.args.self.now in
    let f = c.requires.formed in
    let e = c.nameless_write-answer.ensures in
    let old = g.M.Nand.contents d.media in
    let new = g.M.Nand.contents c.nameless_write-answer.new.media in
    let low = λ (t : g.M.Nand.tells) (p : ℕ) (lt : p < d.shape.vblocks * d.shape.pages). either_low (to_takes (e.medium t).crash.either) p (subst (λ n. p < n) (sym (begins f.segments)) lt) in
    let same = λ (t : g.M.Nand.tells). map_same old new d.vseg f.mapped (λ p lt. low t p (subst (λ n. p < n) f.segments.virtual_bound lt)) in
    record {
      virtual = record {
        same_shape = refl;
        same_stamps = λ v. refl;
        same_map = same;
        no_failed = λ t v x stray. stray_same (d.shape.vblocks * d.shape.pages) old new _ _ (low t) (same t) v x stray;
        spare = λ s. s;
      };
      bytes = λ t q page is.
          let h = held_of (held_at d.pseg q) page is in
          live_bytes (d.shape.vblocks * d.shape.pages) old new q (either_live (to_takes (e.medium t).crash.either) q h.0 h.1);
      clean = e.adds.writes.clean;
      read_faults = e.counts.reads;
    }

pub returns-clause-next_stamp : goal.returns-clause-next_stamp
returns-clause-next_stamp g c =
    let d = c.args.self.now in
    let e = c.nameless_write-answer.ensures.counts in
    named_rises c.nameless_write-answer.result c.is_tried-tried.result c.stamp_after-self.result d.next (g.M.Nand.clock d.media) (g.M.Nand.clock c.nameless_write-answer.new.media) (g.M.Nand.write_faults d.media) (g.M.Nand.write_faults c.nameless_write-answer.new.media)
    c.stamp_after-self.ensures c.is_tried-tried.ensures e.later e.more e.placed e.failed

pub returns-clause-counts : goal.returns-clause-counts
returns-clause-counts g c =
    let e = c.nameless_write-answer.ensures.counts in
    let answer = c.nameless_write-answer.result in
    record {
      faults = counted _ answer (g.M.Nand.write_faults c.args.self.now.media) (g.M.Nand.write_faults c.nameless_write-answer.new.media) e.more e.failed e.well;
      ticks = record { clock = e.later; later = λ is. e.placed (to_placed answer is) };
      clean_ticks = λ clean is. e.one (inr clean) (to_placed answer is);
      clean_stays = λ clean un. e.none (inr clean) (λ is. un (from_placed answer is));
      clean_fault = λ clean. fault_room answer c.args.self.now.pseg c.nameless_write-answer.new.self clean c.nameless_write-answer.ensures.adds.writes.failed;
      clean_kept = λ clean. none_retired c.args.self.now.pseg c.nameless_write-answer.new.self;
    }

pub returns-clause-formed : goal.returns-clause-formed
returns-clause-formed g c =
    let d = c.args.self.now in
    let f = c.requires.formed in
    let e = c.nameless_write-answer.ensures in
    let seg = c.nameless_write-answer.new.self in
    let answer = c.nameless_write-answer.result in
    let next = c.stamp_after-self.result in
    let rises : d.next ≤ next = after_rises c.is_tried-tried.result d.next next c.stamp_after-self.ensures in
    let spare : HasSpareBlock seg = record { whole = e.whole; block = e.adds.writes.kept f.spare.block; in_hand = hand_kept d.pseg seg e.adds.writes.pages.same_first e.adds.writes.pages.same_blocks e.adds.cleaning.victim f.spare } in
    let fewer = λ (n x : ℕ) (h : Contains seg.pairs (n, x)). subst (λ (l : List (ℕ × ℕ)). Contains l (n, x)) e.adds.pairs h in
    let device = tried_device answer c.is_tried-tried.result c.args.tag c.args.from.now.main f e.geometry (g.met.M.Nand.contents_fit d.media) (g.met.M.Nand.contents_fit c.nameless_write-answer.new.media) (λ t. ((e.medium t).crash.page, (e.medium t).crash.either))
    (λ un. not_touched answer un (λ r. ap g.M.Nand.contents (e.refused (no_page_of c.nameless_write-answer.result e.live r)).1)) c.forget_after.ensures c.stamp_after-self.ensures c.is_tried-tried.ensures in
    ⊎_elim
    (λ at.
    let dead = placed_at answer _ at.0 at.1 e.adds.writes.placed in
    let held = placed_at answer _ at.0 at.1 e.adds.held in
    let below = in_within f.segments at.0.name dead.0.within in
    let one = after_tried answer c.is_tried-tried.result d.next next c.stamp_after-self.ensures c.is_tried-tried.ensures (tried_placed answer (placed_yes answer at.0 at.1)) in
    let x : Held = record { tag = c.args.tag; stamp = d.next } in
    device seg d.pending e.adds.writes.pages (ap (λ (l : List (Option Held)). length l) held ∙ length-set d.pseg.held at.0.name _) (live_more d.pseg seg at.0.name d.next c.args.tag f.live e.adds.writes.pages e.whole.pages.erased_within dead.0.within below f.stamp.live held) spare
    (called_same d.pseg seg d.pending d.pending f.called refl f.called.numbers refl e.adds.pairs e.adds.writes.pages.same_size (more_keeps d.pseg seg at.0.name x dead.0.dead held))
    (more_below d.pseg seg at.0.name d.next next c.args.tag below held f.stamp.live one) (λ t. (e.medium t).segment) e.spare fewer (λ p. p ≡ at.0.name) (λ p here. ap (held_at d.pseg) here ∙ dead.0.dead) (more_less d.pseg seg at.0.name x below held))
    (λ un.
    let held = e.adds.writes.same un in
    device seg d.pending e.adds.writes.pages (ap (λ (l : List (Option Held)). length l) held) (live_kept d.pseg seg f.live e.adds.writes.pages e.whole.pages.erased_within held) spare
    (called_same d.pseg seg d.pending d.pending f.called refl f.called.numbers refl e.adds.pairs e.adds.writes.pages.same_size (same_keeps d.pseg seg held))
    (same_below_still d.pseg seg d.next next held f.stamp.live rises) (λ t. (e.medium t).segment) e.spare fewer (λ p. ⊥) (λ p off. absurd off) (λ p h has. inl (same_before d.pseg seg held p h has)))
    (placed_or answer)
