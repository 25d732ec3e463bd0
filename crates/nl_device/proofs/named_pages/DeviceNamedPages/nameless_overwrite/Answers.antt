use Rattle.std.proofs.Common.{◌≡◌, ◌⊎◌, inl, inr, ⊎_elim, refl, sym, ap, ◌∙◌, subst, ℕ, ◌+◌, ◌*◌, ◌/◌, ◌≤◌, ◌<◌, length, get_or, set, cond, false, List, Option, Some, None}
use Rattle.std.specs.Prelude.{◌↔◌, Contains}
use Rattle.std.proofs.lemmas.Bool.{cases_Bool, false≢true}
use Rattle.std.proofs.lemmas.List.{get_or-set_other, get_or-set_same, length-set}
use Rattle.std.proofs.lemmas.Option.{none-some}
use Rattle.nl_field.specs.Page.{Image, Page, written, page_at}
use Rattle.nl_field.specs.Live.{resolve}
use Rattle.nl_field.specs.declared.answers.Named.{Named}
use Rattle.nl_field.specs.declared.answers.Named.TheVariants as named
use Rattle.nl_field.specs.declared.pointer.Pointer.{Pointer}
use Rattle.nl_nand.specs.Nand.{ImageOf}
use Rattle.nl_iface.specs.Names.{leads}
use Rattle.nl_iface.specs.Stored.{stored_in}
use Rattle.nl_pseg.specs.Space.{Lessens}
use Rattle.nl_pseg.specs.Answers.{IsPlaced, is_placed}
use Rattle.nl_pseg.specs.Effects.{PreservesSegment, PlacesOnImage, PageIsProgrammed}
use Rattle.nl_pseg.specs.Pages.{main_of, page_with}
use Rattle.nl_pseg.specs.Segment.{IsClean, IsLive, Physical, held_at, wear_of}
use Rattle.nl_pseg.specs.declared.held.Held.{Held}
use Rattle.nl_device.specs.Device.{HasSpareBlock}
use Rattle.nl_device.specs.State.{held_of}
use Rattle.nl_device.specs.Shown.{bytes_at, found_by_number, live_page, names_of}
use Rattle.nl_device.specs.Space.{live_in}
use Rattle.nl_device.proofs.Calls.{held_from, in_within, is_leads, leads_is, live_or}
use Rattle.nl_device.proofs.Forms.{begins, lift}
use Rattle.nl_device.proofs.Living.{live_kept, live_swap, same_before, same_below_still, same_keeps, swap_below, swap_keeps, swap_less, swap_live}
use Rattle.nl_device.proofs.Made.{bytes_from}
use Rattle.nl_device.proofs.Naming.{either_live, either_low, in_block, leaves_tried, live_bytes, map_same, placed_takes, programmed_named, shown_from, stray_same, to_takes, new_as, tried_as}
use Rattle.nl_device.proofs.Placing.{after_rises, after_tried, counted, fault_room, fault_space, from_placed, if_not_placed, if_refused, named_has, named_rises, not_touched, not_tried, placed_at, placed_both, placed_or, placed_yes, room_is, to_placed, tried_placed}
use Rattle.nl_device.proofs.Spacing.{none_retired, one_for_one, wrote_over}
use Rattle.nl_device.proofs.Tried.{kept_untried, new_name, next_untried, tried_device}
use Rattle.nl_device.specs.Callbacks.{callbacks_of, handled_in, names_with}
use Rattle.nl_device.proofs.Calling.{beside_length, called_less, called_same, gone_led, handled_less, none_cancelled, pair_before, pending_less}
use Rattle.nl_device.proofs.Leaving.{hand_kept, names_in}
use Rattle.nl_device.proofs.named_pages.DeviceNamedPages.nameless_overwrite.Goals as goal

pub cancel_gone-requires-clause-names : goal.cancel_gone-requires-clause-names
cancel_gone-requires-clause-names g c = c.requires.formed.called.once

leads_or : (seg : Physical) (at : Pointer) (answer : Named) → (answer ≡ named.NotLive) ↔ (IsLive seg at → ⊥) → (answer ≡ named.NotLive) ↔ (leads (names_of seg) at ≡ false)
leads_or seg at answer is = (
  (λ dead. ⊎_elim (λ yes_leads. absurd (is.0 dead (leads_is seg at yes_leads))) (λ un. un) (cases_Bool (leads (names_of seg) at))),
  (λ un. is.1 (λ live. false≢true (sym un ∙ is_leads seg at live))),
)

pub returns-clause-not_live : goal.returns-clause-not_live
returns-clause-not_live g c =
    let d = c.args.self.now in
    let e = c.nameless_overwrite-answer.ensures in
    leads_or d.pseg c.args.old c.nameless_overwrite-answer.result e.live

pub returns-clause-no_page : goal.returns-clause-no_page
returns-clause-no_page g c =
    let d = c.args.self.now in
    let e = c.nameless_overwrite-answer.ensures in (
      (λ is. (is_leads d.pseg c.args.old (e.full.0 is).0, room_is d.pseg ∙ (e.full.0 is).1)),
      (λ both. e.full.1 (leads_is d.pseg c.args.old both.0, sym (room_is d.pseg) ∙ both.1)),
    )

-- where a page was placed, the old pointer is live
old_held : (seg : Physical) (at : Pointer) (answer : Named) (to : Pointer) → answer ≡ named.Placed to → ((IsLive seg at → ⊥) → answer ≡ named.NotLive) → (h : Held) × (held_at seg (resolve seg.pairs at.name) ≡ Some h) × (h.stamp ≡ at.stamp)
old_held seg at answer to is not_live = ⊎_elim
    (λ live. held_from (held_at seg (resolve seg.pairs at.name)) at.stamp live)
    (λ dead. absurd (apart (sym is ∙ not_live dead)))
    (live_or seg at)
  where
    apart : named.Placed to ≡ named.NotLive → ⊥
    apart e = cc

differ : (seg : Physical) (p q : ℕ) (h : Held) → held_at seg p ≡ None → held_at seg q ≡ Some h → p ≡ q → ⊥
differ seg p q h dead live is = none-some h (sym dead ∙ (ap (held_at seg) is ∙ live))

not_placed : (answer : Named) → (IsPlaced answer → ⊥) → is_placed answer ≡ false
not_placed (named.Placed at) un = absurd (un tt)
not_placed named.NotLive un = refl
not_placed named.NoPage un = refl
not_placed named.Fault un = refl

refused_not : (answer : Named) → (answer ≡ named.NotLive) ⊎ (answer ≡ named.NoPage) → is_placed answer ≡ false
refused_not answer (inl is) = ap is_placed is
refused_not answer (inr is) = ap is_placed is

pub returns-clause-placed : goal.returns-clause-placed
returns-clause-placed g c =
    let d = c.args.self.now in
    let f = c.requires.formed in
    let e = c.nameless_overwrite-answer.ensures in
    let seg = c.nameless_overwrite-answer.new.self in
    let new = g.M.Nand.contents c.nameless_overwrite-answer.new.media in
    let place = resolve d.pseg.pairs c.args.old.name in
    placed_both c.nameless_overwrite-answer.result _ _ _ e.replaces.writes.placed e.replaces.held (λ at is dead held.
    let below = in_within f.segments at.name dead.0.within in
    let h = old_held d.pseg c.args.old c.nameless_overwrite-answer.result at is e.live.1 in
    let within = in_within f.segments place (f.live.in_segment place h.0 h.1) in
    let yes_placed = placed_yes c.nameless_overwrite-answer.result at is in
    let led = gone_led d.pseg seg place d.pending f.called f.spare.whole e.whole (e.replaces.pairs yes_placed) f.live h.0 h.1 c.args.old.stamp h.2 c.is_placed-gone.result (c.is_placed-gone.ensures ∙ ap is_placed is) c.cancel_gone.new.pending.callbacks c.cancel_gone.ensures.callbacks in
    let swapped = one_for_one d.pseg.held at.name place (record { tag = c.args.tag; stamp = d.next }) h.0 below within (λ same. differ d.pseg at.name place h.0 dead.0.dead h.1 (sym same)) dead.0.dead h.1 in
    record {
      stamp = dead.1;
      is_new = new_as d.pseg d.pending (new_name f.segments at.name dead.0);
      names = record {
        live = λ q. ap (λ (l : List (Option Held)). live_page (get_or l q None)) held ∙ swap_live d.pseg.held at.name place c.args.tag d.next below within (differ d.pseg at.name place h.0 dead.0.dead h.1) q;
        pairs = e.replaces.pairs yes_placed;
        pending = pending_less d.pseg seg place d.pending f.called f.spare.whole e.whole (e.replaces.pairs yes_placed) c.cancel_gone.new.pending led;
        handled = handled_less d.pseg seg place d.pending f.called f.spare.whole e.whole (e.replaces.pairs yes_placed) c.cancel_gone.new.pending led;
        posted = c.cancel_gone.ensures.posted;
      };
      space = wrote_over d.pseg seg e.replaces.writes.pages (subst (λ a. Lessens (cond (is_placed a) 1 0) d.pseg seg) is e.replaces.space) (e.replaces.room yes_placed) (e.replaces.spent yes_placed) (ap (λ (l : List (Option Held)). live_in l + 1) held ∙ swapped)
          (subst (λ (l : List (ℕ × ℕ)). length l ≤ length d.pseg.pairs) (sym (e.replaces.pairs yes_placed)) (beside_length d.pseg.pairs place));
      bytes = λ t. let p = placed_at c.nameless_overwrite-answer.result _ at is (e.medium t).programmed in
          bytes_from (d.shape.vblocks * d.shape.pages) new at.name (subst (λ n. n ≤ at.name) (begins f.segments) p.dead.within.0) ∙ ap main_of p.has;
      block = λ t none. let p = placed_at c.nameless_overwrite-answer.result _ at is (e.medium t).programmed in
          in_block _ d.shape d.vseg d.pseg (g.M.Nand.contents d.media) new f.segments (g.met.M.Nand.contents_fit d.media t) (subst (λ n. ImageOf n new) e.geometry (g.met.M.Nand.contents_fit c.nameless_overwrite-answer.new.media t)) f.live (f.medium t).physical_is at.name _ p;
    })

pub returns-clause-none : goal.returns-clause-none
returns-clause-none g c un =
    let e = c.nameless_overwrite-answer.ensures in
    let un_placed : IsPlaced c.nameless_overwrite-answer.result → ⊥ = λ is. un (from_placed c.nameless_overwrite-answer.result is) in
    let d = c.args.self.now in
    let callbacks_stay = none_cancelled c.args.old.stamp d.pending c.is_placed-gone.result (c.is_placed-gone.ensures ∙ not_placed c.nameless_overwrite-answer.result un_placed) c.cancel_gone.new.pending.callbacks c.cancel_gone.ensures.callbacks in
    record {
      tables = record { live = λ q. ap (λ (l : List (Option Held)). live_page (get_or l q None)) (e.replaces.writes.same un_placed); pairs = e.replaces.writes.same_pairs un_placed; pending = ap callbacks_of callbacks_stay; handled = λ n. ap (λ l. handled_in l n) callbacks_stay; posted = c.cancel_gone.ensures.posted };
      fault = fault_space c.nameless_overwrite-answer.result c.args.self.now.pseg c.nameless_overwrite-answer.new.self e.replaces.writes.pages e.replaces.writes.same_cleaning (λ un. e.replaces.space.lands) e.replaces.writes.failed e.replaces.writes.same e.replaces.writes.same_pairs;
    }

pub returns-clause-refused : goal.returns-clause-refused
returns-clause-refused g c = if_refused c.nameless_overwrite-answer.result _ (λ is.
    let d = c.args.self.now in
    let e = c.nameless_overwrite-answer.ensures in
    let same = e.refused is in
    let callbacks = none_cancelled c.args.old.stamp d.pending c.is_placed-gone.result (c.is_placed-gone.ensures ∙ refused_not c.nameless_overwrite-answer.result is) c.cancel_gone.new.pending.callbacks c.cancel_gone.ensures.callbacks in
    let untried : c.is_tried-taken.result ≡ false = c.is_tried-taken.ensures ∙ not_tried c.nameless_overwrite-answer.result is in
    let kept = kept_untried d.kept c.forget_after.new.self c.is_tried-taken.result c.forget_after.ensures untried in
    let next = next_untried c.is_tried-taken.result c.stamp_after-self.result d.next c.stamp_after-self.ensures untried in
    let image : g.M.Nand.contents c.nameless_overwrite-answer.new.media ≡ g.M.Nand.contents d.media = ap g.M.Nand.contents same.1 in
    let low : (p : ℕ) → p < d.shape.vblocks * d.shape.pages → page_at (g.M.Nand.contents c.nameless_overwrite-answer.new.media) p ≡ page_at (g.M.Nand.contents d.media) p = λ p lt. ap (λ (i : Image). page_at i p) image in
    let map = map_same (g.M.Nand.contents d.media) (g.M.Nand.contents c.nameless_overwrite-answer.new.media) d.vseg c.requires.formed.mapped (λ p lt. ap (λ (i : Image). page_at i p) image) in
    record {
      medium = record {
        virtual = record {
          same_shape = refl;
          same_stamps = λ v. refl;
          same_map = λ t. map;
          no_failed = λ t v x stray. stray_same (d.shape.vblocks * d.shape.pages) (g.M.Nand.contents d.media) (g.M.Nand.contents c.nameless_overwrite-answer.new.media) _ _ low map v x stray;
          spare = λ s. s;
        };
        contents = λ t. image;
        left = λ t m i l. subst (λ x. g.M.Nand.left x m i) same.1 l;
        bytes = λ t p. ap (λ (i : Image). bytes_at (d.shape.vblocks * d.shape.pages) i p) image;
        found = ap found_by_number kept;
        next_stamp = next;
        clean = λ clean. subst IsClean (sym same.0) clean;
        clock = ap g.M.Nand.clock same.1;
        write_faults = ap g.M.Nand.write_faults same.1;
      };
      names = λ i. names_with (same.0 i) (record { callbacks = callbacks i; posted = c.cancel_gone.ensures.posted i; room = 0 });
    })

pub returns-clause-left : goal.returns-clause-left
returns-clause-left g c t =
    let d = c.args.self.now in
    let f = c.requires.formed in
    let e = c.nameless_overwrite-answer.ensures in
    let k = (e.medium t).crash in
    let answer = c.nameless_overwrite-answer.result in
    let seg = c.nameless_overwrite-answer.new.self in
    let old = g.M.Nand.contents d.media in
    let new = g.M.Nand.contents c.nameless_overwrite-answer.new.media in
    let main = c.args.from.now.main in
    let old_fits = g.met.M.Nand.contents_fit d.media t in
    let value : ℕ → Page = λ p. written (page_with main c.args.tag d.next (wear_of d.pseg (p / d.pseg.size))) in
    let leaves = λ (image : Image) (fits : ImageOf (g.M.Nand.geometry d.media) image) (x : PreservesSegment d.pseg old image ⊎ PlacesOnImage d.pseg k.page c.args.tag d.next main old image).
    tried_as d.pseg d.pending (leaves_tried (g.M.Nand.geometry d.media) d.shape d.vseg d.pseg old image f.segments old_fits fits f.live (f.medium t).physical_is k.page d.next c.args.tag main f.spare (f.medium t).spare (names_in (f.medium t).pages) x) in
    let there = λ (image : Image) (fits : ImageOf (g.M.Nand.geometry d.media) image) (x : PlacesOnImage d.pseg k.page c.args.tag d.next main old image).
    named_has answer k.page d.next (λ n. (stored_in image).named n ≡ Some (record { tag = c.args.tag; stamp = d.next; bytes = main })) k.named
    (programmed_named (g.M.Nand.geometry d.media) d.shape d.vseg d.pseg old image f.segments old_fits fits f.live (f.medium t).physical_is k.page c.args.tag d.next (wear_of d.pseg (k.page / d.pseg.size)) main x.shows x.takes) in
    let fits = subst (λ n. ImageOf n new) e.geometry (g.met.M.Nand.contents_fit c.nameless_overwrite-answer.new.media t) in
    let place = resolve d.pseg.pairs c.args.old.name in
    let now_held : (at : Pointer) → answer ≡ named.Placed at → held_at seg at.name ≡ Some (record { tag = c.args.tag; stamp = d.next }) = λ at is.
    let dead = placed_at answer _ at is e.replaces.writes.placed in
    let h = old_held d.pseg c.args.old answer at is e.live.1 in
    ap (λ (l : List (Option Held)). get_or l at.name None) (placed_at answer _ at is e.replaces.held)
    ∙ (get_or-set_other (set d.pseg.held at.name _) place at.name None None (differ d.pseg at.name place h.0 dead.0.dead h.1) ∙ get_or-set_same d.pseg.held at.name _ None (in_within f.segments at.name dead.0.within)) in
    record {
      stops = lift (λ d. d.media) _ _ k.crash (λ m image l turned.
          let here = subst (λ n. ImageOf n image) e.geometry (g.met.M.Nand.left_fits c.nameless_overwrite-answer.new.media m image t l) in
          ⊎_elim
          (λ was. inl ((λ is. was.0 (to_placed answer is)), leaves image here (inl was.1)))
          (λ places. inr (leaves image here (inr places), there image here places))
          turned);
      now = ⊎_elim
          (λ at.
          let e_name : at.0.name ≡ k.page = ap (λ (p : Pointer). p.name) (placed_at answer _ at.0 at.1 k.named) in
          let programmed = subst (λ n. PageIsProgrammed d.pseg n (value n) old new) e_name (placed_at answer _ at.0 at.1 (e.medium t).programmed) in
          let live = ap (λ n. held_at seg n) (sym e_name) ∙ now_held at.0 at.1 in
          let places : PlacesOnImage d.pseg k.page c.args.tag d.next main old new = record {
            takes = placed_takes (to_takes k.either) refl programmed;
            shows = shown_from c.args.tag d.next _ main (page_at new k.page) programmed.has ((e.medium t).segment.holds k.page (record { tag = c.args.tag; stamp = d.next }) live);
          } in
          inr (leaves new fits (inr places), there new fits places))
          (λ un. ⊎_elim
          (λ keeps. inl ((λ is. un (to_placed answer is)), leaves new fits (inl keeps)))
          (λ places. inr (leaves new fits (inr places), if_not_placed answer _ un))
          k.either)
          (placed_or answer);
    }

pub returns-clause-kept : goal.returns-clause-kept
returns-clause-kept g c =
    let d = c.args.self.now in
    let f = c.requires.formed in
    let e = c.nameless_overwrite-answer.ensures in
    let old = g.M.Nand.contents d.media in
    let new = g.M.Nand.contents c.nameless_overwrite-answer.new.media in
    let low = λ (t : g.M.Nand.tells) (p : ℕ) (lt : p < d.shape.vblocks * d.shape.pages). either_low (to_takes (e.medium t).crash.either) p (subst (λ n. p < n) (sym (begins f.segments)) lt) in
    let same = λ (t : g.M.Nand.tells). map_same old new d.vseg f.mapped (λ p lt. low t p (subst (λ n. p < n) f.segments.virtual_bound lt)) in
    record {
      virtual = record {
        same_shape = refl;
        same_stamps = λ v. refl;
        same_map = same;
        no_failed = λ t v x stray. stray_same (d.shape.vblocks * d.shape.pages) old new _ _ (low t) (same t) v x stray;
        spare = λ s. s;
      };
      bytes = λ t q page is.
          let h = held_of (held_at d.pseg q) page is in
          live_bytes (d.shape.vblocks * d.shape.pages) old new q (either_live (to_takes (e.medium t).crash.either) q h.0 h.1);
      clean = e.replaces.writes.clean;
      read_faults = e.counts.reads;
    }

pub returns-clause-next_stamp : goal.returns-clause-next_stamp
returns-clause-next_stamp g c =
    let d = c.args.self.now in
    let e = c.nameless_overwrite-answer.ensures.counts in
    named_rises c.nameless_overwrite-answer.result c.is_tried-taken.result c.stamp_after-self.result d.next (g.M.Nand.clock d.media) (g.M.Nand.clock c.nameless_overwrite-answer.new.media) (g.M.Nand.write_faults d.media) (g.M.Nand.write_faults c.nameless_overwrite-answer.new.media)
    c.stamp_after-self.ensures c.is_tried-taken.ensures e.later e.more e.placed e.failed

pub returns-clause-counts : goal.returns-clause-counts
returns-clause-counts g c =
    let e = c.nameless_overwrite-answer.ensures.counts in
    let answer = c.nameless_overwrite-answer.result in
    record {
      faults = counted _ answer (g.M.Nand.write_faults c.args.self.now.media) (g.M.Nand.write_faults c.nameless_overwrite-answer.new.media) e.more e.failed e.well;
      ticks = record { clock = e.later; later = λ is. e.placed (to_placed answer is) };
      clean_ticks = λ clean is. e.one (inr clean) (to_placed answer is);
      clean_stays = λ clean un. e.none (inr clean) (λ is. un (from_placed answer is));
      clean_fault = λ clean. fault_room answer c.args.self.now.pseg c.nameless_overwrite-answer.new.self clean c.nameless_overwrite-answer.ensures.replaces.writes.failed;
      clean_kept = λ clean. none_retired c.args.self.now.pseg c.nameless_overwrite-answer.new.self;
    }

pub returns-clause-formed : goal.returns-clause-formed
returns-clause-formed g c =
    let d = c.args.self.now in
    let f = c.requires.formed in
    let e = c.nameless_overwrite-answer.ensures in
    let seg = c.nameless_overwrite-answer.new.self in
    let answer = c.nameless_overwrite-answer.result in
    let next = c.stamp_after-self.result in
    let rises : d.next ≤ next = after_rises c.is_tried-taken.result d.next next c.stamp_after-self.ensures in
    let spare : HasSpareBlock seg = record { whole = e.whole; block = e.replaces.writes.kept f.spare.block; in_hand = hand_kept d.pseg seg e.replaces.writes.pages.same_first e.replaces.writes.pages.same_blocks e.replaces.space.victim f.spare } in
    let k = c.cancel_gone.ensures in
    let pend = c.cancel_gone.new.pending in
    let device = tried_device answer c.is_tried-taken.result c.args.tag c.args.from.now.main f e.geometry (g.met.M.Nand.contents_fit d.media) (g.met.M.Nand.contents_fit c.nameless_overwrite-answer.new.media) (λ t. ((e.medium t).crash.page, (e.medium t).crash.either))
    (λ un. not_touched answer un (λ r. ap g.M.Nand.contents (e.refused r).1)) c.forget_after.ensures c.stamp_after-self.ensures c.is_tried-taken.ensures in
    let place = resolve d.pseg.pairs c.args.old.name in
    ⊎_elim
    (λ at.
    let dead = placed_at answer _ at.0 at.1 e.replaces.writes.placed in
    let held = placed_at answer _ at.0 at.1 e.replaces.held in
    let below = in_within f.segments at.0.name dead.0.within in
    let h = old_held d.pseg c.args.old answer at.0 at.1 e.live.1 in
    let within = in_within f.segments place (f.live.in_segment place h.0 h.1) in
    let one = after_tried answer c.is_tried-taken.result d.next next c.stamp_after-self.ensures c.is_tried-taken.ensures (tried_placed answer (placed_yes answer at.0 at.1)) in
    let x : Held = record { tag = c.args.tag; stamp = d.next } in
    let pairs = e.replaces.pairs (placed_yes answer at.0 at.1) in
    let led = gone_led d.pseg seg place d.pending f.called f.spare.whole e.whole pairs f.live h.0 h.1 c.args.old.stamp h.2 c.is_placed-gone.result (c.is_placed-gone.ensures ∙ ap is_placed at.1) pend.callbacks k.callbacks in
    device seg pend e.replaces.writes.pages (ap (λ (l : List (Option Held)). length l) held ∙ (length-set (set d.pseg.held at.0.name _) place None ∙ length-set d.pseg.held at.0.name _))
    (live_swap d.pseg seg at.0.name place d.next c.args.tag f.live e.replaces.writes.pages e.whole.pages.erased_within dead.0.within below within f.stamp.live held) spare
    (called_less d.pseg seg place d.pending f.called f.spare.whole e.whole pairs pend led k.numbers k.room e.replaces.writes.pages.same_size (swap_keeps d.pseg seg at.0.name place x dead.0.dead held))
    (swap_below d.pseg seg at.0.name place d.next next c.args.tag below within held f.stamp.live one) (λ t. (e.medium t).segment) e.spare
    (pair_before d.pseg seg place d.pending f.called f.spare.whole e.whole pairs) (λ p. p ≡ at.0.name) (λ p here. ap (held_at d.pseg) here ∙ dead.0.dead) (swap_less d.pseg seg at.0.name place x below within held))
    (λ un.
    let held = e.replaces.writes.same un in
    let pairs = e.replaces.writes.same_pairs un in
    let callbacks = none_cancelled c.args.old.stamp d.pending c.is_placed-gone.result (c.is_placed-gone.ensures ∙ not_placed answer un) pend.callbacks k.callbacks in
    device seg pend e.replaces.writes.pages (ap (λ (l : List (Option Held)). length l) held) (live_kept d.pseg seg f.live e.replaces.writes.pages e.whole.pages.erased_within held) spare
    (called_same d.pseg seg d.pending pend f.called (ap callbacks_of callbacks) k.numbers k.room pairs e.replaces.writes.pages.same_size (same_keeps d.pseg seg held))
    (same_below_still d.pseg seg d.next next held f.stamp.live rises) (λ t. (e.medium t).segment) e.spare (λ n x h. subst (λ (l : List (ℕ × ℕ)). Contains l (n, x)) pairs h) (λ p. ⊥) (λ p off. absurd off) (λ p h has. inl (same_before d.pseg seg held p h has)))
    (placed_or answer)
