use Rattle.std.proofs.Common.{◌≡◌, ◌∙◌, ◌*◌, ◌/◌, is_some, inr, ◌≤◌, ◌<◌, ◌^◌, ℕ, get_or, List, Option, Some, None, inl, refl, sym, ap, subst, arith}
use Rattle.std.proofs.lemmas.Option.{none-some}
use Rattle.nl_nand.specs.Nand.{ImageOf}
use Rattle.nl_pseg.specs.Cleaning.{ErasesBlock}
use Rattle.nl_pseg.specs.Segment.{Physical, held_at, is_kept, is_soiled}
use Rattle.nl_iface.specs.Space.{Space}
use Rattle.nl_pseg.specs.Space.{left_in_victim}
use Rattle.nl_iface.specs.declared.moving.Erasing.TheVariants as now
use Rattle.std.specs.Prelude.{◌↔◌}
use Rattle.nl_pseg.specs.declared.cleaned.Erasure.TheVariants as the
use Rattle.nl_pseg.specs.declared.held.Held.{Held}
use Rattle.nl_vseg.specs.Places.{map_of}
use Rattle.nl_device.specs.Callbacks.{names_with}
use Rattle.nl_device.specs.Device.{IsDevice}
use Rattle.nl_device.specs.Shown.{IsStray, bytes_at, live_page}
use Rattle.nl_device.specs.Space.{space_of}
use Rattle.nl_device.specs.State.{held_of}
use Rattle.nl_device.proofs.CopyLeft.{still_cleans}
use Rattle.nl_device.proofs.Forms.{begins, lift}
use Rattle.nl_device.proofs.Idle.{left_is}
use Rattle.nl_device.proofs.Naming.{live_bytes, map_same, named_none, stray_same}
use Rattle.nl_device.proofs.SpaceSteps.{erased, same_segment}
use Rattle.nl_device.proofs.Wiped.{erasable, erase_idle, live_same, low_same, wiped_device, wiped_left, wiped_pages}
use Rattle.nl_device.proofs.moving_pages.DeviceMovingPages.erase.Goals as goal

-- the answer of the segment is that of the device
renamed : {A B C : Type 0} → (A → B) → (B → A) → A ↔ C → B ↔ C
renamed to from is = ((λ b. is.0 (from b)), (λ c. to (is.1 c)))

done_to : the.Done ≡ the.Nothing → now.Done ≡ now.Nothing
done_to e = cc

done_from : now.Done ≡ now.Nothing → the.Done ≡ the.Nothing
done_from e = cc

fault_to : the.Fault ≡ the.Nothing → now.Fault ≡ now.Nothing
fault_to e = cc

fault_from : now.Fault ≡ now.Nothing → the.Fault ≡ the.Nothing
fault_from e = cc

nothing_to : the.Nothing ≡ the.Nothing → now.Nothing ≡ now.Nothing
nothing_to e = refl

nothing_from : now.Nothing ≡ now.Nothing → the.Nothing ≡ the.Nothing
nothing_from e = refl

pub returns-in-Done-clause-formed : goal.returns-in-Done-clause-formed
returns-in-Done-clause-formed g c =
    let d = c.args.self.now in
    let f = c.requires.formed in
    let e = c.erase_victim-erased.ensures in
    let new = c.erase_victim-erased.new.self in
    let x : (block : ℕ) × ErasesBlock block d.pseg new = e.erases.erased c.in-Done.is in
    let block = x.0 in
    let named = x.1.was in
    let none = x.1.none_left in
    subst (λ k. IsDevice (g.M.Nand.geometry c.erase_victim-erased.new.media) g.M.Nand.tells (g.M.Nand.contents c.erase_victim-erased.new.media) d.shape d.vseg new d.pending k d.next) (sym c.forget_after.ensures)
    (wiped_device f e.geometry (λ t. g.met.M.Nand.contents_fit d.media t) (λ t. g.met.M.Nand.contents_fit c.erase_victim-erased.new.media t) block named none (λ t. (e.medium t).pages block named) new
    x.1.tables.same_first x.1.tables.same_blocks x.1.tables.same_size x.1.tables.same_held x.1.tables.same_pairs e.whole (e.erases.kept_block f.spare.block) (λ victim is. absurd (none-some victim (sym x.1.victim ∙ is))) (λ t. (e.medium t).segment) (λ t. (e.medium t).spare (λ nothing. apart (sym c.in-Done.is ∙ nothing))))
  where
    apart : the.Done ≡ the.Nothing → ⊥
    apart e = cc

pub returns-in-Done-clause-nothing : goal.returns-in-Done-clause-nothing
returns-in-Done-clause-nothing g c = renamed done_to done_from (erase_idle c.args.self.now.pseg c.in-Done.ensures.nothing)

pub returns-in-Done-clause-left : goal.returns-in-Done-clause-left
returns-in-Done-clause-left g c t =
    let d = c.args.self.now in
    let f = c.requires.formed in
    let e = c.erase_victim-erased.ensures in
    let new = c.erase_victim-erased.new.self in
    let x : (block : ℕ) × ErasesBlock block d.pseg new = e.erases.erased c.in-Done.is in
    let block = x.0 in
    let named = x.1.was in
    let none = x.1.none_left in
    let image_was = g.M.Nand.contents d.media in
    let image_now = g.M.Nand.contents c.erase_victim-erased.new.media in
    let fits = λ (t : g.M.Nand.tells). g.met.M.Nand.contents_fit d.media t in
    lift (λ d. d.media) _ _ ((e.medium t).crash block named) (λ m image l keeps.
    let here = subst (λ n. ImageOf n image) e.geometry (g.met.M.Nand.left_fits c.erase_victim-erased.new.media m image t l) in
    (wiped_left f t (fits t) block named none image here keeps, wiped_pages f t (fits t) block named none image here keeps))

pub returns-in-Done-clause-kept : goal.returns-in-Done-clause-kept
returns-in-Done-clause-kept g c =
    let d = c.args.self.now in
    let f = c.requires.formed in
    let e = c.erase_victim-erased.ensures in
    let new = c.erase_victim-erased.new.self in
    let x : (block : ℕ) × ErasesBlock block d.pseg new = e.erases.erased c.in-Done.is in
    let block = x.0 in
    let named = x.1.was in
    let none = x.1.none_left in
    let image_was = g.M.Nand.contents d.media in
    let image_now = g.M.Nand.contents c.erase_victim-erased.new.media in
    let fits = λ (t : g.M.Nand.tells). g.met.M.Nand.contents_fit d.media t in
    let bound = d.shape.vblocks * d.shape.pages in
    let fit = λ (t : g.M.Nand.tells). subst (λ n. ImageOf n image_now) e.geometry (g.met.M.Nand.contents_fit c.erase_victim-erased.new.media t) in
    let low = λ (t : g.M.Nand.tells) (p : ℕ) (lt : p < bound). low_same f t (fits t) block named none image_now (fit t) ((e.medium t).pages block named) p (subst (λ n. p < n) (sym (begins f.segments)) lt) in
    let same = λ (t : g.M.Nand.tells). map_same image_was image_now d.vseg f.mapped (λ p lt. low t p (subst (λ n. p < n) f.segments.virtual_bound lt)) in
    record {
      virtual = record {
        same_shape = refl;
        same_stamps = λ v. refl;
        same_map = same;
        no_failed = λ t v x stray. stray_same bound image_was image_now _ _ (low t) (same t) v x stray;
        spare = λ s. s;
      };
      bytes = λ t q page is.
          let h = held_of (held_at d.pseg q) page is in
          live_bytes bound image_was image_now q (live_same f t (fits t) block named none image_now (fit t) ((e.medium t).pages block named) q h.0 h.1);
      clean = e.erases.clean;
      next_stamp = refl;
      clock = let now = e.clock.0 c.in-Done.is in let was = subst (λ n. n < 2 ^ 64) c.clock.ensures c.clock.type_inv in omega (arith, now, was);
    }

pub returns-in-Fault-clause-formed : goal.returns-in-Fault-clause-formed
returns-in-Fault-clause-formed g c =
    let d = c.args.self.now in
    let f = c.requires.formed in
    let e = c.erase_victim-erased.ensures in
    let new = c.erase_victim-erased.new.self in
    let x = erasable d.pseg (λ idle. apart (sym c.in-Fault.is ∙ e.nothing.1 idle)) in
    let block = x.0 in
    let named = x.1 in
    let none = x.2 in
    let same : new ≡ d.pseg = e.erases.kept (λ done. other (sym c.in-Fault.is ∙ done)) in
    subst (λ k. IsDevice (g.M.Nand.geometry c.erase_victim-erased.new.media) g.M.Nand.tells (g.M.Nand.contents c.erase_victim-erased.new.media) d.shape d.vseg new d.pending k d.next) (sym c.forget_after-in-Fault.ensures)
    (wiped_device f e.geometry (λ t. g.met.M.Nand.contents_fit d.media t) (λ t. g.met.M.Nand.contents_fit c.erase_victim-erased.new.media t) block named none (λ t. (e.medium t).pages block named) new
    (ap (λ (s : Physical). s.first) same) (ap (λ (s : Physical). s.blocks) same) (ap (λ (s : Physical). s.size) same) (ap (λ (s : Physical). s.held) same) (ap (λ (s : Physical). s.pairs) same) e.whole (e.erases.kept_block f.spare.block) (subst (λ (s : Physical). (victim : ℕ) → s.victim ≡ Some victim → (s.first ≤ victim) × (victim < s.blocks)) (sym same) f.spare.in_hand) (λ t. (e.medium t).segment) (λ t. (e.medium t).spare (λ nothing. apart (sym c.in-Fault.is ∙ nothing))))
  where
    apart : the.Fault ≡ the.Nothing → ⊥
    apart e = cc

    other : the.Fault ≡ the.Done → ⊥
    other e = cc

pub returns-in-Fault-clause-nothing : goal.returns-in-Fault-clause-nothing
returns-in-Fault-clause-nothing g c = renamed fault_to fault_from (erase_idle c.args.self.now.pseg c.in-Fault.ensures.nothing)

pub returns-in-Fault-clause-left : goal.returns-in-Fault-clause-left
returns-in-Fault-clause-left g c t =
    let d = c.args.self.now in
    let f = c.requires.formed in
    let e = c.erase_victim-erased.ensures in
    let new = c.erase_victim-erased.new.self in
    let x = erasable d.pseg (λ idle. apart (sym c.in-Fault.is ∙ e.nothing.1 idle)) in
    let block = x.0 in
    let named = x.1 in
    let none = x.2 in
    let image_was = g.M.Nand.contents d.media in
    let image_now = g.M.Nand.contents c.erase_victim-erased.new.media in
    let fits = λ (t : g.M.Nand.tells). g.met.M.Nand.contents_fit d.media t in
    lift (λ d. d.media) _ _ ((e.medium t).crash block named) (λ m image l keeps.
    let here = subst (λ n. ImageOf n image) e.geometry (g.met.M.Nand.left_fits c.erase_victim-erased.new.media m image t l) in
    (wiped_left f t (fits t) block named none image here keeps, wiped_pages f t (fits t) block named none image here keeps))
  where
    apart : the.Fault ≡ the.Nothing → ⊥
    apart e = cc

pub returns-in-Fault-clause-kept : goal.returns-in-Fault-clause-kept
returns-in-Fault-clause-kept g c =
    let d = c.args.self.now in
    let f = c.requires.formed in
    let e = c.erase_victim-erased.ensures in
    let new = c.erase_victim-erased.new.self in
    let x = erasable d.pseg (λ idle. apart (sym c.in-Fault.is ∙ e.nothing.1 idle)) in
    let block = x.0 in
    let named = x.1 in
    let none = x.2 in
    let image_was = g.M.Nand.contents d.media in
    let image_now = g.M.Nand.contents c.erase_victim-erased.new.media in
    let fits = λ (t : g.M.Nand.tells). g.met.M.Nand.contents_fit d.media t in
    let bound = d.shape.vblocks * d.shape.pages in
    let fit = λ (t : g.M.Nand.tells). subst (λ n. ImageOf n image_now) e.geometry (g.met.M.Nand.contents_fit c.erase_victim-erased.new.media t) in
    let low = λ (t : g.M.Nand.tells) (p : ℕ) (lt : p < bound). low_same f t (fits t) block named none image_now (fit t) ((e.medium t).pages block named) p (subst (λ n. p < n) (sym (begins f.segments)) lt) in
    let same = λ (t : g.M.Nand.tells). map_same image_was image_now d.vseg f.mapped (λ p lt. low t p (subst (λ n. p < n) f.segments.virtual_bound lt)) in
    record {
      virtual = record {
        same_shape = refl;
        same_stamps = λ v. refl;
        same_map = same;
        no_failed = λ t v x stray. stray_same bound image_was image_now _ _ (low t) (same t) v x stray;
        spare = λ s. s;
      };
      bytes = λ t q page is.
          let h = held_of (held_at d.pseg q) page is in
          live_bytes bound image_was image_now q (live_same f t (fits t) block named none image_now (fit t) ((e.medium t).pages block named) q h.0 h.1);
      clean = e.erases.clean;
      next_stamp = refl;
      clock = let now = e.clock.1 (λ done. other (sym c.in-Fault.is ∙ done)) in omega (arith, now);
    }
  where
    apart : the.Fault ≡ the.Nothing → ⊥
    apart e = cc

    other : the.Fault ≡ the.Done → ⊥
    other e = cc

pub returns-in-Done-clause-done : goal.returns-in-Done-clause-done
returns-in-Done-clause-done g c is =
    let d = c.args.self.now in
    let f = c.requires.formed in
    let e = c.erase_victim-erased.ensures in
    let new = c.erase_victim-erased.new.self in
    let x : (block : ℕ) × ErasesBlock block d.pseg new = e.erases.erased c.in-Done.is in
    record {
      tables = record {
        live = λ q. ap (λ (l : List (Option Held)). live_page (get_or l q None)) x.1.tables.same_held;
        pairs = x.1.tables.same_pairs;
        pending = refl;
        handled = λ n. refl;
        posted = refl;
      };
      space = erased x.0 d.pseg new x.1 x.1.blocks;
      now = λ t. wiped_left f t (g.met.M.Nand.contents_fit d.media t) x.0 x.1.was x.1.none_left (g.M.Nand.contents c.erase_victim-erased.new.media)
          (subst (λ n. ImageOf n (g.M.Nand.contents c.erase_victim-erased.new.media)) e.geometry (g.met.M.Nand.contents_fit c.erase_victim-erased.new.media t)) ((e.medium t).pages x.0 x.1.was);
    }

pub returns-in-Fault-clause-failed : goal.returns-in-Fault-clause-failed
returns-in-Fault-clause-failed g c is =
    let d = c.args.self.now in
    let e = c.erase_victim-erased.ensures in
    let new = c.erase_victim-erased.new.self in
    let x = erasable d.pseg (λ idle. apart (sym c.in-Fault.is ∙ e.nothing.1 idle)) in
    let same : new ≡ d.pseg = e.erases.kept (λ done. other (sym c.in-Fault.is ∙ done)) in
    let space : space_of new ≡ space_of d.pseg = ap space_of same in
    record {
      same = same_segment d.pseg new (ap (λ (s : Physical). s.first) same) (ap (λ (s : Physical). s.blocks) same) (ap (λ (s : Physical). s.size) same);
      pairs = ap (λ (s : Space). s.pairs) space;
      live = ap (λ (s : Space). s.live) space;
      left = left_is new ∙ (ap left_in_victim same ∙ x.2);
      victim = λ none. space;
    }
  where
    apart : the.Fault ≡ the.Nothing → ⊥
    apart e = cc

    other : the.Fault ≡ the.Done → ⊥
    other e = cc

pub returns-in-Fault-clause-now : goal.returns-in-Fault-clause-now
returns-in-Fault-clause-now g c t is =
    let d = c.args.self.now in
    let f = c.requires.formed in
    let e = c.erase_victim-erased.ensures in
    let x = erasable d.pseg (λ idle. apart (sym c.in-Fault.is ∙ e.nothing.1 idle)) in
    let image = g.M.Nand.contents c.erase_victim-erased.new.media in
    wiped_left f t (g.met.M.Nand.contents_fit d.media t) x.0 x.1 x.2 image (subst (λ n. ImageOf n image) e.geometry (g.met.M.Nand.contents_fit c.erase_victim-erased.new.media t)) ((e.medium t).pages x.0 x.1)
  where
    apart : the.Fault ≡ the.Nothing → ⊥
    apart e = cc

pub returns-in-Fault-clause-same : goal.returns-in-Fault-clause-same
returns-in-Fault-clause-same g c un =
    let e = c.erase_victim-erased.ensures in
    let same = e.erases.kept (λ done. other (sym c.in-Fault.is ∙ done)) in
    (ap (λ (s : Physical). names_with s c.args.self.now.pending) same, ap (λ (s : Physical). s.victim) same)
  where
    other : the.Fault ≡ the.Done → ⊥
    other e = cc

pub returns-in-Nothing-clause-nothing : goal.returns-in-Nothing-clause-nothing
returns-in-Nothing-clause-nothing g c = renamed nothing_to nothing_from (erase_idle c.args.self.now.pseg c.in-Nothing.ensures.nothing)

pub returns-in-Nothing-clause-none : goal.returns-in-Nothing-clause-none
returns-in-Nothing-clause-none g c is =
    let d = c.args.self.now in
    let e = c.erase_victim-erased.ensures in
    let r = e.refused c.in-Nothing.is in
    record {
      medium = record {
        virtual = record {
          same_shape = refl;
          same_stamps = λ v. refl;
          same_map = λ t v. ap (λ m. map_of d.vseg.places (g.M.Nand.contents m) v) r;
          no_failed = λ t v x stray. subst (λ m. IsStray (d.shape.vblocks * d.shape.pages) (g.M.Nand.contents m) (λ u. map_of d.vseg.places (g.M.Nand.contents m) u) v x) r stray;
          spare = λ s. s;
        };
        contents = λ t. ap g.M.Nand.contents r;
        left = λ t m i l. subst (λ x. g.M.Nand.left x m i) r l;
        bytes = λ t p. ap (λ m. bytes_at (d.shape.vblocks * d.shape.pages) (g.M.Nand.contents m) p) r;
        found = refl;
        next_stamp = refl;
        clean = e.erases.clean;
        clock = ap g.M.Nand.clock r;
        write_faults = ap g.M.Nand.write_faults r;
      };
      names = ap (λ (s : Physical). names_with s d.pending) (e.erases.kept (λ done. other (sym c.in-Nothing.is ∙ done)));
    }
  where
    other : the.Nothing ≡ the.Done → ⊥
    other e = cc

pub returns-in-Nothing-clause-same : goal.returns-in-Nothing-clause-same
returns-in-Nothing-clause-same g c un =
    let e = c.erase_victim-erased.ensures in
    let same = e.erases.kept (λ done. other (sym c.in-Nothing.is ∙ done)) in
    (ap (λ (s : Physical). names_with s c.args.self.now.pending) same, ap (λ (s : Physical). s.victim) same)
  where
    other : the.Nothing ≡ the.Done → ⊥
    other e = cc

pub returns-in-Nothing-clause-left : goal.returns-in-Nothing-clause-left
returns-in-Nothing-clause-left g c t =
    let r = c.erase_victim-erased.ensures.refused c.in-Nothing.is in
    let clock = ap g.M.Nand.clock r in
    record { later = omega (arith, clock); each = λ m i l. inl (subst (λ x. g.M.Nand.left x m i) r l) }

pub returns-in-Nothing-clause-kept : goal.returns-in-Nothing-clause-kept
returns-in-Nothing-clause-kept g c = still_cleans _ (returns-in-Nothing-clause-none g c refl).medium

pub returns-in-Done-clause-wiped : goal.returns-in-Done-clause-wiped
returns-in-Done-clause-wiped g c is =
    let d = c.args.self.now in
    let f = c.requires.formed in
    let e = c.erase_victim-erased.ensures in
    let new = c.erase_victim-erased.new.self in
    let x : (block : ℕ) × ErasesBlock block d.pseg new = e.erases.erased c.in-Done.is in
    let image = g.M.Nand.contents d.media in
    let now = g.M.Nand.contents c.erase_victim-erased.new.media in (
      x.0,
      x.1.was,
      x.1.victim,
      λ t p at.
          let here : p / new.size ≡ x.0 = ap (λ n. p / n) (x.1.tables.same_size ∙ f.segments.physical_pages) ∙ at in
          let blank = (e.medium t).segment.blank p (inr (ap (is_kept new) here ∙ x.1.kept, ap (is_soiled new) here ∙ ap is_some x.1.clean)) in (
            blank,
            named_none (g.M.Nand.geometry d.media) d.shape d.vseg d.pseg image now f.segments (g.met.M.Nand.contents_fit d.media t) (subst (λ n. ImageOf n now) e.geometry (g.met.M.Nand.contents_fit c.erase_victim-erased.new.media t)) f.live (f.medium t).physical_is p (inl blank),
          ),
    )
