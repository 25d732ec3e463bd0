-- The device after a move, or after one that failed.
use Rattle.std.proofs.Common.{◌≡◌, ◌⊎◌, inl, inr, ⊎_elim, ℕ, ◌+◌, ◌*◌, ◌<◌, ◌≤◌, Bool, true, false, cond, is_some, get_or, List, length, insert, set, Option, Some, None, refl, sym, ◌∙◌, ap, subst, arith}
use Rattle.std.specs.Prelude.{Contains, ◌==◌, if◌then◌else◌}
use Rattle.std.specs.Bool.{OnFalse, OnTrue}
use Rattle.std.proofs.lemmas.Bool.{OnFalse_at, OnTrue_at, cases_Bool, true≢false}
use Rattle.std.proofs.lemmas.List.{length-set}
use Rattle.nl_field.specs.Page.{Image, page_at}
use Rattle.nl_field.specs.declared.shape.Shape.{Shape}
use Rattle.nl_nand.specs.Nand.{ImageOf}
use Rattle.nl_nand.specs.declared.geometry.Geometry.{Geometry}
use Rattle.nl_callbacks.specs.Pending.{ArePendingEntries, PendingTable, callback_of, new_entry, place_of}
use Rattle.nl_field.specs.Live.{resolve}
use Rattle.nl_iface.specs.Moves.{Copies, TakesVictim}
use Rattle.nl_iface.specs.Names.{Names, told_page, with_page, without_page}
use Rattle.nl_iface.specs.declared.Callback.{Callback}
use Rattle.nl_device.specs.Callbacks.{names_with}
use Rattle.nl_device.specs.Space.{space_of}
use Rattle.nl_device.proofs.SpaceSteps.{begun, begun_gains}
use Rattle.nl_iface.specs.Left.{IsOutcomeOfWrite, LeavesTried}
use Rattle.nl_iface.specs.Stored.{NamedPage, Stored, stored_in}
use Rattle.nl_pseg.specs.Cleaning.{BeginsBlock, CrashesMove, IsChosen, MovesLivePage, MovesNone}
use Rattle.nl_pseg.specs.Pages.{main_of}
use Rattle.nl_pseg.specs.declared.cleaned.Copied.{Copied}
use Rattle.nl_pseg.specs.Effects.{PreservesSegment, PlacesOnImage}
use Rattle.nl_pseg.specs.Segment.{CanSpareBlock, IsPhysicalOf, KeepsBlock, Physical, SameBlocksAndPages, held_at}
use Rattle.nl_pseg.specs.Space.{IsWhole, victims}
use Rattle.nl_pseg.specs.declared.held.Held.{Held}
use Rattle.nl_vseg.specs.Segment.{Segment}
use Rattle.nl_device.specs.Device.{HasSpareBlock, IsDevice, IsFoundStored}
use Rattle.nl_device.specs.Kept.{KeptPages, forgotten}
use Rattle.nl_device.specs.Shown.{bytes_at, live_page, names_of}
use Rattle.nl_device.proofs.Begun.{begun_device}
use Rattle.nl_device.proofs.Calling.{called_same}
use Rattle.nl_device.proofs.Calls.{device_with, found_after, in_within, medium_with, named_segments, stored_after}
use Rattle.nl_device.proofs.Leaving.{hand_kept, named_either, names_in, names_still}
use Rattle.nl_device.proofs.Living.{live_kept, same_before, same_keeps}
use Rattle.nl_device.proofs.Made.{live_held}
use Rattle.nl_device.proofs.Moving.{called_moved, few_called, led_moved, live_moved, moved_below}
use Rattle.nl_device.proofs.Naming.{below_after, either_each, either_low, named_same, names_after, to_takes}

-- with a victim in hand, if one could be begun
pub taken_device : {geometry : Geometry} {tells : Type 0} {image : Image} {shape : Shape} {vseg : Segment} {old : Physical} {pending : PendingTable} {kept : KeptPages} {next : ℕ} → IsDevice geometry tells image shape vseg old pending kept next → (tells → ImageOf geometry image)
    → (new : Physical) (cold began : Bool) → OnTrue began ((block : ℕ) × IsChosen cold old block × BeginsBlock block old new) → OnFalse began (new ≡ old) → IsWhole new → (KeepsBlock old → KeepsBlock new) → ((i : Image) → IsPhysicalOf i old → IsPhysicalOf i new) → ((i : Image) → CanSpareBlock i old → CanSpareBlock i new)
    → IsDevice geometry tells image shape vseg new pending kept next
taken_device {geometry} {tells} {image} {shape} {vseg} {old} {pending} {kept} {next} f fits new cold began begun none whole keeps segment on = ⊎_elim
    (λ is. let b = OnTrue_at is begun in begun_device f fits new cold b.0 b.1 b.2 whole keeps segment on)
    (λ is. subst (λ s. IsDevice geometry tells image shape vseg s pending kept next) (sym (OnFalse_at is none)) f)
    (cases_Bool began)

-- the live pages are the same then
pub mid_held : (old mid : Physical) (began : Bool) → OnTrue began ((block : ℕ) × IsChosen false old block × BeginsBlock block old mid) → OnFalse began (mid ≡ old) → (p : ℕ) (h : Held) → held_at old p ≡ Some h → held_at mid p ≡ Some h
mid_held old mid began begun none p h has = ⊎_elim
    (λ is. let b : (block : ℕ) × IsChosen false old block × BeginsBlock block old mid = OnTrue_at is begun in same_keeps old mid b.2.tables.same_held p h has)
    (λ is. subst (λ (s : Physical). held_at s p ≡ Some h) (sym (OnFalse_at is none)) has)
    (cases_Bool began)

-- there is room for one more callback
pub post_room : {geometry : Geometry} {tells : Type 0} {image : Image} {shape : Shape} {vseg : Segment} {old new : Physical} {pending : PendingTable} {kept : KeptPages} {next before after : ℕ} {h : Held} → IsDevice geometry tells image shape vseg old pending kept next → MovesLivePage before after h old new → 0 < pending.room
post_room {geometry} {tells} {image} {shape} {vseg} {old} {new} {pending} {kept} {next} {before} {after} {h} f m =
    let few = few_called pending.callbacks old.pairs f.called.numbers.rising f.called.once f.called.old in
    let one : victims old ≡ 1 = ap (λ (o : Option ℕ). cond (is_some o) 1 0) m.in_victim in
    let busy = f.spare.whole.numbers.busy one in
    let left = m.left in
    let room = f.called.room in
    let some = f.segments.some in
    let size = f.segments.physical_pages in
    omega (arith, few, busy, left, room, some, size)

-- The image is as it was but for dead pages, or has a copy of a live page more.
pub record MayCopy (seg : Physical) (old c : Image) : Type 0 where
  pub place : ℕ
  pub page : Held
  pub was : held_at seg place ≡ Some page
  pub main : List ℕ
  pub tried : ℕ
  pub either : PreservesSegment seg old c ⊎ PlacesOnImage seg tried page.tag page.stamp main old c

-- what a move may leave
pub may_copy : {M : Type 0} {clock : M → ℕ} {contents : M → Image} {left : M → ℕ → Image → Type 0} {seg : Physical} {old new : M} {answer : Copied} → CrashesMove clock contents left seg old new answer → MayCopy seg (contents old) (contents new)
may_copy {M} {clock} {contents} {left} {seg} {old} {new} {answer} k = record { place = k.before; page = k.h; was = k.was; main = main_of (page_at (contents old) k.before); tried = k.crash.page; either = k.crash.either }

module _ {geometry now : Geometry} {tells : Type 0} {image c : Image} {shape : Shape} {vseg : Segment} {old : Physical} {pending : PendingTable} {kept : KeptPages} {next : ℕ} (f : IsDevice geometry tells image shape vseg old pending kept next) (same_geometry : now ≡ geometry) (old_fits : tells → ImageOf geometry image) (fits : tells → ImageOf now c)
    (new : Physical) (whole : IsWhole new) (keeps : KeepsBlock old → KeepsBlock new) (segment : tells → IsPhysicalOf c new) (on : tells → CanSpareBlock image old → CanSpareBlock c new) (made : tells → MayCopy old image c) where
  below_next : tells → (p : ℕ) (page : NamedPage) → (stored_in c).named p ≡ Some page → page.stamp + 1 ≤ next
  below_next t p page is =
      let k = made t in
      let lt = f.stamp.live k.place k.page k.was in
      below_after geometry shape vseg old image c f.segments (old_fits t) (subst (λ n. ImageOf n c) same_geometry (fits t)) f.live (f.medium t).physical_is k.tried k.page.stamp next k.page.tag k.main k.either (f.medium t).named_below (omega (arith, lt)) p page is

  stored : tells → IsFoundStored (forgotten kept) (λ p. bytes_at (shape.vblocks * shape.pages) c p) (stored_in c)
  stored t = stored_after kept (forgotten kept) true refl (λ p. bytes_at (shape.vblocks * shape.pages) c p) (stored_in c) (λ un. absurd (true≢false un))

  pub moved_device : (at after : ℕ) (h : Held) → MovesLivePage at after h old new → (u : PendingTable) (number : ℕ) → ArePendingEntries u.callbacks u.posted → u.callbacks ≡ insert pending.callbacks (place_of pending.callbacks number) (new_entry (callback_of number at after h.tag h.stamp)) → length u.callbacks + u.room ≡ length pending.callbacks + pending.room
      → IsDevice now tells c shape vseg new u (forgotten kept) next
  moved_device at after h m u number table inserted room =
      let same : SameBlocksAndPages old new = record { same_first = m.same_first; same_blocks = m.same_blocks; same_size = m.same_size; same_wear = m.same_wear } in
      let within = in_within f.segments at (f.live.in_segment at h m.was) in
      let below = in_within f.segments after m.dead.within in
      let live = live_moved at after h old new m f.spare.whole whole within below f.live in
      let count : length new.held ≡ length old.held = ap (λ (l : List (Option Held)). length l) m.held ∙ (length-set (set old.held after (Some h)) at None ∙ length-set old.held after (Some h)) in
      let spare : HasSpareBlock new = record { whole = whole; block = keeps f.spare.block; in_hand = hand_kept old new m.same_first m.same_blocks m.victim f.spare } in
      device_with f (found_after kept (forgotten kept) true refl shape next next (omega arith) f.found) stored same_geometry same count live spare
      (called_moved at after h old new m f.spare.whole whole within below pending u number f.called table inserted room) (omega arith)
      (moved_below at after h old new m f.spare.whole whole within below next f.stamp.live)
      (λ t.
      let fit = subst (λ n. ImageOf n c) same_geometry (fits t) in
      let pages = either_each (to_takes (made t).either) in
      let holds = live_held (named_segments f.segments refl same count) fit live (segment t) in
      medium_with f t same_geometry same count (fits t) live (either_low (to_takes (made t).either)) (segment t) (omega arith) spare (on t (f.medium t).spare)
      (names_still (names_in (f.medium t).pages) (λ name page has. ⊎_elim
      (λ led. inl (led, named_same geometry shape vseg old image c f.segments (old_fits t) fit f.live (f.medium t).physical_is name (named_either old image c pages name page led)))
      (λ here. inr (record { tag = page.tag; stamp = page.stamp; bytes = bytes_at (shape.vblocks * shape.pages) c name }, holds name page here, refl))
      (led_moved at after h old new m f.spare.whole whole within below name page has)))
      (below_next t))

  pub unmoved_device : MovesNone old new → IsDevice now tells c shape vseg new pending (forgotten kept) next
  unmoved_device m =
      let same : SameBlocksAndPages old new = record { same_first = m.tables.same_first; same_blocks = m.tables.same_blocks; same_size = m.tables.same_size; same_wear = m.same_wear } in
      let held = m.tables.same_held in
      let live = live_kept old new f.live same whole.pages.erased_within held in
      let count : length new.held ≡ length old.held = ap (λ (l : List (Option Held)). length l) held in
      let spare : HasSpareBlock new = record { whole = whole; block = keeps f.spare.block; in_hand = hand_kept old new m.tables.same_first m.tables.same_blocks m.victim f.spare } in
      device_with f (found_after kept (forgotten kept) true refl shape next next (omega arith) f.found) stored same_geometry same count live spare
      (called_same old new pending pending f.called refl f.called.numbers refl m.tables.same_pairs m.tables.same_size (same_keeps old new held)) (omega arith)
      (λ p x has. f.stamp.live p x (same_before old new held p x has))
      (λ t.
      let fit = subst (λ n. ImageOf n c) same_geometry (fits t) in
      medium_with f t same_geometry same count (fits t) live (either_low (to_takes (made t).either)) (segment t) (omega arith) spare (on t (f.medium t).spare)
      (names_after geometry shape vseg old image c f.segments (old_fits t) fit f.live (f.medium t).physical_is new f.spare.whole (either_each (to_takes (made t).either))
      (λ n x k. subst (λ (l : List (ℕ × ℕ)). Contains l (n, x)) m.tables.same_pairs k) (λ p. ⊥) (λ p off. absurd off) (λ p x has. inl (same_before old new held p x has))
      (λ p. bytes_at (shape.vblocks * shape.pages) c p) (live_held (named_segments f.segments refl same count) fit live (segment t)) (names_in (f.medium t).pages))
      (below_next t))

-- the tables of a device with a victim in hand are those before
pub mid_tables : (old mid : Physical) (began : Bool) → OnTrue began ((block : ℕ) × IsChosen false old block × BeginsBlock block old mid) → OnFalse began (mid ≡ old) → (mid.held ≡ old.held) × (mid.pairs ≡ old.pairs)
mid_tables old mid began begun none = ⊎_elim
    (λ is. let b : (block : ℕ) × IsChosen false old block × BeginsBlock block old mid = OnTrue_at is begun in (b.2.tables.same_held, b.2.tables.same_pairs))
    (λ is. let e = OnFalse_at is none in (ap (λ (s : Physical). s.held) e, ap (λ (s : Physical). s.pairs) e))
    (cases_Bool began)

-- a move after a victim was begun is a move from the state before it
pub copies_from : (c : Callback) (old mid : Physical) (t : PendingTable) (n : Names) → mid.held ≡ old.held → mid.pairs ≡ old.pairs → Copies c (names_with mid t) n → Copies c (names_with old t) n
copies_from c old mid t n held pairs k = record {
  was = ap (λ (l : List (Option Held)). live_page (get_or l c.before None)) (sym held) ∙ k.was;
  dead = ap (λ (l : List (Option Held)). live_page (get_or l c.after None)) (sym held) ∙ k.dead;
  own = ap (λ ps. resolve ps c.after) (sym pairs) ∙ k.own;
  live = λ q. k.live q ∙ ap (λ (l : List (Option Held)). with_page (without_page (λ p. live_page (get_or l p None)) c.before) c.after (told_page c) q) held;
  ways = λ m. k.ways m ∙ ap (λ ps. if resolve ps m == c.before then c.after else resolve ps m) pairs;
  added = k.added;
  kept = k.kept;
  only = k.only;
  new_number = k.new_number;
  numbered = k.numbered;
  stands = k.stands;
  unhandled = k.unhandled;
  handled = k.handled;
}

victim_one : (seg : Physical) → victims seg ≡ 1 → (space_of seg).victim ≡ 1
unfolding space_of
victim_one seg one = one

-- a victim is in hand, or was begun with a dead page
pub takes_victim : (old mid : Physical) (began : Bool) → OnTrue began ((block : ℕ) × IsChosen false old block × BeginsBlock block old mid) → OnFalse began (mid ≡ old) → victims mid ≡ 1 → TakesVictim (space_of old) (space_of mid)
takes_victim old mid began begun_is none one = ⊎_elim
    (λ is. let b : (block : ℕ) × IsChosen false old block × BeginsBlock block old mid = OnTrue_at is begun_is in inr (begun b.0 old mid b.2, begun_gains b.0 old mid b.2 (b.1.some refl)))
    (λ is. let e = OnFalse_at is none in inl (victim_one old (ap victims (sym e) ∙ one), ap space_of e))
    (cases_Bool began)

-- what a stop leaves of the pages there is what it leaves of those before
pub tried_from : {shape : Shape} {bytes : ℕ → List ℕ} {n : NamedPage} {c0 c : Stored} (old mid : Physical) (t : PendingTable) → mid.held ≡ old.held → mid.pairs ≡ old.pairs → LeavesTried shape (names_of mid) bytes n c0 c → LeavesTried shape (names_with old t) bytes n c0 c
tried_from {shape} {bytes} {n} {c0} {c} old mid t held pairs l = record {
  same_virtual = l.same_virtual;
  holds = λ p page is. l.holds p page (here p ∙ is);
  pages = record {
    spare = l.pages.spare;
    from = l.pages.from;
    below = l.pages.below;
    held = λ p page is. l.pages.held p page (here p ∙ is);
    own = λ m page is. l.pages.own m page (there m ∙ is);
    stale = l.pages.stale;
    few = l.pages.few;
    at_names = λ m page is. l.pages.at_names m page (there m ∙ is);
  };
  others = λ p. by p (l.others p);
}
  where
    here : (p : ℕ) → live_page (held_at mid p) ≡ live_page (held_at old p)
    here p = ap (λ (l : List (Option Held)). live_page (get_or l p None)) held

    there : (m : ℕ) → live_page (held_at mid (resolve mid.pairs m)) ≡ live_page (held_at old (resolve old.pairs m))
    there m = λ i. live_page (get_or (held i) (resolve (pairs i) m) None)

    led_own : (p : ℕ) → resolve mid.pairs p ≡ p → resolve old.pairs p ≡ p
    led_own p own = ap (λ ps. resolve ps p) (sym pairs) ∙ own

    by : (p : ℕ) → IsOutcomeOfWrite shape (names_of mid) n c0 c p → IsOutcomeOfWrite shape (names_with old t) n c0 c p
    by p (inl same) = inl same
    by p (inr (inl gone)) = inr (inl (record { dead = sym (live_page_here p) ∙ gone.0.dead; own = ap (λ ps. resolve ps p) (sym pairs) ∙ gone.0.own }, gone.1))
      where
        live_page_here : (p : ℕ) → live_page (held_at mid p) ≡ live_page (held_at old p)
        live_page_here p = ap (λ (l : List (Option Held)). live_page (get_or l p None)) held
    by p (inr (inr new)) = inr (inr (record { low = new.0.low; high = new.0.high; dead = sym (live_page_here p) ∙ new.0.dead; own = ap (λ ps. resolve ps p) (sym pairs) ∙ new.0.own }, new.1))
      where
        live_page_here : (p : ℕ) → live_page (held_at mid p) ≡ live_page (held_at old p)
        live_page_here p = ap (λ (l : List (Option Held)). live_page (get_or l p None)) held
