-- What a copy leaves at a stop, and what it leaves where it failed or moved nothing.
use Rattle.std.proofs.Common.{◌≡◌, ◌⊎◌, inl, inr, ⊎_elim, ◌+◌, ◌*◌, ◌<◌, ◌≤◌, ◌∙◌, ℕ, arith, Bool, false, List, Option, Some, None, get_or, length, refl, sym, ap, subst}
use Rattle.std.specs.Bool.{OnFalse, OnTrue}
use Rattle.nl_callbacks.specs.Pending.{PendingTable}
use Rattle.nl_field.specs.CrashStates.{saturated, top}
use Rattle.nl_field.specs.Page.{Image, page_at}
use Rattle.nl_field.specs.declared.shape.Shape.{Shape}
use Rattle.nl_iface.specs.Left.{LeavesTried}
use Rattle.nl_iface.specs.Calls.{KeepsMedium}
use Rattle.nl_iface.specs.Moves.{HasCopied, KeepsCleaning, MovesPage, TakesVictim, copy_of}
use Rattle.nl_iface.specs.declared.counts.Counts.{Ghosts}
use Rattle.nl_iface.specs.Names.{LivePage, SameTables}
use Rattle.nl_iface.specs.Space.{Copied, Space, Wasted}
use Rattle.nl_iface.specs.Stored.{stored_in}
use Rattle.nl_nand.specs.Nand.{ImageOf}
use Rattle.nl_nand.specs.declared.geometry.Geometry.{Geometry}
use Rattle.nl_iface.specs.Counting.{EitherCounted}
use Rattle.nl_pseg.specs.Cleaning.{BeginsBlock, CountedMove, IsChosen, IsMoved, MovesNone}
use Rattle.nl_pseg.specs.declared.cleaned.Copied.{Copied as Answer}
use Rattle.nl_pseg.specs.declared.cleaned.Copied.TheVariants as the
use Rattle.nl_pseg.specs.Effects.{PreservesSegment, PlacesOnImage}
use Rattle.nl_pseg.specs.Pages.{main_of}
use Rattle.nl_pseg.specs.Segment.{Physical, held_at}
use Rattle.nl_pseg.specs.Space.{IsWhole, left_in_victim}
use Rattle.nl_pseg.specs.declared.held.Held.{Held}
use Rattle.nl_vseg.specs.Segment.{Segment}
use Rattle.nl_device.specs.Callbacks.{names_with}
use Rattle.nl_device.specs.Device.{IsDevice}
use Rattle.nl_device.specs.Kept.{KeptPages}
use Rattle.nl_device.specs.Shown.{bytes_at, live_page}
use Rattle.nl_device.specs.Space.{space_of}
use Rattle.nl_iface.specs.Victims.{CopyTicks}
use Rattle.nl_iface.specs.declared.moving.Copying.{Copying}
use Rattle.nl_iface.specs.declared.moving.Copying.TheVariants as now
use Rattle.nl_device.proofs.Forms.{begins}
use Rattle.nl_device.proofs.Idle.{in_hand}
use Rattle.nl_device.proofs.Leaving.{names_in}
use Rattle.nl_device.proofs.Made.{bytes_from}
use Rattle.nl_device.proofs.Moved.{mid_tables, takes_victim, tried_from}
use Rattle.nl_device.proofs.Naming.{leaves_tried, programmed_named}
use Rattle.nl_device.proofs.SpaceSteps.{not_moved, wasted}
use Rattle.nl_device.proofs.Spacing.{pairs_is}

module _ {geometry : Geometry} {tells : Type 0} {image : Image} {shape : Shape} {vseg : Segment} {mid : Physical} {pending : PendingTable} {kept : KeptPages} {next : ℕ} (f : IsDevice geometry tells image shape vseg mid pending kept next) (t : tells) (fits : ImageOf geometry image) (before page : ℕ) (h : Held)
    (was : held_at mid before ≡ Some h) where
  -- the bytes of the page that is moved
  moved_bytes : bytes_at (shape.vblocks * shape.pages) image before ≡ main_of (page_at image before)
  moved_bytes = bytes_from (shape.vblocks * shape.pages) image before (subst (λ n. n ≤ before) (begins f.segments) (f.live.in_segment before h was).0)

  -- each page as it was, or tried with a copy of a live one, or erased for it
  pub copy_left : (old : Physical) → mid.held ≡ old.held → mid.pairs ≡ old.pairs → (c : Image) → ImageOf geometry c → PreservesSegment mid image c ⊎ PlacesOnImage mid page h.tag h.stamp (main_of (page_at image before)) image c
      → (p : ℕ) × (q : LivePage) × ((names_with old pending).live p ≡ Some q) × LeavesTried shape (names_with old pending) (λ r. bytes_at (shape.vblocks * shape.pages) image r) (copy_of q (bytes_at (shape.vblocks * shape.pages) image p)) (stored_in image) (stored_in c)
  copy_left old held pairs c c_fits either = (
    before,
    record { tag = h.tag; stamp = h.stamp },
    ap (λ (l : List (Option Held)). live_page (get_or l before None)) (sym held) ∙ ap live_page was,
    subst (λ (m : List ℕ). LeavesTried shape (names_with old pending) (λ r. bytes_at (shape.vblocks * shape.pages) image r) (record { tag = h.tag; stamp = h.stamp; bytes = m }) (stored_in image) (stored_in c)) (sym moved_bytes)
        (tried_from old mid pending held pairs
        (leaves_tried geometry shape vseg mid image c f.segments fits c_fits f.live (f.medium t).physical_is page h.stamp h.tag (main_of (page_at image before)) f.spare (f.medium t).spare (names_in (f.medium t).pages) either)),
  )

  -- once it was programmed, the copy is there
  pub copy_there : (c : Image) → ImageOf geometry c → PlacesOnImage mid page h.tag h.stamp (main_of (page_at image before)) image c → (stored_in c).named page ≡ Some (record { tag = h.tag; stamp = h.stamp; bytes = bytes_at (shape.vblocks * shape.pages) image before })
  copy_there c c_fits places =
      programmed_named geometry shape vseg mid image c f.segments fits c_fits f.live (f.medium t).physical_is page h.tag h.stamp _ (main_of (page_at image before)) places.shows places.takes
      ∙ (λ i. Some (record { tag = h.tag; stamp = h.stamp; bytes = sym moved_bytes i }))

-- where there are as many pairs no page was moved
pub not_copied : (old new : Physical) (taken : Space) → new.pairs ≡ old.pairs → TakesVictim (space_of old) taken → Copied taken (space_of new) → ⊥
not_copied old new taken pairs takes k = not_moved (space_of old) taken (space_of new) takes k (pairs_is new ∙ (ap (λ (l : List (ℕ × ℕ)). length l) pairs ∙ sym (pairs_is old)))

-- the tables after a copy that failed
pub failed_tables : (old mid new : Physical) (began : Bool) (pending : PendingTable) → OnTrue began ((block : ℕ) × IsChosen false old block × BeginsBlock block old mid) → OnFalse began (mid ≡ old) → MovesNone mid new → SameTables (names_with old pending) (names_with new pending)
failed_tables old mid new began pending begun none m =
    let tables = mid_tables old mid began begun none in
    record {
      live = λ q. ap (λ (l : List (Option Held)). live_page (get_or l q None)) (m.tables.same_held ∙ tables.0);
      pairs = m.tables.same_pairs ∙ tables.1;
      pending = refl;
      handled = λ n. refl;
      posted = refl;
    }

-- the numbers of the space after a copy that failed
pub failed_space : (old mid new : Physical) (began : Bool) → OnTrue began ((block : ℕ) × IsChosen false old block × BeginsBlock block old mid) → OnFalse began (mid ≡ old) → MovesNone mid new → IsWhole mid → IsWhole new → (left_in_victim mid ≡ 0 → ⊥) → TakesVictim (space_of old) (space_of mid) × Wasted (space_of mid) (space_of new)
failed_space old mid new began begun none m was is some =
    let one = in_hand mid was some in
    (takes_victim old mid began begun none one, wasted mid new m was is one)

-- the counts of failures after a copy
pub copy_counted : {M : Type 0} {clock reads writes : M → ℕ} {clean : Type 0} {old new : M} {answer : Answer} → CountedMove clock reads writes clean old new answer
    → {failed exact : Type 0} → (failed → answer ≡ the.Fault) → (answer ≡ the.Fault → failed) → EitherCounted exact (reads old) (reads new) (writes old) (writes new) failed
copy_counted n to from = record {
  reads_never_fall = n.reads;
  writes_never_fall = n.writes;
  cause = λ fault. n.failed (to fault);
  stays = λ exact un. n.well (λ fault. un (from fault));
}

-- where a victim was begun that has no live page, no page was moved
pub begun_medium : {D : Type 0} (g : Ghosts D) {old new : D} → (MovesPage g old new → ⊥) → HasCopied g old new → KeepsMedium g old new
begun_medium g un (inl moves) = absurd (un moves)
begun_medium g un (inr began) = began.0.medium

-- a medium that is kept is kept in cleaning
pub still_cleans : {D : Type 0} (g : Ghosts D) {old new : D} → KeepsMedium g old new → KeepsCleaning g old new
still_cleans g m = record { virtual = m.virtual; bytes = λ t q page is. m.bytes t q; clean = m.clean; next_stamp = m.next_stamp; clock = let e = m.clock in omega (arith, e) }

-- what it finishes
pub copy_ticks : {D : Type 0} (g : Ghosts D) {old new : D} {M : Type 0} {clock reads writes : M → ℕ} {clean : Type 0} {m n : M} {answer : Answer} → CountedMove clock reads writes clean m n answer → clock m ≡ g.clock old → clock n ≡ g.clock new
    → (g.clean old → clean) → (MovesPage g old new → IsMoved answer) → ((MovesPage g old new → ⊥) → (IsMoved answer → ⊥) ⊎ (g.clock new ≡ g.clock old)) → CopyTicks g old new
copy_ticks g {old} {new} {M} {clock} counts was is clean moved none = record {
  never_falls = (let later = counts.later in omega (arith, later, was, is));
  at_most_two = (let few = counts.few in omega (arith, few, was, is));
  moved = λ m low. (let less = counts.moved (moved m) (subst (λ x. x < top) (sym was) low) in omega (arith, less, was, is));
  program_alone = λ c m. sym is ∙ (counts.one (clean c) (moved m) ∙ ap (λ x. saturated (x + 1)) was);
  none_moved = λ c un. ⊎_elim (λ unmoved. sym is ∙ (counts.none (clean c) unmoved ∙ was)) (λ same. same) (none un);
}

-- which numbers a copy lost
abbrev pub lost_wanted : Copying → ℕ
lost_wanted now.Did = 0
lost_wanted now.Nothing = 0
lost_wanted (now.Lost w f) = w
lost_wanted now.Fault = 0

abbrev pub lost_found : Copying → ℕ
lost_found now.Did = 0
lost_found now.Nothing = 0
lost_found (now.Lost w f) = f
lost_found now.Fault = 0
