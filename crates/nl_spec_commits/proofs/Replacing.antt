-- The metadata changes between two calls, over a device that is only read.
use Rattle.std.proofs.Common.{◌≡◌, Bool, true, false, not, cond, List, [], ◌∷◌, ◌++◌, map, refl, sym, ap, subst, ◌∙◌, ℕ}
use Rattle.std.proofs.lemmas.List.{append-nil, append_assoc}
use Rattle.nl_field.specs.Pointers.{is_none_pointer}
use Rattle.nl_field.specs.declared.pointer.Pointer.{Pointer}
use Rattle.nl_field.specs.declared.pointer.Tag.{Tag}
use Rattle.nl_field.specs.declared.shape.Shape.{Shape}
use Rattle.nl_iface.specs.Calls.{OnlyReads}
use Rattle.nl_iface.specs.Device.{IsVolumeShape}
use Rattle.nl_iface.specs.Holders.{tagged}
use Rattle.nl_iface.specs.Names.{Names}
use Rattle.nl_iface.specs.declared.counts.Counts.{Ghosts}
use Rattle.nl_spec_holders.specs.Holding.{Holding}
use Rattle.nl_spec_holders.specs.Laws.{PreservesHolding}
use Rattle.nl_spec_holders.proofs.LawProofs.{cut_keeps, install_keeps}
use Rattle.nl_journal.specs.Progress.{Progress}
use Rattle.nl_meta.specs.Pages.{Pages}
use Rattle.nl_meta.specs.PointerLists.{shown, tagged_in}
use Rattle.nl_meta_running.specs.Running.{running_on}
use Rattle.nl_meta_running.proofs.Holds.{bounds-of}
use Rattle.nl_journal_commit.specs.Holding.{running_holders}
use Rattle.nl_journal_commit.specs.Standing.{IsJournaled}
use Rattle.nl_spec_commits.specs.Changes.{CuttingKeepsHeld, GainsEach, InstallingKeepsHeld, LosesEach, NamesKeepHeld, ReadingKeepsHeld, ReplacingKeepsHeld, SuperPageKeepsHeld, given_up}
use Rattle.nl_spec_commits.specs.Held.{IsHeldVolume}
use Rattle.nl_spec_commits.specs.Steps.{holding_with}
use Rattle.nl_spec_commits.proofs.Freezing.{super_pages_hold}
use Rattle.nl_spec_commits.proofs.Kept.{keeps_then, tagged_same}
use Rattle.nl_spec_commits.proofs.Losing.{runs_of_lists}
use Rattle.nl_spec_commits.proofs.Steps.{step_keeps_held}

-- ---- who holds pages

keeps_all : (v : Holding) → PreservesHolding v v
keeps_all v = record { holds = λ h. h; committed = λ h c. c }

-- each page that leaves awaits its free
cut_each : (gone : List (Tag × Pointer)) (v : Holding) (running : List (Tag × Pointer)) → LosesEach gone v.running running
    → PreservesHolding v (record v { running = running; freeing = v.freeing ++ map tagged gone })
cut_each [] v running same =
    subst (λ (r : List (Tag × Pointer)). PreservesHolding v (record v { running = r; freeing = v.freeing ++ [] })) (sym same)
    (subst (λ (f : List Pointer). PreservesHolding v (record v { freeing = f })) (sym (append-nil v.freeing)) (keeps_all v))
cut_each (x ∷ gone) v running (mid, loses, rest) =
    keeps_then (cut_keeps v x mid loses)
    (subst (λ (f : List Pointer). PreservesHolding (record v { running = mid; freeing = v.freeing ++ x.1 ∷ [] }) (record v { running = running; freeing = f })) (append_assoc v.freeing (x.1 ∷ []) (map tagged gone))
    (cut_each gone (record v { running = mid; freeing = v.freeing ++ x.1 ∷ [] }) running rest))

-- each page that comes was in flight
install_each : (come : List (Tag × Pointer)) (v : Holding) (running flight : List (Tag × Pointer)) → LosesEach come v.flight flight → GainsEach come v.running running
    → PreservesHolding v (record v { running = running; flight = flight })
install_each [] v running flight none same =
    subst (λ (r : List (Tag × Pointer)). PreservesHolding v (record v { running = r; flight = flight })) (sym same) (subst (λ (f : List (Tag × Pointer)). PreservesHolding v (record v { flight = f })) (sym none) (keeps_all v))
install_each (x ∷ come) v running flight (less, loses, fewer) (more, gains, others) =
    keeps_then (install_keeps v x more less loses gains) (install_each come (record v { running = more; flight = less }) running flight fewer others)

-- ---- a volume

module _ {D : Type 0} (g : Ghosts D) (s t : D) (p : Progress) (pages now : Pages) (flight : List (Tag × Pointer)) (freeing : List Pointer) (volume : IsVolumeShape (g.shape s)) (j : IsJournaled g s p pages)
    {leaving : ℕ} (h : IsHeldVolume g s p pages flight freeing leaving) (reads : OnlyReads g s t) (same : now.frozen ≡ pages.frozen) where
  -- the names of the device stay
  meta_keeps_held : (later : List (Tag × Pointer)) (waiting : List Pointer)
      → ((v : Holding) → PreservesHolding (record v { running = running_holders g s pages; flight = flight; freeing = freeing }) (record v { running = running_holders g t now; flight = later; freeing = waiting }))
      → IsHeldVolume g t p now later waiting leaving
  meta_keeps_held later waiting keeps = step_keeps_held g s t p pages now flight later freeing waiting _ volume j h reads.medium.virtual same
      (λ v is. subst (λ (n : Names). PreservesHolding (holding_with g s pages flight freeing v) (record v { names = n; running = running_holders g t now; flight = later; freeing = waiting }))
      (sym reads.names) (keeps (record v { names = g.names s })))

pub replacing_keeps_held : {D : Type 0} (g : Ghosts D) → ReplacingKeepsHeld g
replacing_keeps_held g s t p pages now flight later gone come between freeing leaving volume j h reads same loses gains flown =
    meta_keeps_held g s t p pages now flight freeing volume j h reads same later (freeing ++ map tagged gone)
    (λ v.
    let before = record v { running = running_holders g s pages; flight = flight; freeing = freeing } in
    keeps_then (cut_each gone before between loses)
    (install_each come (record v { running = between; flight = flight; freeing = freeing ++ map tagged gone }) (running_holders g t now) later flown gains))

pub cutting_keeps_held : {D : Type 0} (g : Ghosts D) → CuttingKeepsHeld g
cutting_keeps_held g s t p pages now flight later gone come freeing leaving volume j h reads same r flown =
    replacing_keeps_held g s t p pages now flight later gone come (r.front ++ r.behind) freeing _ volume j h reads same
    (subst (λ (l : List (Tag × Pointer)). LosesEach gone l (r.front ++ r.behind)) (sym r.was) (runs_of_lists.lost r.front gone r.behind))
    (subst (λ (l : List (Tag × Pointer)). GainsEach come (r.front ++ r.behind) l) (sym r.is) (runs_of_lists.gained r.front come r.behind)) flown

-- what stands for no pointer
pub shown_plain : (tag : Tag) (p : Pointer) → map tagged (shown tag p) ≡ given_up p
shown_plain tag p = elim (is_none_pointer p) as (λ b. map tagged (cond b [] ((tag, p) ∷ [])) ≡ cond (not b) (p ∷ []) []) [ true ↦ refl | false ↦ refl ]

pub shown_some : (tag : Tag) (p : Pointer) → is_none_pointer p ≡ false → shown tag p ≡ (tag, p) ∷ []
shown_some tag p some = ap (λ (b : Bool). cond b [] ((tag, p) ∷ [])) some

pub installing_keeps_held : {D : Type 0} (g : Ghosts D) → InstallingKeepsHeld g
installing_keeps_held g s t p pages now flight later freeing tag was to leaving volume j h reads same one some loses =
    subst (λ (f : List Pointer). IsHeldVolume g t p now later (freeing ++ f) leaving) (shown_plain tag was)
    (cutting_keeps_held g s t p pages now flight later (shown tag was) (shown tag to) freeing _ volume j h reads same
    (record { front = one.front; behind = one.behind; was = one.was; is = one.is })
    (subst (λ (l : List (Tag × Pointer)). LosesEach l flight later) (sym (shown_some tag to some)) (later, loses, refl)))

-- ---- no pointer changes

pub names_keep_held : {D : Type 0} (g : Ghosts D) → NamesKeepHeld g
names_keep_held g s t p pages now flight freeing leaving volume j h reads same stay = meta_keeps_held g s t p pages now flight freeing volume j h reads same flight freeing
    (λ v. subst (λ (r : List (Tag × Pointer)). PreservesHolding (record v { running = running_holders g s pages; flight = flight; freeing = freeing }) (record v { running = r; flight = flight; freeing = freeing }))
    (sym stay) (keeps_all (record v { running = running_holders g s pages; flight = flight; freeing = freeing })))

pub reading_keeps_held : {D : Type 0} (g : Ghosts D) → ReadingKeepsHeld g
reading_keeps_held g s t p pages now flight freeing leaving volume j h on = names_keep_held g s t p pages now flight freeing _ volume j h on.reads on.frozen
    (ap (λ (x : Shape). tagged_in x (running_on g t now)) on.reads.medium.virtual.same_shape ∙ tagged_same (g.shape s) (bounds-of (g.shape s) volume) (running_on g s pages) (running_on g t now) on.needed)

pub super_page_keeps_held : {D : Type 0} (g : Ghosts D) → SuperPageKeepsHeld g
super_page_keeps_held g s p pages bytes flight freeing leaving volume j h = record {
  holding = h.holding;
  is_of = super_pages_hold g s p pages bytes h.holding volume j h.is_of;
  in_flight = h.in_flight;
  awaits = h.awaits;
  none_due = h.none_due;
  gives_up = h.gives_up;
  holds = h.holds;
  committed = h.committed;
}
