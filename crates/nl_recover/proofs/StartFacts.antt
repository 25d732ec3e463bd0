-- What an opening hands out can run.
use Rattle.std.proofs.Common.{◌≡◌, ◌⊎◌, inl, inr, ◌≤◌, length, sym, subst, arith}
use Rattle.nl_iface.specs.declared.counts.Counts.{Ghosts}
use Rattle.nl_journal.specs.Homes.{AreHome, copied}
use Rattle.nl_journal.specs.Outcomes.{bytes_of}
use Rattle.nl_journal.specs.Progress.{units_left}
use Rattle.nl_journal.specs.declared.answers.Phase.{Phase}
use Rattle.nl_journal.specs.declared.answers.Phase.TheVariants.{Header, Home}
use Rattle.nl_meta.specs.Committed.{VirtualMap}
use Rattle.nl_meta.specs.Pages.{Frozen, none_frozen}
use Rattle.nl_recover.specs.Starting.{WalkedStarts}

module _ (phase : Phase) (frozen : Frozen) (due : ((phase ≡ Header) × (frozen ≡ none_frozen)) ⊎ ((phase ≡ Home 0) × (1 ≤ length frozen.addresses))) where
  none-home : (map : VirtualMap) → AreHome frozen (copied phase) map
  none-home map = by due
    where
      none : AreHome frozen 0 map
      none j lt = absurd (let no : ⊥ = omega (arith, lt) in no)

      by : ((phase ≡ Header) × (frozen ≡ none_frozen)) ⊎ ((phase ≡ Home 0) × (1 ≤ length frozen.addresses)) → AreHome frozen (copied phase) map
      by (inl at) = subst (λ (f : Phase). AreHome frozen (copied f) map) (sym at.0) none
      by (inr at) = subst (λ (f : Phase). AreHome frozen (copied f) map) (sym at.0) none

  home-alone : units_left phase (length frozen.addresses) ≤ length frozen.addresses
  home-alone = by due
    where
      by : ((phase ≡ Header) × (frozen ≡ none_frozen)) ⊎ ((phase ≡ Home 0) × (1 ≤ length frozen.addresses)) → units_left phase (length frozen.addresses) ≤ length frozen.addresses
      by (inl at) =
          subst (λ (f : Phase). units_left f (length frozen.addresses) ≤ length frozen.addresses) (sym at.0)
          (subst (λ (l : Frozen). units_left Header (length l.addresses) ≤ length l.addresses) (sym at.1) (omega arith))
      by (inr at) = subst (λ (f : Phase). units_left f (length frozen.addresses) ≤ length frozen.addresses) (sym at.0) (omega arith)

pub walked_starts : {D : Type 0} (g : Ghosts D) → WalkedStarts g
walked_starts g s seen w is none = record {
  runs = is.runs;
  order = is.order none;
  home = λ _. none-home w.journal.phase w.meta.frozen is.restored.due (bytes_of (g.map s));
  frozen = is.restored.runs;
  decided = home-alone w.journal.phase w.meta.frozen is.restored.due;
  super_page = is.super_resident;
  apart = is.apart;
}
