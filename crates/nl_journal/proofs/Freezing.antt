-- The journal stays in order as the dirty pages are frozen.
use Rattle.std.proofs.Common.{◌≡◌, ℕ, zero, suc, ◌<◌, ◌^◌, ◌==◌, if◌then◌else◌, Option, Some, None, List, [], length, refl, sym, ◌∙◌, ap, subst, arith}
use Rattle.std.proofs.lemmas.Bool.{cond-false, ne_eqb}
use Rattle.nl_iface.specs.declared.counts.Counts.{Ghosts}
use Rattle.nl_meta.specs.Committed.{VirtualMap}
use Rattle.nl_meta.specs.Pages.{Frozen, Pages, dirty_pages}
use Rattle.nl_journal.specs.Laws.{FreezesInOrder, FreezingStays}
use Rattle.nl_journal.specs.Progress.{HasNumber, IsPhase, raised}
use Rattle.nl_journal.specs.Standing.{JournalMatchesMap}
use Rattle.nl_journal.specs.Transaction.{place, with_pages}
use Rattle.nl_journal.specs.declared.answers.Phase.{Phase}
use Rattle.nl_journal.specs.declared.answers.Phase.TheVariants.{Header, Image, Commit, Home}
use Rattle.nl_journal.proofs.Counted.{page_beside, page_there}
use Rattle.nl_journal.proofs.Finishing.{with_none}

-- where nothing is dirty the running pages are the frozen ones
pub nothing_dirty : (pages : Pages) (base : VirtualMap) (v : ℕ) → pages.dirty ≡ [] → with_pages (dirty_pages pages) base v ≡ base v
nothing_dirty pages base v none = with_none (dirty_pages pages) base v none

module _ {D : Type 0} (g : Ghosts D) where
  stands : (s : D) (phase : Phase) (number : ℕ) (none frozen : Frozen) → phase ≡ Header → JournalMatchesMap (g.shape s) (g.map s) (g.failed s) (record { number = number; phase = phase }) none
      → JournalMatchesMap (g.shape s) (g.map s) (g.failed s) (record { number = number; phase = phase }) frozen
  stands s Header number none frozen is k = k
  stands s (Image i) number none frozen is k = absurd (let no : ⊥ = cc in no)
  stands s Commit number none frozen is k = absurd (let no : ⊥ = cc in no)
  stands s (Home i) number none frozen is k = absurd (let no : ⊥ = cc in no)

  at_header : (number pages : ℕ) → (if pages == 0 then number else raised number) < 2 ^ 63 → number < 2 ^ 63
  at_header number zero below = below
  at_header number (suc n) below = let h : raised number < 2 ^ 63 = subst (λ k. k < 2 ^ 63) (cond-false (suc n == 0) number (raised number) (ne_eqb (suc n) 0 (λ e. omega (arith, e)))) below in omega (arith, h)

  numbers : (phase : Phase) (number : ℕ) (none frozen : Frozen) → none.addresses ≡ [] → phase ≡ Header → HasNumber (record { number = number; phase = phase }) (length frozen.addresses)
      → HasNumber (record { number = number; phase = phase }) (length none.addresses)
  numbers Header number none frozen nothing is below = subst (λ (xs : List ℕ). HasNumber (record { number = number; phase = Header }) (length xs)) (sym nothing) (at_header number (length frozen.addresses) below)
  numbers (Image i) number none frozen nothing is below = absurd (let no : ⊥ = cc in no)
  numbers Commit number none frozen nothing is below = absurd (let no : ⊥ = cc in no)
  numbers (Home i) number none frozen nothing is below = absurd (let no : ⊥ = cc in no)

  phase_at : (phase : Phase) (pages : ℕ) → phase ≡ Header → IsPhase phase pages
  phase_at Header pages is = tt
  phase_at (Image i) pages is = absurd (let no : ⊥ = cc in no)
  phase_at Commit pages is = absurd (let no : ⊥ = cc in no)
  phase_at (Home i) pages is = absurd (let no : ⊥ = cc in no)

  pub freezes : FreezesInOrder g
  freezes s p none frozen nothing header pages order = record {
    phase = phase_at p.phase (length frozen.addresses) header;
    pages = λ some. pages;
    keeps = λ t below. stands s p.phase p.number none frozen header (order.keeps t (numbers p.phase p.number none frozen nothing header below));
  }

pub freezing : FreezingStays
freezing old new base none frozen clean v =
    nothing_dirty new (with_pages new.frozen base) v clean
    ∙ ap (λ (x : Frozen). with_pages x base v) frozen
    ∙ over (place (dirty_pages old) v) refl
  where
    over : (o : Option ℕ) → place (dirty_pages old) v ≡ o → with_pages (dirty_pages old) base v ≡ with_pages (dirty_pages old) (with_pages old.frozen base) v
    over None is = page_beside (dirty_pages old) base v is ∙ sym (with_none old.frozen base v none) ∙ sym (page_beside (dirty_pages old) (with_pages old.frozen base) v is)
    over (Some i) is = page_there (dirty_pages old) base v i is ∙ sym (page_there (dirty_pages old) (with_pages old.frozen base) v i is)
