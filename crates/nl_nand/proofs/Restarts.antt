-- What a medium in memory is after a restart.
use Rattle.std.proofs.Common.{◌≡◌, ◌⊎◌, inl, inr, ℕ, ◌-◌, ◌<◌, ◌≤◌, List, Option, Some, None, MatchOption, refl, sym, ap, subst, IsTrue}
use Rattle.std.specs.Option.{option_map}
use Rattle.std.proofs.lemmas.Bool.{cases_lt}
use Rattle.nl_field.specs.Page.{Page, uncorrectable, Image, page_at, is_image}
use Rattle.nl_nand.specs.Nand.{Cut}
use Rattle.nl_nand.specs.Stop.{CutShort, IsCrashImage, outcome_of, page_after}
use Rattle.nl_nand.specs.Record.{image_of, logged, is_history, IsCrashState}
use Rattle.nl_nand.specs.RecordLaws.{history_is, history_now, now_left}
use Rattle.nl_nand.specs.ImageLaws.{cut_fits}
use Rattle.nl_nand.specs.CutCells.{CellsAreCut, AreCrashCells}
use Rattle.nl_nand.specs.Memory.{cut_short}
use Rattle.nl_nand.specs.declared.geometry.Geometry.{Geometry}
use Rattle.nl_nand.specs.declared.cell.Cell.{Cell}
use Rattle.nl_nand.specs.declared.record.Entry.{Entry}
use Rattle.nl_nand.specs.declared.interrupted.Interrupted.{Interrupted}
use Rattle.nl_nand.specs.declared.stop.Outcome.{Outcome}
use Rattle.nl_nand.specs.declared.stop.Outcome.TheVariants as outcome

is_left_image : (g : Geometry) (s : CutShort) (olds news : List Cell) → CellsAreCut s.low s.high s.value s.how olds news → IsCrashImage s (image_of g olds) (image_of g news)
is_left_image g s olds news cut = record {
  shape = record { same_blocks = refl; same_pages = refl; same_length = cut.size };
  inside = cut.inside;
  outside = cut.outside;
}

one_outcome : (o : Outcome) (value old new : Page) → new ≡ page_after o value old → (new ≡ old) ⊎ ((new ≡ value) ⊎ (new ≡ uncorrectable))
one_outcome outcome.Stays value old new is = inl is
one_outcome outcome.Finished value old new is = inr (inl is)
one_outcome outcome.Lost value old new is = inr (inr is)

-- what a stop leaves is what an operation cut short may leave
pub left_cut : (s : CutShort) (old new : Image) → IsCrashImage s old new → Cut s.low s.high s.value old new
left_cut s old new left = record { shape = left.shape; each = each }
  where
    each : (p : ℕ) → (page_at new p ≡ page_at old p) ⊎ ((s.low ≤ p) × (p < s.high) × ((page_at new p ≡ s.value) ⊎ (page_at new p ≡ uncorrectable)))
    each p = elim (cases_lt p s.low) [
      | inl below ↦ inl (left.outside p (inl below))
      | inr from ↦ elim (cases_lt p s.high) [
        | inr above ↦ inl (left.outside p (inr above))
        | inl within ↦ elim (one_outcome (outcome_of s.how (p - s.low)) s.value (page_at old p) (page_at new p) (left.inside p from within)) [
          | inl same ↦ inl same
          | inr other ↦ inr (from, within, other)
        ]
      ]
    ]

pub restarted : (g : Geometry) (stopped : Option Interrupted) (olds news : List Cell) → AreCrashCells stopped olds news
    → MatchOption (option_map cut_short stopped) (image_of g news ≡ image_of g olds) (λ s. IsCrashImage s (image_of g olds) (image_of g news))
restarted g None olds news same = ap (image_of g) same
restarted g (Some i) olds news cut = is_left_image g (cut_short i) olds news cut

pub restarted_left : (g : Geometry) (stopped : Option Interrupted) (entries : List Entry) (clock : ℕ) (olds news : List Cell) → AreCrashCells stopped olds news
    → IsCrashState (logged stopped clock entries) (image_of g olds) clock clock (image_of g news)
unfolding IsCrashState
restarted_left g None entries clock olds news same = subst (λ l. IsCrashState (logged None clock entries) (image_of g olds) clock clock (image_of g l)) (sym same) (now_left (logged None clock entries) (image_of g olds) clock)
restarted_left g (Some i) entries clock olds news cut = inr (inl (refl, left_cut (cut_short i) (image_of g olds) (image_of g news) (is_left_image g (cut_short i) olds news cut)))

pub restarted_fits : (g : Geometry) (stopped : Option Interrupted) (entries : List Entry) (clock : ℕ) (olds news : List Cell) → AreCrashCells stopped olds news
    → IsTrue (is_history (logged stopped clock entries) (image_of g olds) clock) → IsTrue (is_image (image_of g news))
restarted_fits g None entries clock olds news same history =
    subst (λ l. IsTrue (is_image (image_of g l))) (sym same) (history_now (logged None clock entries) (image_of g olds) clock (history_is (logged None clock entries) (image_of g olds) clock history))
restarted_fits g (Some i) entries clock olds news cut history =
    let told = history_is (logged (Some i) clock entries) (image_of g olds) clock history in
    cut_fits (left_cut (cut_short i) (image_of g olds) (image_of g news) (is_left_image g (cut_short i) olds news cut)) told.1 told.0
