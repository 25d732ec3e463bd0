-- Runs of pages: one page further, and that they have each page once.
use Rattle.std.proofs.Common.{◌≡◌, ℕ, ◌+◌, ◌∙◌, Bool, true, false, cond, List, [], ◌∷◌, ◌++◌, map, refl, sym, ap, subst, arith}
use Rattle.std.specs.Prelude.{◌==◌, if◌then◌else◌, flat_map, replicate}
use Rattle.std.proofs.lemmas.Bool.Decides.{nat_tests}
use Rattle.std.proofs.lemmas.List.{append_assoc, replicate_more}
use Rattle.nl_map_pages.specs.declared.look.Look.{Look}
use Rattle.nl_map_pages.specs.declared.look.Mark.{Mark}
use Rattle.nl_map_pages.specs.declared.look.Mark.TheVariants.{Erased, Dead, Live, OldCopy, Uncorrectable, Unjudged}
use Rattle.nl_map.specs.Runs.{AreInARow, Run, RunsCover, runs, runs_after}
use Rattle.nl_map.specs.Text.{is_alike, mark_code}

module _ (mark : Mark) (from count : ℕ) (l : Look) (rest : List Look) where
  abbrev pub ended : Run
  ended = record { mark = mark; from = from; count = count }

  pub run_goes_on : is_alike mark l.mark ≡ true → runs_after mark from count (l ∷ rest) ≡ runs_after mark from (count + 1) rest
  run_goes_on is = ap (λ b. cond b (runs_after mark from (count + 1) rest) (ended ∷ runs_after l.mark (from + count) 1 rest)) is

  pub run_ends : is_alike mark l.mark ≡ false → runs_after mark from count (l ∷ rest) ≡ ended ∷ runs_after l.mark (from + count) 1 rest
  run_ends is = ap (λ b. cond b (runs_after mark from (count + 1) rest) (ended ∷ runs_after l.mark (from + count) 1 rest)) is

-- ---- each page once

abbrev mark_of : ℕ → Mark
mark_of code =
    if code == 46 then Erased else if code == 45 then Dead else if code == 35 then Live else if code == 111 then OldCopy else if code == 120 then Uncorrectable else Unjudged

mark_back : (mark : Mark) → mark_of (mark_code mark) ≡ mark
mark_back Erased = refl
mark_back Dead = refl
mark_back Live = refl
mark_back OldCopy = refl
mark_back Uncorrectable = refl
mark_back Unjudged = refl

one_number : (n m : ℕ) → (n == m) ≡ true → n ≡ m
one_number n m e = grind (arith, nat_tests)

alike_is : (mark other : Mark) → is_alike mark other ≡ true → mark ≡ other
alike_is mark other is = sym (mark_back mark) ∙ ap mark_of (one_number (mark_code mark) (mark_code other) is) ∙ mark_back other

abbrev marks_of : List Look → List Mark
marks_of looks = map (λ (l : Look). l.mark) looks

abbrev pages_of : List Run → List Mark
pages_of rs = flat_map (λ (r : Run). replicate r.count r.mark) rs

marks_after : (mark : Mark) (from count : ℕ) (looks : List Look) → pages_of (runs_after mark from count looks) ≡ replicate count mark ++ marks_of looks
marks_after mark from count [] = refl
marks_after mark from count (l ∷ looks) = by (is_alike mark l.mark) refl (marks_after mark from (count + 1) looks) (marks_after l.mark (from + count) 1 looks)
  where
    by : (b : Bool) → is_alike mark l.mark ≡ b → pages_of (runs_after mark from (count + 1) looks) ≡ replicate (count + 1) mark ++ marks_of looks → pages_of (runs_after l.mark (from + count) 1 looks) ≡ l.mark ∷ marks_of looks
        → pages_of (runs_after mark from count (l ∷ looks)) ≡ replicate count mark ++ marks_of (l ∷ looks)
    by true is goes_on ends =
        ap pages_of (run_goes_on mark from count l looks is)
        ∙ goes_on
        ∙ ap (λ (xs : List Mark). xs ++ marks_of looks) (sym (replicate_more count mark))
        ∙ append_assoc (replicate count mark) (mark ∷ []) (marks_of looks)
        ∙ ap (λ (m : Mark). replicate count mark ++ m ∷ marks_of looks) (alike_is mark l.mark is)
    by false is goes_on ends =
        ap pages_of (run_ends mark from count l looks is) ∙ ap (λ (xs : List Mark). replicate count mark ++ xs) ends

row_after : (mark : Mark) (from count : ℕ) (looks : List Look) → AreInARow from (runs_after mark from count looks)
row_after mark from count [] = (refl, tt)
row_after mark from count (l ∷ looks) = by (is_alike mark l.mark) refl (row_after mark from (count + 1) looks) (row_after l.mark (from + count) 1 looks)
  where
    by : (b : Bool) → is_alike mark l.mark ≡ b → AreInARow from (runs_after mark from (count + 1) looks) → AreInARow (from + count) (runs_after l.mark (from + count) 1 looks) → AreInARow from (runs_after mark from count (l ∷ looks))
    by true is goes_on ends = subst (AreInARow from) (sym (run_goes_on mark from count l looks is)) goes_on
    by false is goes_on ends = subst (AreInARow from) (sym (run_ends mark from count l looks is)) (refl, ends)

pub covers : (looks : List Look) → RunsCover looks
covers [] = record { in_a_row = tt; marks = refl }
covers (l ∷ looks) = record { in_a_row = row_after l.mark 0 1 looks; marks = marks_after l.mark 0 1 looks }
