-- One line more of a script that was played so far.
use Rattle.std.proofs.Common.{◌≡◌, ℕ, zero, suc, List, [], ◌∷◌, ◌++◌, ◌+◌, map, take, length, slice_get, Bool, true, Option, Some, None, refl, sym, ap, subst, ◌∙◌, arith}
use Rattle.std.specs.Prelude.{IfSome, is_some}
use Rattle.nl_tree.specs.declared.call.Call.{Call}
use Rattle.nl_tree.specs.declared.call.Line.{Line}

some_line : (a b : Line) → Some a ≡ Some b → a ≡ b
some_line a b e = cc e

-- the calls of the lines before, and that of the line here
calls_to : (lines : List Line) (at : ℕ) (line : Line) → slice_get lines at ≡ Some line
    → map (λ (l : Line). l.call) (take (suc at) lines) ≡ map (λ (l : Line). l.call) (take at lines) ++ line.call ∷ []
calls_to [] at line is = absurd (cc is)
calls_to (l ∷ lines) zero line is = ap (λ (x : Line). x.call ∷ []) (some_line l line is)
calls_to (l ∷ lines) (suc at) line is = ap (λ (cs : List Call). l.call ∷ cs) (calls_to lines at line is)

pub calls_on : (lines : List Line) (at : ℕ) (line : Line) → slice_get lines at ≡ Some line
    → map (λ (l : Line). l.call) (take (at + 1) lines) ≡ map (λ (l : Line). l.call) (take at lines) ++ line.call ∷ []
calls_on lines at line is =
    subst (λ (n : ℕ). map (λ (l : Line). l.call) (take n lines) ≡ map (λ (l : Line). l.call) (take at lines) ++ line.call ∷ []) (one at) (calls_to lines at line is)
  where
    one : (n : ℕ) → suc n ≡ n + 1
    one n = omega arith

pub all_calls : (lines : List Line) (at : ℕ) → at ≡ length lines → map (λ (l : Line). l.call) (take at lines) ≡ map (λ (l : Line). l.call) lines
all_calls [] zero is = refl
all_calls [] (suc at) is = refl
all_calls (l ∷ lines) zero is = absurd (cc is)
all_calls (l ∷ lines) (suc at) is = ap (λ (cs : List Call). l.call ∷ cs) (all_calls lines at (omega (arith, is)))

-- what holds wherever an answer is there
pub if_there : {A : Type 0} (o : Option A) (P : Type 0) → is_some o ≡ true → IfSome o (λ r. P) → P
if_there None P is there = absurd (cc is)
if_there (Some r) P is there = there
