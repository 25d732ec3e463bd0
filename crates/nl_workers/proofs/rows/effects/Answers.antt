use Rattle.std.proofs.Common.{◌≡◌, ℕ, true, false, List, [], ◌∷◌, ◌++◌, refl, sym, ap, ◌∙◌, arith}
use Rattle.nl_tree.specs.declared.turn.Stage.TheVariants.{Staged, Whole}
use Rattle.nl_turns.specs.Served.{stage_entry}
use Rattle.nl_turns.specs.declared.entry.Entry.{Entry}
use Rattle.nl_workers.proofs.rows.effects.Goals as goal

last_of_one : (x last : Entry) (before : List Entry) → x ∷ [] ≡ before ++ last ∷ [] → last ≡ x
last_of_one x last [] e = cc e
last_of_one x last (b ∷ []) e = absurd (cc e)
last_of_one x last (b ∷ c ∷ bs) e = absurd (cc e)

of_none : (last : Entry) (before : List Entry) → [] ≡ before ++ last ∷ [] → ⊥
of_none last [] e = cc e
of_none last (b ∷ bs) e = cc e

apart : (n : ℕ) → n ≡ 2 → n ≡ 1 → ⊥
apart n two one = omega arith

pub returns-clause-staged : goal.returns-clause-staged
returns-clause-staged c = record { staged = λ some. absurd (omega arith); effect = λ some. record { before = []; last = stage_entry 1 Whole; split = refl; line_is = refl; whole = refl } }

pub returns-clause-not_begun : goal.returns-clause-not_begun
returns-clause-not_begun c h = let e = h.effect (omega arith) in of_none e.last e.before e.split

pub returns-clause-not_whole : goal.returns-clause-not_whole
returns-clause-not_whole c h =
    let e = h.effect (omega arith) in
    let more : true ≡ false = ap (λ (x : Entry). x.more) (sym (last_of_one (stage_entry 1 Staged) e.last e.before e.split)) ∙ e.whole in
    cc more

pub returns-clause-other_line : goal.returns-clause-other_line
returns-clause-other_line c h =
    let e = h.effect (omega arith) in
    apart e.last.staged (ap (λ (x : Entry). x.staged) (last_of_one (stage_entry 2 Whole) e.last e.before e.split)) e.line_is

pub returns-clause-other_seat : goal.returns-clause-other_seat
returns-clause-other_seat c h = let e = h.effect (omega arith) in of_none e.last e.before e.split
