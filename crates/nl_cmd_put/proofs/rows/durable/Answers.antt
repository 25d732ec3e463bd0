use Rattle.std.proofs.Common.{◌≡◌, ◌≤◌, ◌⊎◌, ℕ, Option, None, Some, [], ap, refl, inl, inr, arith}
use Rattle.nl_tree.specs.Order.{SyncPoint}
use Rattle.nl_tree.specs.declared.call.Call.{Call}
use Rattle.nl_tree.specs.declared.call.Call.TheVariants.{Create, Sync}
use Rattle.nl_tree.specs.declared.reply.Reply.TheVariants.{Synced}
use Rattle.nl_spec_headline.specs.Course.{RepliedLine}
use Rattle.nl_cmd_course.specs.Asking.{line_of}
use Rattle.nl_cmd_put.proofs.rows.durable.Goals as goal

pub returns-clause-within : goal.returns-clause-within
returns-clause-within c = record { sync = record { upto = 2; moment = 9 }; listed = inl refl; final = record { line = line_of 3 Sync; reply = Synced 2 9; bytes = [] }; is_final = refl; is_sync = (refl, refl); all = omega arith; moment = (omega arith, omega arith) }

too_late : (s : SyncPoint) → ((record { upto = 2; moment = 9 } ≡ s) ⊎ ⊥) → 10 ≤ s.moment → ⊥
too_late s (inl same) m = let e = ap (λ (x : SyncPoint). x.moment) same in omega (arith, m, e)
too_late s (inr none) m = none

pub returns-clause-later : goal.returns-clause-later
returns-clause-later c d = too_late d.sync d.listed d.moment.0

pub returns-clause-none : goal.returns-clause-none
returns-clause-none c d = d.listed

abbrev is_create : Call → ℕ
is_create (Create own) = 1
is_create call = 0

pub returns-clause-before_a_call : goal.returns-clause-before_a_call
returns-clause-before_a_call c d =
    let made : 1 ≡ is_create d.final.line.call = ap final_create d.is_final in
    let synced : is_create d.final.line.call ≡ 0 = ap is_create d.is_sync.0 in
    absurd (omega (arith, made, synced))
  where
    final_create : Option RepliedLine → ℕ
    final_create None = 2
    final_create (Some x) = is_create x.line.call
