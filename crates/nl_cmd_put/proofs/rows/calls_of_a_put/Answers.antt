use Rattle.std.proofs.Common.{◌≡◌, ◌∷◌, ◌++◌, ℕ, [], refl, ap}
use Rattle.nl_tree.proofs.OnLiterals.{tree_on_literals}
use Rattle.nl_tree.specs.declared.call.Call.{Call}
use Rattle.nl_tree.specs.declared.call.Call.TheVariants.{Create, Rename, Sync}
use Rattle.nl_tree.specs.declared.reply.Reply.{Reply}
use Rattle.nl_tree.specs.declared.reply.Reply.TheVariants.{Done, Fault, Synced}
use Rattle.nl_tree.specs.declared.reply.FaultReply.TheVariants.{Eio}
use Rattle.nl_put_tree.specs.Examples.{a, own}
use Rattle.nl_cmd_course.specs.Asking.{Asked}
use Rattle.nl_cmd_put.specs.Examples.{sync_failed}
use Rattle.nl_cmd_put.proofs.rows.calls_of_a_put.Goals as goal

pub returns-clause-tree : goal.returns-clause-tree
unfolding tree_on_literals
returns-clause-tree c = refl

pub returns-clause-due : goal.returns-clause-due
unfolding tree_on_literals
returns-clause-due c = (refl, (refl, ((2, 9, refl), tt)))

pub returns-clause-not_due : goal.returns-clause-not_due
unfolding tree_on_literals
returns-clause-not_due c is = cc is.0

pub returns-clause-synced : goal.returns-clause-synced
returns-clause-synced c = record { before = (Create own, Done) ∷ (Rename own a, Done) ∷ []; upto = 2; moment = 9; is = refl }

other_end : (before : Asked) (upto moment : ℕ) → sync_failed ≡ before ++ (Sync, Synced upto moment) ∷ [] → ⊥
other_end [] upto moment e = cc e
other_end (x ∷ []) upto moment e = cc e
other_end (x ∷ y ∷ []) upto moment e =
    let last : (Sync, Fault (Eio 1)) ≡ (Sync, Synced upto moment) = cc e in
    let reply : Fault (Eio 1) ≡ Synced upto moment = ap (λ (p : Call × Reply). p.1) last in
    cc reply
other_end (x ∷ y ∷ z ∷ []) upto moment e = cc e
other_end (x ∷ y ∷ z ∷ w ∷ before) upto moment e = cc e

pub returns-clause-not_synced : goal.returns-clause-not_synced
returns-clause-not_synced c is = other_end is.before is.upto is.moment is.is
