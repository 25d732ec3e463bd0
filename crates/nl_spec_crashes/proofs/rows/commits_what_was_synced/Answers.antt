use Rattle.std.proofs.Common.{◌≡◌, ℕ, ◌≤◌, sym, subst, ◌⊎◌, inl, inr, arith}
use Rattle.nl_tree.specs.Order.{SyncPoint}
use Rattle.nl_field.specs.Members.{Has}
use Rattle.nl_spec_crashes.specs.Examples.{two_made}
use Rattle.nl_spec_crashes.proofs.rows.commits_what_was_synced.Goals as goal

few : (s : SyncPoint) → Has two_made.syncs s → s.upto ≤ 1
few s (inl e) = subst (λ (x : SyncPoint). x.upto ≤ 1) e (omega arith)
few s (inr none) = absurd none

pub returns : goal.returns
returns c = few
