use Rattle.std.proofs.Common.{◌≡◌, ℕ, refl, arith}
use Rattle.nl_tree.specs.Event.{duty}
use Rattle.nl_tree.specs.declared.turn.Duty.TheVariants.{Commit}
use Rattle.nl_test_script.proofs.order_rows.interleavings.Goals as goal

apart : (x : ℕ) → x ≡ 0 → x ≡ 1 → ⊥
apart x e f = omega arith

pub returns-clause-other_worker : goal.returns-clause-other_worker
returns-clause-other_worker c h = apart 0 refl (h 0 2 (duty Commit) (omega arith) (omega arith) refl).0
