use Rattle.std.proofs.Common.{ℕ, List, ap, length, subst, ◌∙◌}
use Rattle.nl_field.specs.declared.shape.Shape.{Shape}
use Rattle.nl_device.specs.Device.{HasFound}
use Rattle.nl_device.proofs.FormedLaws.{no_pairs, same_kept}
use Rattle.nl_device.proofs.formed_laws.formed_devices.Goals as goal

pub returns-clause-called : goal.returns-clause-called
returns-clause-called g c s formed none = formed.names.pairs ∙ ap (λ (ps : List (ℕ × ℕ)). length ps) (no_pairs s.pseg s.pending formed.called none)

pub returns-clause-kept : goal.returns-clause-kept
returns-clause-kept g c s t a b shape found = same_kept s.shape s.kept t.kept s.next t.next a.found (subst (λ (h : Shape). HasFound h t.kept t.next) shape b.found) found
