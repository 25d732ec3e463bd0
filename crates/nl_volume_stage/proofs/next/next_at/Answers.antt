use Rattle.std.proofs.Common.{◌+◌, inl, inr, ⊎_elim, refl}
use Rattle.std.proofs.lemmas.Bool.{cases_lt}
use Rattle.nl_field.specs.Numbers.{max_file_size}
use Rattle.nl_calls_files.proofs.Directories.{dir-kind}
use Rattle.nl_volume_stage.proofs.Own.{generation_of}
use Rattle.nl_volume_stage.proofs.next.next_at.Goals as goal

pub returns-in-Some-clause-left : goal.returns-in-Some-clause-left
returns-in-Some-clause-left g c = ((c.in-Ok.rec, record { is_node = c.in-Ok.ensures.node.before; is_file = c.in-File.is }), c.in-Some.ensures.within refl)

pub returns-in-None-clause-left : goal.returns-in-None-clause-left
returns-in-None-clause-left g c = ⊎_elim (λ far. inr (inl far)) (λ within. inr (inr (c.in-None.ensures.none refl within))) (cases_lt max_file_size (c.args.from + c.args.len))

pub returns-in_default-clause-left : goal.returns-in_default-clause-left
returns-in_default-clause-left g c = inl (c.in-Ok.rec, c.in-Ok.ensures.node.before, dir-kind c.in-Ok.rec.kind c.in_default.not-File c.in-Ok.ensures.node.before.used)

pub returns-in-Some-clause-own : goal.returns-in-Some-clause-own
returns-in-Some-clause-own g c = record { ino = refl; generation = generation_of g.D.Counts c.args.core.now c.args.ino c.in-Ok.rec c.in-Ok.ensures.node.before }
