use Rattle.std.proofs.Common.{ℕ, ◌-◌, sym, ap, subst, ◌∙◌, Some}
use Rattle.std.specs.Prelude.{slice_get}
use Rattle.nl_meta.proofs.Lists.{some_in}
use Rattle.nl_namespace.specs.Placing.{Enters, IfEntered, IsParent}
use Rattle.nl_namespace.proofs.Chains.{then-on, then-reads, then-runs, then-used}
use Rattle.nl_namespace.proofs.Placed.{file-spot, held-before, placed-at}
use Rattle.nl_namespace.proofs.place.locate.Goals as goal

pub enter-requires-clause-runs : goal.enter-requires-clause-runs
enter-requires-clause-runs g c =
    then-runs g.D.Counts c.args.device.now c.args.meta.now c.walk_to_parent.new.device c.walk_to_parent.new.meta (g.met.D.VirtualPages.numbers c.args.device.now c.requires.formed) c.in-Ok-At.ensures.kept c.requires.runs

pub enter-requires-clause-used : goal.enter-requires-clause-used
enter-requires-clause-used g c =
    let a = subst (IsParent g.D.Counts c.args.device.now c.args.meta.now c.args.path.now) c.in-Ok-At.field-0-is c.in-Ok-At.ensures.parent in
    then-used g.D.Counts c.args.device.now c.args.meta.now c.walk_to_parent.new.device c.walk_to_parent.new.meta (g.met.D.VirtualPages.numbers c.args.device.now c.requires.formed) c.in-Ok-At.ensures.kept c.in-Ok-At.dir a.used

pub returns-in-Ok-Some-clause-spot : goal.returns-in-Ok-Some-clause-spot
returns-in-Ok-Some-clause-spot g c =
    let a = subst (IsParent g.D.Counts c.args.device.now c.args.meta.now c.args.path.now) c.in-Ok-At.field-0-is c.in-Ok-At.ensures.parent in
    let e = subst (Enters g.D.Counts c.walk_to_parent.new.device c.walk_to_parent.new.meta c.in-Ok-At.dir c.bytes.result.now) c.in-Ok-Some.field-0-is c.in-Ok-Some.ensures.entered in
    let n = c.len.ensures.count in
    placed-at g.D.Counts c.args.device.now c.args.meta.now c.walk_to_parent.new.device c.walk_to_parent.new.meta (g.met.D.VirtualPages.numbers c.args.device.now c.requires.formed) c.in-Ok-At.ensures.kept c.args.path.now c.in-Ok-At.dir a c.bytes.result.now c.in-Ok-Some.place
    (c.bytes.ensures ∙ some_in _ a.name (sym c.get-last.ensures ∙ ap (λ (k : ℕ). slice_get c.args.path.now (k - 1)) n ∙ a.last)) e

pub returns-in-Ok-Some-clause-held : goal.returns-in-Ok-Some-clause-held
returns-in-Ok-Some-clause-held g c =
    let a = subst (IsParent g.D.Counts c.args.device.now c.args.meta.now c.args.path.now) c.in-Ok-At.field-0-is c.in-Ok-At.ensures.parent in
    let e = subst (Enters g.D.Counts c.walk_to_parent.new.device c.walk_to_parent.new.meta c.in-Ok-At.dir c.bytes.result.now) c.in-Ok-Some.field-0-is c.in-Ok-Some.ensures.entered in
    let h = subst (IfEntered g.D.Counts c.walk_to_parent.new.device c.walk_to_parent.new.meta c.enter.new.meta) c.in-Ok-Some.field-0-is c.in-Ok-Some.ensures.held in
    held-before g.D.Counts c.args.device.now c.args.meta.now c.walk_to_parent.new.device c.walk_to_parent.new.meta (g.met.D.VirtualPages.numbers c.args.device.now c.requires.formed) c.in-Ok-At.ensures.kept c.args.path.now c.in-Ok-At.dir a c.bytes.result.now c.in-Ok-Some.place c.enter.new.meta e h

pub returns-in-Ok-None-clause-spot : goal.returns-in-Ok-None-clause-spot
returns-in-Ok-None-clause-spot g c =
    let a = subst (IsParent g.D.Counts c.args.device.now c.args.meta.now c.args.path.now) c.in-Ok-At.field-0-is c.in-Ok-At.ensures.parent in
    let e = subst (Enters g.D.Counts c.walk_to_parent.new.device c.walk_to_parent.new.meta c.in-Ok-At.dir c.bytes.result.now) c.in-Ok-None.field-0-is c.in-Ok-None.ensures.entered in
    file-spot g.D.Counts c.args.device.now c.args.meta.now c.walk_to_parent.new.device c.walk_to_parent.new.meta (g.met.D.VirtualPages.numbers c.args.device.now c.requires.formed) c.in-Ok-At.ensures.kept c.args.path.now c.in-Ok-At.dir a e.0 e.1 e.2

pub returns-in-Ok-Some-clause-kept : goal.returns-in-Ok-Some-clause-kept
returns-in-Ok-Some-clause-kept g c =
    then-on g.D.Counts c.args.device.now c.args.meta.now c.walk_to_parent.new.device c.walk_to_parent.new.meta (g.met.D.VirtualPages.numbers c.args.device.now c.requires.formed) c.in-Ok-At.ensures.kept c.enter.new.device c.enter.new.meta c.in-Ok-Some.ensures.kept

pub returns-in-Ok-None-clause-kept : goal.returns-in-Ok-None-clause-kept
returns-in-Ok-None-clause-kept g c =
    then-on g.D.Counts c.args.device.now c.args.meta.now c.walk_to_parent.new.device c.walk_to_parent.new.meta (g.met.D.VirtualPages.numbers c.args.device.now c.requires.formed) c.in-Ok-At.ensures.kept c.enter.new.device c.enter.new.meta c.in-Ok-None.ensures.kept

pub returns-in-Err-enter-clause-kept : goal.returns-in-Err-enter-clause-kept
returns-in-Err-enter-clause-kept g c =
    then-on g.D.Counts c.args.device.now c.args.meta.now c.walk_to_parent.new.device c.walk_to_parent.new.meta (g.met.D.VirtualPages.numbers c.args.device.now c.requires.formed) c.in-Ok-At.ensures.kept c.enter.new.device c.enter.new.meta c.in-Err-enter.ensures.kept

pub returns-in-Err-enter-clause-reads : goal.returns-in-Err-enter-clause-reads
returns-in-Err-enter-clause-reads g c =
    then-reads g.D.Counts c.args.device.now c.args.meta.now c.walk_to_parent.new.device c.walk_to_parent.new.meta (g.met.D.VirtualPages.numbers c.args.device.now c.requires.formed) c.in-Ok-At.ensures.kept c.enter.new.device (Some c.in-Err-enter.stop) c.in-Ok-At.ensures.reads c.in-Err-enter.ensures.reads

pub walk_to_parent-requires-clause-formed : goal.walk_to_parent-requires-clause-formed
walk_to_parent-requires-clause-formed g c = c.requires.formed

pub walk_to_parent-requires-clause-runs : goal.walk_to_parent-requires-clause-runs
walk_to_parent-requires-clause-runs g c = c.requires.runs

pub walk_to_parent-requires-clause-not_root : goal.walk_to_parent-requires-clause-not_root
walk_to_parent-requires-clause-not_root g c = c.requires.not_root

pub enter-requires-clause-formed : goal.enter-requires-clause-formed
enter-requires-clause-formed g c = c.in-Ok-At.ensures.formed

pub returns-in-Ok-Some-clause-formed : goal.returns-in-Ok-Some-clause-formed
returns-in-Ok-Some-clause-formed g c = c.in-Ok-Some.ensures.formed

pub returns-in-Ok-Some-clause-reads : goal.returns-in-Ok-Some-clause-reads
returns-in-Ok-Some-clause-reads g c = c.in-Ok-Some.ensures.reads ∙ c.in-Ok-At.ensures.reads

pub returns-in-Ok-None-clause-formed : goal.returns-in-Ok-None-clause-formed
returns-in-Ok-None-clause-formed g c = c.in-Ok-None.ensures.formed

pub returns-in-Ok-None-clause-reads : goal.returns-in-Ok-None-clause-reads
returns-in-Ok-None-clause-reads g c = c.in-Ok-None.ensures.reads ∙ c.in-Ok-At.ensures.reads

pub returns-in-Err-enter-clause-formed : goal.returns-in-Err-enter-clause-formed
returns-in-Err-enter-clause-formed g c = c.in-Err-enter.ensures.formed

pub returns-in-Ok-No-clause-formed : goal.returns-in-Ok-No-clause-formed
returns-in-Ok-No-clause-formed g c = c.in-Ok-No.ensures.formed

pub returns-in-Ok-No-clause-spot : goal.returns-in-Ok-No-clause-spot
returns-in-Ok-No-clause-spot g c = subst (IsParent g.D.Counts c.args.device.now c.args.meta.now c.args.path.now) c.in-Ok-No.field-0-is c.in-Ok-No.ensures.parent

pub returns-in-Ok-No-clause-kept : goal.returns-in-Ok-No-clause-kept
returns-in-Ok-No-clause-kept g c = c.in-Ok-No.ensures.kept

pub returns-in-Ok-No-clause-reads : goal.returns-in-Ok-No-clause-reads
returns-in-Ok-No-clause-reads g c = c.in-Ok-No.ensures.reads

pub returns-in-Err-clause-formed : goal.returns-in-Err-clause-formed
returns-in-Err-clause-formed g c = c.in-Err.ensures.formed

pub returns-in-Err-clause-kept : goal.returns-in-Err-clause-kept
returns-in-Err-clause-kept g c = c.in-Err.ensures.kept

pub returns-in-Err-clause-reads : goal.returns-in-Err-clause-reads
returns-in-Err-clause-reads g c = c.in-Err.ensures.reads
