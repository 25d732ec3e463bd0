use Rattle.std.proofs.Common.{◌∙◌, sym, ap, List, ◌++◌}
use Rattle.std.proofs.lemmas.List.{append-nil}
use Rattle.nl_field.specs.declared.pointer.Pointer.{Pointer}
use Rattle.nl_meta.specs.Nodes.{pointer_at}
use Rattle.nl_meta.specs.Running.{running_over}
use Rattle.nl_files.proofs.Installed.{stores-done}
use Rattle.nl_files.proofs.Progress.{as_list-none, as_list-some}
use Rattle.nl_files.proofs.installing.replace.Goals as goal

pub returns-in-Some-clause-stored : goal.returns-in-Some-clause-stored
returns-in-Some-clause-stored c = stores-done c.args.index c.args.to c.args.fresh c.args.rec.now c.store.new.rec c.args.meta.now c.store.new.meta c.store.result c.requires.to c.store.ensures

pub returns-in-Some-clause-freeing : goal.returns-in-Some-clause-freeing
returns-in-Some-clause-freeing c = λ device.
    c.add.ensures.items
    ∙ ap (λ (l : List Pointer). c.args.freeing.now.items ++ l) (sym (as_list-some (pointer_at (running_over device c.args.meta.now) c.args.rec.now c.args.index) c.in-Some.pointer (sym c.in-Some.is ∙ c.lookup-had.ensures.running device)))

pub returns-in_default-clause-stored : goal.returns-in_default-clause-stored
returns-in_default-clause-stored c = stores-done c.args.index c.args.to c.args.fresh c.args.rec.now c.store.new.rec c.args.meta.now c.store.new.meta c.store.result c.requires.to c.store.ensures

pub returns-in_default-clause-freeing : goal.returns-in_default-clause-freeing
returns-in_default-clause-freeing c = λ device.
    sym (append-nil c.args.freeing.now.items)
    ∙ ap (λ (l : List Pointer). c.args.freeing.now.items ++ l) (sym (as_list-none (pointer_at (running_over device c.args.meta.now) c.args.rec.now c.args.index) (sym c.in_default.is ∙ c.lookup-had.ensures.running device)))
