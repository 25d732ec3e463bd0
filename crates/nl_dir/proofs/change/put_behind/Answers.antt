use Rattle.std.proofs.Common.{ℕ, ◌%◌, ◌∙◌, ap, subst, false}
use Rattle.nl_meta.specs.Nodes.{address_of_place}
use Rattle.nl_dir.specs.Slots.{PutsEntry}
use Rattle.nl_dir.proofs.InsertProofs.{inserts-behind}
use Rattle.nl_dir.proofs.change.put_behind.Goals as goal

pub returns : goal.returns
returns c =
    let rec = c.args.rec.now in
    let place = c.count-place.ensures.value in
    let at = c.address_at.ensures ∙ ap (address_of_place rec) place in
    inserts-behind c.args.meta.now c.put_entry.new.meta rec c.args.entry.now c.requires.directory c.requires.few c.requires.absent c.requires.fresh
    (subst (λ (v : ℕ). PutsEntry v (rec.size % 64) c.args.entry.now false c.args.meta.now c.put_entry.new.meta) at
    (subst (λ (k : ℕ). PutsEntry c.address_at.result (k % 64) c.args.entry.now false c.args.meta.now c.put_entry.new.meta) place c.put_entry.ensures))
