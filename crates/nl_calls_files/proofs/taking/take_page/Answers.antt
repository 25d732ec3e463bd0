use Rattle.std.proofs.Common.{◌∙◌, refl, subst, sym}
use Rattle.nl_files.specs.Installing.{Installs}
use Rattle.nl_calls_files.proofs.taking.take_page.Goals as goal
use Rattle.nl_calls_files.proofs.DirtyRoom.{node_has_room, sized_spelled}

pub put-requires-clause-spelled : goal.put-requires-clause-spelled
put-requires-clause-spelled c = sized_spelled c.install.new.rec c.args.size c.install.ensures.installed.stores.file c.requires.size

pub returns-clause-taken : goal.returns-clause-taken
returns-clause-taken c =
    let i = c.install.ensures.installed in
    record {
      installed = c.install.new.rec;
      between = c.install.new.meta;
      installs = subst (λ s. Installs c.args.index c.args.to c.args.rec.now c.install.new.rec c.args.meta.now c.install.new.meta c.args.nodes.now s) (sym c.put.ensures.spaces) i;
      sized = refl;
      puts = c.put.ensures.done (c.put.ensures.room ∙ node_has_room c.args.index c.args.to c.args.rec.now c.install.new.rec c.args.meta.now c.install.new.meta c.args.nodes.now c.install.new.nodes i c.args.ino c.requires.room);
    }
