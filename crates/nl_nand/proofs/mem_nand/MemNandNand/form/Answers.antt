use Rattle.std.proofs.Common.{◌≡◌, ◌*◌, None, ap, arith, rules}
use Rattle.nl_nand.specs.Record.{end_of}
use Rattle.nl_nand.proofs.Fresh.{blank, blank_image, begun_history, begun_left}
use Rattle.nl_nand.proofs.Operations.{none_from}
use Rattle.nl_nand.proofs.mem_nand.MemNandNand.form.Goals as goal

pub invariant_of-self-in-Ok-clause-ends_within : goal.invariant_of-self-in-Ok-clause-ends_within
invariant_of-self-in-Ok-clause-ends_within c =
    let none : c.args.self.now.stopped ≡ None = none_from c.args.self.now.stopped (search rules) in
    let zero : end_of c.args.self.now.stopped ≡ 0 = ap end_of none in
    omega (arith, zero)

pub invariant_of-self-in-Ok-clause-history : goal.invariant_of-self-in-Ok-clause-history
invariant_of-self-in-Ok-clause-history c =
    let none : c.args.self.now.stopped ≡ None = none_from c.args.self.now.stopped (search rules) in
    begun_history c.args.self.now.stopped _ _ c.args.self.now.clock none c.new.ensures.entries (blank_image (record { blocks = c.args.blocks; pages = c.args.pages }) c.in-Ok.cells.items c.in-Ok.ensures)

pub returns-in-Ok-clause-erased : goal.returns-in-Ok-clause-erased
returns-in-Ok-clause-erased c done p = blank (record { blocks = c.args.blocks; pages = c.args.pages }) c.in-Ok.cells.items (c.args.blocks * c.args.pages) c.in-Ok.ensures p

pub returns-in-Ok-clause-begins : goal.returns-in-Ok-clause-begins
returns-in-Ok-clause-begins c done m i l =
    let none : c.args.self.now.stopped ≡ None = none_from c.args.self.now.stopped (search rules) in
    begun_left c.args.self.now.stopped _ _ c.args.self.now.clock m i none c.new.ensures.entries l
