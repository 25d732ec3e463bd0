use Rattle.nl_inode.proofs.FreeLists.{address-back}
use Rattle.nl_test_namespace.proofs.files.has_place.Goals as goal

pub returns-in-Some-clause-same : goal.returns-in-Some-clause-same
returns-in-Some-clause-same c = address-back c.in-Some.vaddr c.args.nodes.now c.take_pool.new.self c.give_pool.new.self c.in-Some.ensures.least.free_itself c.in-Some.ensures.taken c.give_pool.ensures
