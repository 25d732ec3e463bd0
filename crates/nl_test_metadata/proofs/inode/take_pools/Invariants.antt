use Rattle.std.proofs.Common.{◌≡◌, length}
use Rattle.nl_test_metadata.proofs.inode.take_pools.Given as goal

abbrev pub invariant-loop : goal.invariant-loop
invariant-loop l = record { nodes : length l.nodes.nodes ≡ 64; first : l.nodes.first ≡ 71; pool : length l.nodes.pool ≡ 32 }
