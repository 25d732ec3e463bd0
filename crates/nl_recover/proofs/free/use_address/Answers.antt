use Rattle.std.proofs.Common.{arith}
use Rattle.nl_recover.proofs.FreeFacts.{takes-one, takes-outside}
use Rattle.nl_recover.proofs.free.use_address.Goals as goal

pub returns-then-address-shape : goal.returns-then-address-shape
returns-then-address-shape c = takes-outside c.args.shape.now c.args.address c.args.nodes.now c.requires.spaces (λ v low high e. let h = c.if-address-shape.true in omega (arith, h, low, e))

pub returns-then-shape-address : goal.returns-then-shape-address
returns-then-shape-address c = takes-outside c.args.shape.now c.args.address c.args.nodes.now c.requires.spaces (λ v low high e. let h = c.if-shape-address.true in omega (arith, h, high, e))

pub use_pool-requires-clause-from_pool : goal.use_pool-requires-clause-from_pool
use_pool-requires-clause-from_pool c = let h = c.if-address-shape.false in let f = c.requires.spaces.first in omega (arith, h, f)

pub use_pool-requires-clause-in_pool : goal.use_pool-requires-clause-in_pool
use_pool-requires-clause-in_pool c = let p = c.requires.spaces.pool in let h = c.if-shape-address.false in omega (arith, p, h)

pub returns : goal.returns
returns c = takes-one c.args.shape.now c.args.address c.args.nodes.now c.use_pool.new.self c.requires.spaces (let h = c.if-address-shape.false in omega (arith, h)) c.use_pool.ensures
