use Rattle.std.proofs.Common.{◌≡◌, ◌<◌, ◌≤◌, length, take, drop, ◌++◌, ap, sym, ◌∙◌, arith}
use Rattle.std.proofs.lemmas.Grind.{common_steps}
use Rattle.std.specs.Prelude.{Some}
use Rattle.nl_io.proofs.Rejoin.{rejoin}
use Rattle.nl_io.proofs.mem_source.MemSourceSource.read.Goals as goal

pub returns-clause-bytes : goal.returns-clause-bytes
returns-clause-bytes c =
    let n = c.min-count.result in
    let at = c.self.inside.at in
    let bytes = c.self.inside.bytes in
    let is : c.copy_from_slice.new.self ≡ take n (drop at bytes) = grind (arith, common_steps) in
    let len : length c.copy_from_slice.new.self ≡ n = grind (arith, common_steps) in
    let some : 0 < n = grind (arith, common_steps) in
    let fits : n ≤ length (c.copy_from_slice.new.self ++ drop n c.args.out.now) = grind (arith, common_steps) in
    (some, fits, ap Some (sym (ap (λ s. s.left) c.self.view_is) ∙ sym (rejoin n at bytes c.copy_from_slice.new.self (drop n c.args.out.now) is len)))
