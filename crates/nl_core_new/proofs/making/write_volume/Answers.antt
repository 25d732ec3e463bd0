use Rattle.std.proofs.Common.{ap, arith, refl}
use Rattle.nl_field.specs.Inode.{are_filled, is_inode_of_kind}
use Rattle.nl_field.specs.declared.shape.Shape.{Shape}
use Rattle.nl_meta_running.proofs.Holds.{bounds-of}
use Rattle.nl_core_new.proofs.making.write_volume.Goals as goal

pub into_page-requires-clause-spelled : goal.into_page-requires-clause-spelled
unfolding is_inode_of_kind are_filled
into_page-requires-clause-spelled g c = refl

pub put-requires-clause-within : goal.put-requires-clause-within
put-requires-clause-within g c =
    let bounds = bounds-of (g.D.Counts.shape c.args.device.now) c.device_stands.ensures.volume in
    let all = bounds.addresses in
    let some = bounds.some_meta in
    omega (arith, all, some)

pub put-requires-2-clause-within : goal.put-requires-2-clause-within
put-requires-2-clause-within g c =
    let bounds = bounds-of (g.D.Counts.shape c.args.device.now) c.device_stands.ensures.volume in
    let all = bounds.addresses in
    let same = ap (λ (h : Shape). h.vaddrs) c.put.ensures.device.shape in
    omega (arith, all, same)
