use Rattle.nl_test_device_segments.proofs.Rigs.{kept_addresses}
use Rattle.nl_test_device_segments.proofs.addressed.Rig.write.Goals as goal

pub invariant_of-self : goal.invariant_of-self
invariant_of-self c =
    let e = c.virtual_write.ensures in
    kept_addresses _ _ _ _ c.self.inside.seg c.virtual_write.new.self c.self.invariant e.writes.geometry e.serves.numbers e.serves.spare (e.serves.segment tt)
