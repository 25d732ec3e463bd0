use Rattle.std.proofs.Common.{◌≡◌, ◌++◌, drop, refl, ◌∙◌}
use Rattle.nl_field.specs.Spelling.{u32_bytes, u64_bytes}
use Rattle.nl_field.specs.Pointers.{pointer_bytes}
use Rattle.nl_field.proofs.Placing.{put_next}
use Rattle.nl_field.proofs.numbers.put_pointer.Goals as goal

pub returns-clause-bytes : goal.returns-clause-bytes
unfolding pointer_bytes u32_bytes u64_bytes
returns-clause-bytes c =
    let name : c.put_u32.new.out ≡ u32_bytes c.args.pointer.now.name ++ drop 4 c.args.out.now = c.put_u32.ensures in
    let pad : c.put_u32-2.new.out ≡ (u32_bytes c.args.pointer.now.name ++ u32_bytes 0) ++ drop 8 c.args.out.now =
    c.put_u32-2.ensures ∙ rw name (put_next (u32_bytes c.args.pointer.now.name) c.args.out.now (u32_bytes 0) 4 4 refl) in
    c.put_u64.ensures ∙ rw pad (put_next (u32_bytes c.args.pointer.now.name ++ u32_bytes 0) c.args.out.now (u64_bytes c.args.pointer.now.stamp) 8 8 refl)
