use Rattle.std.proofs.Common.{◌≡◌, ◌++◌, ◌+◌, ◌*◌, ◌∙◌, ◌∷◌, List, ℕ, length, length-append, refl, ap, arith}
use Rattle.std.specs.List.{flat_map}
use Rattle.nl_field.specs.Spelling.{u32_bytes, u64_bytes, gap}
use Rattle.nl_field.specs.Pointers.{pointer_bytes}
use Rattle.nl_field.specs.Inode.{inode_bytes, kind_byte}
use Rattle.nl_field.proofs.Placing.{put_last}
use Rattle.nl_field.proofs.Widths.{length-pointer_bytes, length-rows}
use Rattle.nl_field.proofs.inode.InodeRec.spelling.Goals as goal

pub returns-clause-bytes : goal.returns-clause-bytes
unfolding inode_bytes u32_bytes u64_bytes
returns-clause-bytes c =
    let eight : length c.args.self.now.direct ≡ 8 = omega arith in
    let sixteen : length c.args.self.now.addresses ≡ 16 = omega arith in
    let front : List ℕ = kind_byte c.args.self.now.kind ∷ gap 3 ++ u32_bytes c.args.self.now.generation ++ u64_bytes c.args.self.now.size ++ gap 48 in
    let table : List ℕ = flat_map pointer_bytes c.args.self.now.direct in
    let fixed : c.put_u64.new.out ≡ front ++ gap 192 = rw (c.put_u64.ensures, c.put_u32.ensures, c.byte_of.ensures) refl in
    let one : c.put_pointers.new.out ≡ (front ++ table) ++ gap 64 = c.put_pointers.ensures.bytes ∙ rw (eight, fixed) refl in
    let len : length (front ++ table) ≡ 192 = length-append front table ∙ ap (λ (n : ℕ). 64 + n) (length-rows pointer_bytes 16 c.args.self.now.direct length-pointer_bytes ∙ ap (λ (n : ℕ). 16 * n) eight) in
    c.put_u32s.ensures.bytes ∙ rw (one, sixteen) (put_last (front ++ table) (gap 64) (flat_map u32_bytes c.args.self.now.addresses) 192 64 len (omega arith))
