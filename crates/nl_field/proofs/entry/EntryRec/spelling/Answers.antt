use Rattle.std.proofs.Common.{◌≡◌, ◌++◌, ◌+◌, ◌-◌, ◌∷◌, ℕ, List, length, drop, replicate, ap, arith}
use Rattle.std.proofs.lemmas.List.{drop-replicate}
use Rattle.nl_field.specs.Spelling.{u32_bytes}
use Rattle.nl_field.specs.EntryRecord.{entry_bytes}
use Rattle.nl_field.proofs.entry.EntryRec.spelling.Goals as goal

pub returns-clause-bytes : goal.returns-clause-bytes
unfolding entry_bytes u32_bytes
returns-clause-bytes c =
    let len : (9 + length c.args.self.now.name) - 9 ≡ length c.args.self.now.name = omega arith in
    let behind : drop (length c.args.self.now.name) (replicate 55 0) ≡ replicate (55 - length c.args.self.now.name) 0 = drop-replicate (length c.args.self.now.name) 55 0 in
    rw (c.copy_from_slice.ensures.after, c.bytes-name.ensures.value, len, c.put_u32-2.ensures, c.put_u32.ensures)
    (ap (λ (r : List ℕ). u32_bytes c.args.self.now.ino ++ u32_bytes c.args.self.now.generation ++ (length c.args.self.now.name ∷ c.args.self.now.name) ++ r) behind)
