use Rattle.std.proofs.Common.{Some, subst}
use Rattle.std.specs.BTreeMap.{Updates, get}
use Rattle.nl_recover_pointers.specs.Owners.{PageKey, key_cmp, key_of, more_zeros}
use Rattle.nl_recover_pointers.proofs.Owning.{owned_other}
use Rattle.nl_recover_pointers.proofs.owners.Zeros.add.Goals as goal

pub returns-then-keep : goal.returns-then-keep
returns-then-keep c s t = c.keep.ensures.kept c.if-keep.true s t (get key_cmp c.args.self.now.more (key_of s t))

pub returns : goal.returns
returns c =
    owned_other c.args.self.now.kept.items c.keep.new.kept.items c.args.owned.stamp c.args.owned.tag c.args.owned.zeros c.args.self.now.more c.note.new.zeros (c.keep.ensures.same c.if-keep.false)
    (subst (λ (k : PageKey). Updates key_cmp c.args.self.now.more c.note.new.zeros k (Some (more_zeros (get key_cmp c.args.self.now.more k) c.args.owned.zeros))) c.key_of-key.ensures
    c.in_ok-note.ensures)
