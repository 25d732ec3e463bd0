use Rattle.std.proofs.Common.{◌≡◌, ◌∙◌, ◌==◌, true, false, not, take, sym, refl}
use Rattle.std.proofs.lemmas.List.{take_rest}
use Rattle.std.specs.List.{list_all}
use Rattle.nl_field.proofs.InodeRecord.{filled-split, filled-short}
use Rattle.nl_field.proofs.inode.have_filled.Goals as goal

pub returns-then-addresses-count : goal.returns-then-addresses-count
returns-then-addresses-count c = sym (filled-short c.args.count c.args.addresses.now c.if-addresses-count.true)

pub returns-then-are_not_zero : goal.returns-then-are_not_zero
returns-then-are_not_zero c =
    let first : list_all (λ number. not (number == 0)) (take c.args.count c.args.addresses.now) ≡ true = sym c.are_not_zero.ensures ∙ c.if-are_not_zero.true in
    let rest = rw (take_rest c.args.addresses.now c.args.count) at c.are_zero.ensures in
    rest ∙ sym (filled-split c.args.count c.args.addresses.now c.if-addresses-count.false ∙ rw first refl)

pub returns-else-are_not_zero : goal.returns-else-are_not_zero
returns-else-are_not_zero c =
    let first : list_all (λ number. not (number == 0)) (take c.args.count c.args.addresses.now) ≡ false = sym c.are_not_zero.ensures ∙ c.if-are_not_zero.false in
    c.if-are_not_zero.false ∙ sym (filled-split c.args.count c.args.addresses.now c.if-addresses-count.false ∙ rw first refl)
