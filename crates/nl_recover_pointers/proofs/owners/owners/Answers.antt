use Rattle.std.proofs.Common.{ap, arith, drop, sym, ◌+◌, ◌∙◌}
use Rattle.std.specs.Prelude.{fold}
use Rattle.std.proofs.lemmas.List.{drop_all}
use Rattle.nl_field.specs.ScanList.{physical_seen}
use Rattle.nl_recover_pointers.specs.Owners.{greatest_zeros, with_page, zeros_at}
use Rattle.nl_recover_pointers.proofs.Owning.{seen_more, seen_none}
use Rattle.nl_recover_pointers.proofs.Rests.{drop_got}
use Rattle.nl_recover_pointers.proofs.owners.owners.Goals as goal

pub seen-init : goal.seen-init
unfolding greatest_zeros
seen-init c stamp tag = ap (λ z. fold (with_page stamp tag) z (physical_seen c.args.shape.now c.args.scan.now.seen)) (c.in_ok-zeros.ensures stamp tag)

pub seen-preserved : goal.seen-preserved
seen-preserved c stamp tag =
    let shape = c.args.shape.now in
    let seen = c.args.scan.now.seen in
    let one = c.get.result.now in
    let rest = drop (c.seen.at + 1) seen in
    ap (λ z. fold (with_page stamp tag) z (physical_seen shape rest)) (c.in_ok-see.ensures stamp tag)
    ∙ (sym (seen_more shape one rest stamp tag (zeros_at c.seen.zeros stamp tag))
    ∙ (ap (λ l. fold (with_page stamp tag) (zeros_at c.seen.zeros stamp tag) (physical_seen shape l)) (sym (drop_got seen c.seen.at one c.get.ensures)) ∙ c.seen.invariant stamp tag))

pub returns : goal.returns
returns c stamp tag =
    let shape = c.args.shape.now in
    let seen = c.args.scan.now.seen in
    sym (ap (λ l. fold (with_page stamp tag) (zeros_at c.seen.zeros stamp tag) (physical_seen shape l)) (drop_all c.seen.at seen (omega (arith, c.seen-test.false, c.len-at-end.ensures)))
    ∙ seen_none shape stamp tag (zeros_at c.seen.zeros stamp tag))
    ∙ c.seen.invariant stamp tag
