use Rattle.std.proofs.Common.{ℕ, ap, sym, ◌∙◌, ◌+◌, ◌||◌, drop, subst}
use Rattle.std.specs.Prelude.{◌==◌, true}
use Rattle.std.specs.BTreeSet.{Updates, contains}
use Rattle.std.specs.List.{list_any}
use Rattle.std.specs.Ordering.{nat_cmp}
use Rattle.nl_device.specs.contracts.counts.DeviceCounts.TheImpl.{ghosts}
use Rattle.nl_field.specs.Live.{resolve}
use Rattle.nl_field.specs.declared.pointer.Pointer.{Pointer}
use Rattle.nl_map.proofs.Lists.{drop_got, number_moved}
use Rattle.nl_map.proofs.live.places.Goals as goal

pub kept-preserved : goal.kept-preserved
kept-preserved g c page =
    let names = (ghosts g.row.M g.M.Nand g.M.Nand-dict).names c.args.device.now in
    let lead : Pointer → ℕ = λ p. resolve names.pairs p.name in
    number_moved c.kept.places c.insert.new.self (lead c.get.result.now) (subst (λ n. Updates nat_cmp c.kept.places c.insert.new.self n true) c.resolve.ensures c.in_ok-insert.ensures.updates) page
    (list_any (λ p. lead p == page) (drop (c.kept.at + 1) c.args.kept.now.items))
    ∙ ap (λ l. contains nat_cmp c.kept.places page || list_any (λ p. lead p == page) l) (sym (drop_got c.args.kept.now.items c.kept.at c.get.result.now c.get.ensures))
    ∙ c.kept.invariant page
