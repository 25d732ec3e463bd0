use Rattle.std.proofs.Common.{ℕ, List, Option, Some, option_map, sym, ◌∙◌, ap}
use Rattle.nl_testkit_still.specs.Still.{bytes_at, value_with}
use Rattle.nl_testkit_still.proofs.virtual_pages.StillVirtualPages.virtual_read.Goals as goal

pub returns-in-Some-clause-value : goal.returns-in-Some-clause-value
returns-in-Some-clause-value c told =
    let v = c.args.vaddr in
    let values = c.args.self.now.values.items in
    let stamp = c.in-Some.field-0 in (
      stamp,
      ap (λ (o : Option ℕ). option_map (value_with (bytes_at values v)) o) (sym c.stamp_of.ensures ∙ c.in-Some.is) ∙ ap (λ (bytes : List ℕ). Some (stamp, bytes)) (sym c.read_value.ensures),
    )
