use Rattle.std.proofs.Common.{List, Option, ap, ℕ, ◌||◌, ◌∙◌}
use Rattle.std.specs.BTreeSet.{contains}
use Rattle.std.specs.Ordering.{nat_cmp}
use Rattle.nl_recover_pointers.specs.Numbers.{is_kept}
use Rattle.nl_recover_pointers.proofs.Numbering.{none_kept}
use Rattle.nl_recover_pointers.proofs.numbers.Numbers.new.Goals as goal

pub returns : goal.returns
returns c n =
    ap (λ (l : List (Option ℕ)). is_kept l n || contains nat_cmp c.new-more.result n) c.in_ok-kept.ensures ∙ none_kept c.args.count c.new-more.result c.new-more.ensures.empty n
