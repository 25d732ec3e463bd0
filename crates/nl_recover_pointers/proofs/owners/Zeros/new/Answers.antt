use Rattle.std.proofs.Common.{List, Option, ap, ◌∙◌}
use Rattle.std.specs.BTreeMap.{get}
use Rattle.nl_recover_pointers.specs.Owners.{key_cmp, key_of, zeros_and, zeros_kept}
use Rattle.nl_recover_pointers.specs.declared.owners.Owned.{Owned}
use Rattle.nl_recover_pointers.proofs.Owning.{no_owner}
use Rattle.nl_recover_pointers.proofs.owners.Zeros.new.Goals as goal

pub returns : goal.returns
returns c s t =
    ap (λ (l : List (Option Owned)). zeros_and (zeros_kept l s t) (get key_cmp c.new-more.result (key_of s t))) c.in_ok-kept.ensures ∙ no_owner c.args.count c.new-more.result c.new-more.ensures.empty s t
