use Rattle.std.proofs.Common.{ℕ, List, ap, unwrap_or}
use Rattle.std.specs.Prelude.{fold}
use Rattle.nl_recover_pointers.specs.Copies.{greatest_stamp, with_stamp}
use Rattle.std.specs.Map.{lookup}
use Rattle.std.specs.Ordering.{is_eq, nat_cmp}
use Rattle.nl_recover_pointers.proofs.copies.greatest.Goals as goal

pub pages-init : goal.pages-init
unfolding greatest_stamp
pages-init c address = ap (λ (es : List (ℕ × ℕ)). fold (with_stamp address) (unwrap_or (lookup (λ k. is_eq (nat_cmp address k)) es) 0) c.args.pages.now.items) c.new-greatest.ensures.empty
