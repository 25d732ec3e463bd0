use Rattle.std.proofs.Common.{◌≡◌, ℕ, zero, suc, List, [], ◌∷◌, Option, Some, None, slice_get, subst, sym, inl, inr}
use Rattle.nl_field.specs.Members.{Has}
use Rattle.nl_meta.proofs.Lists.{none_some, some_in}
use Rattle.nl_test_metadata.proofs.meta.is_frozen.Goals as goal

at_member : (xs : List ℕ) (i x : ℕ) → slice_get xs i ≡ Some x → Has xs x
at_member [] i x h = absurd (none_some x h)
at_member (y ∷ ys) zero x h = inl (some_in y x h)
at_member (y ∷ ys) (suc i) x h = inr (at_member ys i x h)

pub returns-then-address-vaddr : goal.returns-then-address-vaddr
returns-then-address-vaddr c = λ t. subst (Has c.args.meta.now.frozen.addresses) c.if-address-vaddr.true (at_member c.args.meta.now.frozen.addresses c.loop-i.i c.in-Some.address (sym c.in-Some.ensures))
