use Rattle.std.proofs.Common.{subst, sym}
use Rattle.nl_test_device.specs.Reopened.{CanOpen}
use Rattle.nl_test_device.specs.declared.reopening.Opening.{Opening}
use Rattle.nl_test_device.proofs.Retaining.{opens_copied, opens_erased, opens_lost, opens_moved, opens_one_copied, opens_partly, opens_partly_lost, opens_written}
use Rattle.nl_test_device.proofs.reopening.opening_after.Goals as goal

pub returns-in-Written : goal.returns-in-Written
returns-in-Written c = subst (λ (o : Opening). CanOpen o.first o.fives o.count o.one o.two) (sym c.opening_with.ensures) opens_written

pub returns-in-OneCopied : goal.returns-in-OneCopied
returns-in-OneCopied c = subst (λ (o : Opening). CanOpen o.first o.fives o.count o.one o.two) (sym c.opening_with-in-OneCopied.ensures) opens_one_copied

pub returns-in-Copied : goal.returns-in-Copied
returns-in-Copied c = subst (λ (o : Opening). CanOpen o.first o.fives o.count o.one o.two) (sym c.opening_with-in-Copied.ensures) opens_copied

pub returns-in-Erased : goal.returns-in-Erased
returns-in-Erased c = subst (λ (o : Opening). CanOpen o.first o.fives o.count o.one o.two) (sym c.opening_with-in-Erased.ensures) opens_erased

pub returns-in-Moved : goal.returns-in-Moved
returns-in-Moved c = subst (λ (o : Opening). CanOpen o.first o.fives o.count o.one o.two) (sym c.opening_with-in-Moved.ensures) opens_moved

pub returns-in-Lost : goal.returns-in-Lost
returns-in-Lost c = subst (λ (o : Opening). CanOpen o.first o.fives o.count o.one o.two) (sym c.opening_with-in-Lost.ensures) opens_lost

pub returns-in-Partly : goal.returns-in-Partly
returns-in-Partly c = subst (λ (o : Opening). CanOpen o.first o.fives o.count o.one o.two) (sym c.opening_with-in-Partly.ensures) opens_partly

pub returns-in-PartlyLost : goal.returns-in-PartlyLost
returns-in-PartlyLost c = subst (λ (o : Opening). CanOpen o.first o.fives o.count o.one o.two) (sym c.opening_with-in-PartlyLost.ensures) opens_partly_lost
