use Rattle.std.proofs.Common.{ap, refl, sym, subst, ◌∙◌, length, List, Option, ℕ}
use Rattle.nl_meta.specs.Pages.{dirty_pages}
use Rattle.nl_journal.specs.Transaction.{IsTransaction}
use Rattle.nl_test_device.proofs.Standing.{five-transaction, least-addresses}
use Rattle.nl_test_device.proofs.journal.commit_all.Goals as goal

pub commit-requires-clause-dirty : goal.commit-requires-clause-dirty
commit-requires-clause-dirty c =
    subst (λ (n : ℕ). IsTransaction n (dirty_pages c.put_all.new.meta)) (sym (least-addresses _ c.requires.numbers))
    (five-transaction c.put_all.new.meta c.stands.ensures (c.if-not-put_all.ensures.count ∙ c.requires.count) (c.if-not-put_all.ensures.dirty refl))

pub returns-in-Done : goal.returns-in-Done
returns-in-Done c = λ e.
    let done = c.in-Done.ensures in
    record {
      formed = done.formed;
      numbers = done.passes.named.same_shape ∙ c.requires.numbers;
      spare = done.passes.spare.cleaned tt;
      order = done.order;
      count = ap (λ (xs : List (Option (List ℕ))). length xs) done.running ∙ c.if-not-put_all.ensures.count ∙ c.requires.count;
      clean = done.done.clean;
      thawed = done.done.thawed;
    }
