use Rattle.std.proofs.Common.{ap, refl, ◌∙◌, List, ℕ}
use Rattle.nl_meta.specs.Pages.{with_address}
use Rattle.nl_test_device.proofs.Standing.{five-rise}
use Rattle.nl_test_device.proofs.journal.put_all.Goals as goal

pub returns-clause-dirty : goal.returns-clause-dirty
returns-clause-dirty c = λ e.
    c.put-5.ensures.dirty e
    ∙ ap (λ (xs : List ℕ). with_address 102 xs) (c.if-not-put-4.ensures.dirty refl)
    ∙ ap (λ (xs : List ℕ). with_address 102 (with_address 71 xs)) (c.if-not-put-3.ensures.dirty refl)
    ∙ ap (λ (xs : List ℕ). with_address 102 (with_address 71 (with_address 68 xs))) (c.if-not-put-2.ensures.dirty refl)
    ∙ ap (λ (xs : List ℕ). with_address 102 (with_address 71 (with_address 68 (with_address 67 xs)))) (c.if-not-put.ensures.dirty refl ∙ ap (with_address 0) c.requires.clean)
    ∙ five-rise
