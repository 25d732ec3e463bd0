use Rattle.std.proofs.Common.{◌≡◌, ◌⊎◌, ◌≤◌, inl, inr, [], List, ap, sym, ◌∙◌, length, arith}
use Rattle.nl_meta.specs.Pages.{Frozen, Pages, none_frozen}
use Rattle.nl_journal.specs.Progress.{Progress}
use Rattle.nl_journal.specs.Restoring.{HasRestored}
use Rattle.nl_journal.specs.declared.answers.Phase.TheVariants.{Header, Home}
use Rattle.nl_journal.specs.declared.answers.ReadBack.TheVariants as back
use Rattle.nl_test_device.proofs.Standing.{begun-order, least-addresses}
use Rattle.nl_test_device.proofs.journal.make_beside.Goals as goal

pub bring_back-requires-clause-shape : goal.bring_back-requires-clause-shape
bring_back-requires-clause-shape c = c.in-Some.ensures.numbers ∙ sym c.requires.numbers

pub returns-in-Nothing : goal.returns-in-Nothing
returns-in-Nothing c =
    let kept = c.in-Nothing.ensures.kept.medium.virtual in
    let brought = c.in-Nothing.ensures.back not-fault in
    let thawed : c.bring_back.new.meta.frozen.addresses ≡ [] = none c.bring_back.new.self c.bring_back.new.meta brought.restored c.in-Nothing.ensures.phase in
    record {
      formed = c.in-Nothing.ensures.formed;
      numbers = kept.same_shape ∙ c.requires.numbers;
      spare = kept.spare c.requires.spare;
      order = begun-order _ _ _ _ _ c.requires.numbers c.requires.none_failed c.in-Nothing.ensures.phase thawed
          c.in-Nothing.ensures.found brought.number kept;
      count = brought.count ∙ least-addresses _ (kept.same_shape ∙ c.requires.numbers);
      clean = brought.clean;
      thawed = thawed;
    }
  where
    not-fault : back.Nothing ≡ back.Fault → ⊥
    not-fault e = cc

    none : (journal : Progress) (p : Pages) → HasRestored journal p → journal.phase ≡ Header → p.frozen.addresses ≡ []
    none journal p r idle = by r.due
      where
        by : ((journal.phase ≡ Header) × (p.frozen ≡ none_frozen)) ⊎ ((journal.phase ≡ Home 0) × (1 ≤ length p.frozen.addresses)) → p.frozen.addresses ≡ []
        by (inl e) = ap (λ (f : Frozen). f.addresses) e.1
        by (inr e) = let no : Header ≡ Home 0 = sym idle ∙ e.0 in cc
