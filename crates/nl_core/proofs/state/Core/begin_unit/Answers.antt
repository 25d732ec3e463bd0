use Rattle.std.proofs.Common.{◌≡◌, ◌≤◌, ◌+◌, ◌^◌, ℕ, length, refl, sym, ap, subst, ◌∙◌, arith}
use Rattle.nl_meta.specs.Pages.{IsPages, Pages}
use Rattle.nl_journal_commit.specs.Counting.{with_count, with_frozen}
use Rattle.nl_core.specs.Core.{IsCore, begun_of}
use Rattle.nl_core.specs.Goes.{PreservesVolume}
use Rattle.nl_core.specs.Writing.{counted_pages}
use Rattle.nl_core.specs.declared.state.Core.{Core}
use Rattle.nl_core.proofs.Begun.{frozen_goes, frozen_is_core, frozen_same, some_pages}
use Rattle.nl_core.proofs.Onward.{goes_none}
use Rattle.nl_core.proofs.state.Core.begin_unit.Goals as goal

pub returns-clause-core : goal.returns-clause-core
returns-clause-core g c =
    let G = g.D.Counts in
    let v = c.args.self.now in
    let counted : c.store_count.new.meta ≡ counted_pages v = c.store_count.ensures ∙ ap (λ n. with_count v.shape n v.meta) c.min-count.ensures in
    subst (λ (x : Core g.row.D.Denot). IsCore G x) (sym (frozen_same v c.store_count.new.meta c.freeze.new.self c.len-self.result counted c.freeze.ensures c.len-self.ensures.count))
    (frozen_is_core G v c.requires.core c.device_stands.ensures.volume (subst IsPages counted c.stands.ensures) (sym c.frozen_len.ensures.count ∙ c.if-frozen_len-ne0.false) c.mark-mark.ensures.most)

pub returns-clause-goes : goal.returns-clause-goes
returns-clause-goes g c =
    let G = g.D.Counts in
    let v = c.args.self.now in
    let counted : c.store_count.new.meta ≡ counted_pages v = c.store_count.ensures ∙ ap (λ n. with_count v.shape n v.meta) c.min-count.ensures in
    subst (λ (x : Core g.row.D.Denot). PreservesVolume G 0 v x) (sym (frozen_same v c.store_count.new.meta c.freeze.new.self c.len-self.result counted c.freeze.ensures c.len-self.ensures.count))
    (frozen_goes G v c.requires.core c.device_stands.ensures.volume (subst IsPages counted c.stands.ensures) (sym c.frozen_len.ensures.count ∙ c.if-frozen_len-ne0.false) c.mark-mark.ensures.most)

pub returns-clause-some : goal.returns-clause-some
returns-clause-some g c =
    let G = g.D.Counts in
    let v = c.args.self.now in
    let counted : c.store_count.new.meta ≡ counted_pages v = c.store_count.ensures ∙ ap (λ n. with_count v.shape n v.meta) c.min-count.ensures in
    subst (λ (x : Pages). 1 ≤ length x.frozen.addresses) (sym (c.freeze.ensures ∙ ap with_frozen counted))
    (some_pages G v c.requires.core c.device_stands.ensures.volume (subst IsPages counted c.stands.ensures) (sym c.frozen_len.ensures.count ∙ c.if-frozen_len-ne0.false) c.mark-mark.ensures.most)

pub returns-then-frozen_len-ne0-clause-goes : goal.returns-then-frozen_len-ne0-clause-goes
returns-then-frozen_len-ne0-clause-goes g c = goes_none g.D.Counts c.args.self.now c.requires.core
