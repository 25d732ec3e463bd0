use Rattle.std.proofs.Common.{◌≡◌, ◌≤◌, ◌+◌, inl, inr, ℕ, sym, subst, arith}
use Rattle.std.proofs.lemmas.Bool.{cases_eq}
use Rattle.nl_field.specs.Virtual.{map_bytes}
use Rattle.nl_check.specs.Reading.{IsResident}
use Rattle.nl_journal.proofs.BackFacts.{same-bytes}
use Rattle.nl_check.proofs.Resident.{makes-then, resident-later, resident-stays}
use Rattle.nl_check.proofs.reading.+load_range.Goals as goal

pub returns-clause-loads : goal.returns-clause-loads
returns-clause-loads g m c = λ e. makes-then g.D.Counts.tells (map_bytes (g.D.Counts.shape c.args.device.now) (g.D.Counts.map c.args.device.now)) (map_bytes (g.D.Counts.shape c.load_page.new.device) (g.D.Counts.map c.load_page.new.device)) (λ t v. same-bytes _ _ _ _ v c.load_page.ensures.device.medium.virtual.same_shape (c.load_page.ensures.device.medium.virtual.same_map t v)) c.args.meta.now c.load_page.new.meta c.load_range.new.meta (c.load_page.ensures.loads c.if-not-load_page.false) (c.load_range.ensures.loads e)

further : (from u : ℕ) → from ≤ u → (u ≡ from → ⊥) → from + 1 ≤ u
further from u low far = omega (arith, low, far)

pub returns-clause-resident : goal.returns-clause-resident
returns-clause-resident g m c = λ e u low high.
    elim (cases_eq u c.args.from) as (λ _. IsResident g.D.Counts.tells (map_bytes (g.D.Counts.shape c.args.device.now) (g.D.Counts.map c.args.device.now)) c.args.meta.now c.load_range.new.meta u) [
      | inl is ↦ resident-stays g.D.Counts.tells (map_bytes (g.D.Counts.shape c.args.device.now) (g.D.Counts.map c.args.device.now)) (map_bytes (g.D.Counts.shape c.load_page.new.device) (g.D.Counts.map c.load_page.new.device)) (λ t v. same-bytes _ _ _ _ v c.load_page.ensures.device.medium.virtual.same_shape (c.load_page.ensures.device.medium.virtual.same_map t v)) c.args.meta.now c.load_page.new.meta c.load_range.new.meta u
          (subst (λ (v : ℕ). IsResident g.D.Counts.tells (map_bytes (g.D.Counts.shape c.args.device.now) (g.D.Counts.map c.args.device.now)) c.args.meta.now c.load_page.new.meta v) (sym is) (c.load_page.ensures.resident c.if-not-load_page.false))
          (c.load_page.ensures.loads c.if-not-load_page.false) (c.load_range.ensures.loads e)
      | inr far ↦ resident-later g.D.Counts.tells (map_bytes (g.D.Counts.shape c.args.device.now) (g.D.Counts.map c.args.device.now)) (map_bytes (g.D.Counts.shape c.load_page.new.device) (g.D.Counts.map c.load_page.new.device)) (λ t v. same-bytes _ _ _ _ v c.load_page.ensures.device.medium.virtual.same_shape (c.load_page.ensures.device.medium.virtual.same_map t v)) c.args.meta.now c.load_page.new.meta c.load_range.new.meta u (c.load_page.ensures.loads c.if-not-load_page.false) (c.load_range.ensures.resident e u (further c.args.from u low far) high)
    ]
