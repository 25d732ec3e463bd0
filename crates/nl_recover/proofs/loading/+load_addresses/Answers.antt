use Rattle.std.proofs.Common.{◌≡◌, ◌≤◌, ◌+◌, inl, inr, ℕ, get_or, sym, subst, arith}
use Rattle.std.proofs.lemmas.Bool.{cases_eq}
use Rattle.nl_field.specs.Virtual.{map_bytes}
use Rattle.nl_recover.specs.Loading.{IsPoolAddress, Settled}
use Rattle.nl_journal.proofs.BackFacts.{same-bytes}
use Rattle.nl_recover.proofs.LoadFacts.{loads-then, settled-later, settled-stays}
use Rattle.nl_recover.proofs.loading.+load_addresses.Goals as goal

pub returns-clause-loads : goal.returns-clause-loads
returns-clause-loads g m c = λ e. loads-then g.D.Counts.tells (map_bytes (g.D.Counts.shape c.args.device.now) (g.D.Counts.map c.args.device.now)) (map_bytes (g.D.Counts.shape c.load_address.new.device) (g.D.Counts.map c.load_address.new.device)) (λ t v. same-bytes _ _ _ _ v c.load_address.ensures.device.medium.virtual.same_shape (c.load_address.ensures.device.medium.virtual.same_map t v)) c.args.meta.now c.load_address.new.meta c.load_addresses.new.meta (c.load_address.ensures.loads c.if-not-load_address.false) (c.load_addresses.ensures.loads e)

further : (from u : ℕ) → from ≤ u → (u ≡ from → ⊥) → from + 1 ≤ u
further from u low far = omega (arith, low, far)

pub returns-clause-settled : goal.returns-clause-settled
returns-clause-settled g m c = λ e k low high pool.
    elim (cases_eq k c.args.from) as (λ _. Settled g.D.Counts.tells (map_bytes (g.D.Counts.shape c.args.device.now) (g.D.Counts.map c.args.device.now)) c.args.meta.now c.load_addresses.new.meta (get_or c.args.addresses.now k 0)) [
      | inl is ↦ settled-stays g.D.Counts.tells (map_bytes (g.D.Counts.shape c.args.device.now) (g.D.Counts.map c.args.device.now)) (map_bytes (g.D.Counts.shape c.load_address.new.device) (g.D.Counts.map c.load_address.new.device)) (λ t v. same-bytes _ _ _ _ v c.load_address.ensures.device.medium.virtual.same_shape (c.load_address.ensures.device.medium.virtual.same_map t v)) c.args.meta.now c.load_address.new.meta c.load_addresses.new.meta (get_or c.args.addresses.now k 0)
          (subst (λ (j : ℕ). IsPoolAddress c.args.shape.now (get_or c.args.addresses.now j 0) → Settled g.D.Counts.tells (map_bytes (g.D.Counts.shape c.args.device.now) (g.D.Counts.map c.args.device.now)) c.args.meta.now c.load_address.new.meta (get_or c.args.addresses.now j 0)) (sym is)
          (c.load_address.ensures.settled c.if-not-load_address.false) pool)
          (c.load_address.ensures.loads c.if-not-load_address.false) (c.load_addresses.ensures.loads e)
      | inr far ↦ settled-later g.D.Counts.tells (map_bytes (g.D.Counts.shape c.args.device.now) (g.D.Counts.map c.args.device.now)) (map_bytes (g.D.Counts.shape c.load_address.new.device) (g.D.Counts.map c.load_address.new.device)) (λ t v. same-bytes _ _ _ _ v c.load_address.ensures.device.medium.virtual.same_shape (c.load_address.ensures.device.medium.virtual.same_map t v)) c.args.meta.now c.load_address.new.meta c.load_addresses.new.meta (get_or c.args.addresses.now k 0) (c.load_address.ensures.loads c.if-not-load_address.false) (c.load_addresses.ensures.settled e k (further c.args.from k low far) high pool)
    ]
