use Rattle.std.proofs.Common.{◌≡◌, ◌≤◌, ◌+◌, inl, inr, ℕ, subst, arith}
use Rattle.std.proofs.lemmas.Bool.{cases_eq}
use Rattle.nl_field.specs.Virtual.{map_bytes}
use Rattle.nl_meta.specs.Consistent.{AddressAt}
use Rattle.nl_meta.specs.Pages.{page_of}
use Rattle.nl_recover.specs.Loading.{Settled}
use Rattle.nl_journal.proofs.BackFacts.{same-bytes}
use Rattle.nl_recover.proofs.LoadFacts.{loads-then, settled-later, settled-stays}
use Rattle.nl_recover.proofs.NodesLoaded.{still-at}
use Rattle.nl_recover.proofs.loading.+load_nodes.Goals as goal

pub returns-clause-loads : goal.returns-clause-loads
returns-clause-loads g m c = λ e. loads-then g.D.Counts.tells (map_bytes (g.D.Counts.shape c.args.device.now) (g.D.Counts.map c.args.device.now)) (map_bytes (g.D.Counts.shape c.load_node.new.device) (g.D.Counts.map c.load_node.new.device)) (λ t v. same-bytes _ _ _ _ v c.load_node.ensures.device.medium.virtual.same_shape (c.load_node.ensures.device.medium.virtual.same_map t v)) c.args.meta.now c.load_node.new.meta c.load_nodes.new.meta (c.load_node.ensures.loads c.if-not-load_node.false) (c.load_nodes.ensures.loads e)

further : (from u : ℕ) → from ≤ u → (u ≡ from → ⊥) → from + 1 ≤ u
further from u low far = omega (arith, low, far)

pub returns-clause-settled : goal.returns-clause-settled
returns-clause-settled g m c = λ e n slot a low high at pool.
    elim (cases_eq n c.args.from) as (λ _. Settled g.D.Counts.tells (map_bytes (g.D.Counts.shape c.args.device.now) (g.D.Counts.map c.args.device.now)) c.args.meta.now c.load_nodes.new.meta a) [
      | inl is ↦ settled-stays g.D.Counts.tells (map_bytes (g.D.Counts.shape c.args.device.now) (g.D.Counts.map c.args.device.now)) (map_bytes (g.D.Counts.shape c.load_node.new.device) (g.D.Counts.map c.load_node.new.device)) (λ t v. same-bytes _ _ _ _ v c.load_node.ensures.device.medium.virtual.same_shape (c.load_node.ensures.device.medium.virtual.same_map t v)) c.args.meta.now c.load_node.new.meta c.load_nodes.new.meta a
          (c.load_node.ensures.settled c.if-not-load_node.false slot a (subst (λ (k : ℕ). AddressAt c.args.shape.now (page_of c.args.meta.now) k slot a) is at) pool)
          (c.load_node.ensures.loads c.if-not-load_node.false) (c.load_nodes.ensures.loads e)
      | inr far ↦ settled-later g.D.Counts.tells (map_bytes (g.D.Counts.shape c.args.device.now) (g.D.Counts.map c.args.device.now)) (map_bytes (g.D.Counts.shape c.load_node.new.device) (g.D.Counts.map c.load_node.new.device)) (λ t v. same-bytes _ _ _ _ v c.load_node.ensures.device.medium.virtual.same_shape (c.load_node.ensures.device.medium.virtual.same_map t v)) c.args.meta.now c.load_node.new.meta c.load_nodes.new.meta a (c.load_node.ensures.loads c.if-not-load_node.false)
          (c.load_nodes.ensures.settled e n slot a (further c.args.from n low far) high
          (still-at g.D.Counts.tells (map_bytes (g.D.Counts.shape c.args.device.now) (g.D.Counts.map c.args.device.now)) c.args.shape.now c.args.meta.now c.load_node.new.meta (c.load_node.ensures.loads c.if-not-load_node.false) n slot a at) pool)
    ]
