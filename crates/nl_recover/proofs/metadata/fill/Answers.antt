use Rattle.std.proofs.Common.{◌≡◌, ◌⊎◌, inl, inr, ℕ, ◌∙◌, sym, ap, subst}
use Rattle.nl_field.specs.Numbers.{ShapeBounds}
use Rattle.nl_field.specs.declared.shape.Shape.{Shape}
use Rattle.nl_journal.specs.declared.answers.ReadBack.{ReadBack}
use Rattle.nl_journal.specs.declared.answers.ReadBack.TheVariants.{Agreed, Nothing, Fault}
use Rattle.nl_meta_running.proofs.Holds.{bounds-of}
use Rattle.nl_journal.proofs.BackStands.{back-on}
use Rattle.nl_recover.proofs.ReadStands.{alike-on, loads-on}
use Rattle.nl_recover.proofs.metadata.fill.Goals as goal

no-fault : (r : ReadBack) → ((n : ℕ) × (r ≡ Agreed n)) ⊎ (r ≡ Nothing) → r ≡ Fault → ⊥
no-fault r (inl (n, is)) f = let e : Agreed n ≡ Fault = sym is ∙ f in cc
no-fault r (inr is) f = let e : Nothing ≡ Fault = sym is ∙ f in cc

pub load-requires-clause-bounds : goal.load-requires-clause-bounds
load-requires-clause-bounds g c = subst ShapeBounds (sym c.requires.shape) (bounds-of (g.D.Counts.shape c.args.device.now) (g.met.D.VirtualPages.numbers c.args.device.now c.requires.formed))

pub load-requires-clause-count : goal.load-requires-clause-count
load-requires-clause-count g c = (c.bring_back.ensures.back (no-fault c.bring_back.result c.in-Agreed.is)).count ∙ ap (λ (h : Shape). h.vaddrs) (c.bring_back.ensures.kept.medium.virtual.same_shape ∙ sym c.requires.shape)

pub returns-then-load-clause-read : goal.returns-then-load-clause-read
returns-then-load-clause-read g c =
    let G = g.D.Counts in
    let mid = c.bring_back.new.device in
    let new = c.load.new.device in
    let kept = c.load.ensures.device.medium.virtual in
    record {
      restored = c.bring_back.new.meta;
      back = back-on G mid new c.bring_back.new.self c.bring_back.new.meta kept (c.bring_back.ensures.back (no-fault c.bring_back.result c.in-Agreed.is));
      loads = loads-on G mid new c.bring_back.new.meta c.load.new.meta kept (c.load.ensures.loads c.if-load.true);
      alike = λ t. alike-on G c.args.shape.now mid new c.bring_back.new.meta c.load.new.meta (c.requires.shape ∙ sym c.bring_back.ensures.kept.medium.virtual.same_shape ∙ sym kept.same_shape) kept t (c.load.ensures.alike t c.if-load.true);
    }
