use Rattle.std.proofs.Common.{◌≡◌, ◌<◌, ◌∙◌, length, sym, ap, subst}
use Rattle.nl_field.specs.declared.shape.Shape.{Shape}
use Rattle.nl_check.proofs.Resident.{all-resident}
use Rattle.nl_check.proofs.reading.read_rest.Goals as goal

pub returns-then-load_range-clause-read : goal.returns-then-load_range-clause-read
returns-then-load_range-clause-read g c =
    let G = g.D.Counts in
    let size : length c.args.meta.running ≡ (G.shape c.args.device.now).vaddrs = c.requires.count ∙ ap (λ (h : Shape). h.vaddrs) c.requires.shape in
    all-resident G.tells (G.shape c.args.device.now) (G.map c.args.device.now) c.args.meta c.load_range.new.meta size ((c.load_range.ensures.loads c.if-load_range.true).count ∙ size)
    (λ u low high. c.load_range.ensures.resident c.if-load_range.true u low (subst (λ (h : Shape). u < h.vaddrs) (sym c.requires.shape) high))
