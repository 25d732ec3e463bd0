use Rattle.std.proofs.Common.{◌≡◌, ◌∙◌, ℕ, sym}
use Rattle.nl_field.specs.Virtual.{map_bytes}
use Rattle.nl_meta.specs.Committed.{committed}
use Rattle.nl_meta.specs.Pages.{page_of}
use Rattle.nl_meta_running.specs.Running.{stored_on}
use Rattle.nl_check.specs.Reading.{IsResident}
use Rattle.nl_check.proofs.Resident.{all-committed, if-all-read}
use Rattle.nl_check.proofs.reading.read_all.Goals as goal

pub returns-in-Done-clause-read : goal.returns-in-Done-clause-read
returns-in-Done-clause-read g c = λ tells.
    let G = g.D.Counts in
    let s = c.args.device.now in
    let t = c.read_pages.new.device in
    let e = c.in-Done.ensures in
    if-all-read c.read_rest.result (λ p. (u : ℕ) → IsResident G.tells (map_bytes (G.shape t) (G.map t)) c.in-Done.field-0.meta p u)
    (λ p. (v : ℕ) → page_of p v ≡ committed c.args.shape.now (stored_on G s) v)
    (λ p all v. all-committed G s t c.args.shape.now c.in-Done.field-0 p (c.requires.shape ∙ sym e.device.medium.virtual.same_shape) e.device.medium.virtual
    (g.met.D.VirtualPages.numbers t e.formed) e.read tells all v)
    c.read_rest.ensures.read
