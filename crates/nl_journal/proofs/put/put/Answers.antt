use Rattle.std.proofs.Common.{◌≡◌}
use Rattle.nl_field.specs.declared.answers.VirtualWrite.TheVariants as write
use Rattle.nl_journal.proofs.Stops.{at_by}
use Rattle.nl_journal.proofs.Writes.{bytes_written, within_shown, written_shown}
use Rattle.nl_journal.proofs.put.put.Goals as goal

pub returns-clause-left : goal.returns-clause-left
returns-clause-left g c t =
    let G = g.D.Counts in
    let old = c.args.device.now in
    at_by G (c.virtual_write.result ≡ write.Done) (c.virtual_write.result ≡ write.Done) _ _ _ _ old c.virtual_write.new.self (λ d. d)
    (λ s is. (within_shown s is.shows, record { beyond = is.beyond; firm = is.firm; named = is.named }))
    (λ s is. (written_shown (G.map old) c.args.vaddr (G.next_stamp old) c.args.from.now.main s is.shows, record { beyond = is.beyond; firm = is.firm; named = is.named }))
    (c.virtual_write.ensures.left t)

pub returns-clause-raw : goal.returns-clause-raw
returns-clause-raw g c t done v =
    let G = g.D.Counts in
    bytes_written (G.map c.args.device.now) (G.map c.virtual_write.new.self) c.args.vaddr (G.next_stamp c.args.device.now) c.args.from.now.main (c.virtual_write.ensures.written.map t done) v
