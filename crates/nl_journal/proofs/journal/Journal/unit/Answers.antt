use Rattle.std.proofs.Common.{◌≡◌, sym, subst}
use Rattle.nl_field.specs.declared.answers.VirtualWrite.{VirtualWrite}
use Rattle.nl_field.specs.declared.answers.VirtualWrite.TheVariants as write
use Rattle.nl_journal.specs.Left.{UnitWrites}
use Rattle.nl_journal.specs.Progress.{Progress}
use Rattle.nl_journal.specs.Standing.{JournalInOrder}
use Rattle.nl_journal.specs.Units.{Advances, UnitIsDone, IsDue}
use Rattle.nl_journal.proofs.Addresses.{addresses_of}
use Rattle.nl_journal.proofs.FrozenPages.{due_within}
use Rattle.nl_journal.proofs.HomeWrites.{done_home, undone_home}
use Rattle.nl_journal.specs.Outcomes.{bytes_of}
use Rattle.nl_journal.proofs.UnitSteps.{done_order, done_writes, undone_order, undone_writes}
use Rattle.nl_journal.proofs.journal.Journal.unit.Goals as goal

failed_is : (r : VirtualWrite) → r ≡ write.Fault → r ≡ write.Done → ⊥
failed_is r fault done = cc

pub put-requires-clause-within : goal.put-requires-clause-within
put-requires-clause-within g c =
    let old = c.args.device.now in
    let frozen = c.args.meta.now.frozen in
    due_within c.args.self.now.phase c.args.self.now.number frozen c.due-vaddr.result c.due-vaddr.new.page.main (g.D.Counts.shape old).vaddrs (c.requires.order.pages c.requires.some)
    (addresses_of (g.D.Counts.shape old) (g.met.D.VirtualPages.numbers old c.requires.formed)) c.requires.order.phase
    (subst (λ (q : Progress). IsDue q.phase q.number frozen c.due-vaddr.result c.due-vaddr.new.page.main) c.self.view_is c.due-vaddr.ensures)

pub returns-in-Done-clause-order : goal.returns-in-Done-clause-order
returns-in-Done-clause-order g c =
    let old = c.args.device.now in
    let frozen = c.args.meta.now.frozen in
    let v = c.due-vaddr.result in
    let main = c.due-vaddr.new.page.main in
    let due = subst (λ (q : Progress). IsDue q.phase q.number frozen v main) c.self.view_is c.due-vaddr.ensures in
    let goes = (subst (λ (q : Progress). Advances c.advance.result q c.advance.new.self c.args.meta.now c.advance.new.meta) c.self.view_is c.advance.ensures.advances).done c.advance.ensures.done in
    done_order g.D.Counts old c.put.new.device c.args.self.now c.args.meta.now v main (g.met.D.VirtualPages.numbers old c.requires.formed) c.requires.some c.requires.order due c.put.ensures.passes.named.same_shape
    c.advance.new.self c.advance.new.meta (λ t. c.put.ensures.done t c.in-Done.is) c.advance.ensures.phase goes.1 goes.2

pub returns-in-Done-clause-writes : goal.returns-in-Done-clause-writes
returns-in-Done-clause-writes g c t numbers =
    let old = c.args.device.now in
    let frozen = c.args.meta.now.frozen in
    let v = c.due-vaddr.result in
    let main = c.due-vaddr.new.page.main in
    let due = subst (λ (q : Progress). IsDue q.phase q.number frozen v main) c.self.view_is c.due-vaddr.ensures in
    let goes = (subst (λ (q : Progress). Advances c.advance.result q c.advance.new.self c.args.meta.now c.advance.new.meta) c.self.view_is c.advance.ensures.advances).done c.advance.ensures.done in
    done_writes g.D.Counts old c.put.new.device c.args.self.now c.args.meta.now v main (g.met.D.VirtualPages.numbers old c.requires.formed) c.requires.some c.requires.order due c.put.ensures.passes.named.same_shape
    (c.put.result ≡ write.Done) (UnitIsDone c.advance.result) (λ d. c.in-Done.is) c.advance.ensures.done c.advance.new.self c.advance.new.meta t numbers (c.put.ensures.done t c.in-Done.is) goes.1 goes.2 (c.put.ensures.left t)

pub returns-in-Fault-clause-order : goal.returns-in-Fault-clause-order
returns-in-Fault-clause-order g c =
    let old = c.args.device.now in
    let frozen = c.args.meta.now.frozen in
    let v = c.due-vaddr.result in
    let main = c.due-vaddr.new.page.main in
    let due = subst (λ (q : Progress). IsDue q.phase q.number frozen v main) c.self.view_is c.due-vaddr.ensures in
    subst (λ (q : Progress). JournalInOrder g.D.Counts c.put.new.device q frozen) (sym c.self.view_is)
    (undone_order g.D.Counts old c.put.new.device c.args.self.now c.args.meta.now v main (g.met.D.VirtualPages.numbers old c.requires.formed) c.requires.some c.requires.order due c.put.ensures.passes.named.same_shape
    (λ t. c.put.ensures.undone t (failed_is c.put.result c.in-Fault.is)) (λ t. c.put.ensures.same t (failed_is c.put.result c.in-Fault.is)))

pub returns-in-Fault-clause-writes : goal.returns-in-Fault-clause-writes
returns-in-Fault-clause-writes g c t numbers =
    let old = c.args.device.now in
    let frozen = c.args.meta.now.frozen in
    let v = c.due-vaddr.result in
    let main = c.due-vaddr.new.page.main in
    let due = subst (λ (q : Progress). IsDue q.phase q.number frozen v main) c.self.view_is c.due-vaddr.ensures in
    subst (λ (q : Progress). UnitWrites g.D.Counts ⊥ c.args.self.now q c.args.meta.now c.args.meta.now old c.put.new.device) (sym c.self.view_is)
    (undone_writes g.D.Counts old c.put.new.device c.args.self.now c.args.meta.now v main (g.met.D.VirtualPages.numbers old c.requires.formed) c.requires.some c.requires.order due c.put.ensures.passes.named.same_shape
    (c.put.result ≡ write.Done) t numbers (c.put.ensures.undone t (failed_is c.put.result c.in-Fault.is)) (c.put.ensures.same t (failed_is c.put.result c.in-Fault.is)) (c.put.ensures.left t))

pub returns-in-Done-clause-home : goal.returns-in-Done-clause-home
returns-in-Done-clause-home g c t =
    let G = g.D.Counts in
    let old = c.args.device.now in
    let frozen = c.args.meta.now.frozen in
    let v = c.due-vaddr.result in
    let main = c.due-vaddr.new.page.main in
    let due = subst (λ (q : Progress). IsDue q.phase q.number frozen v main) c.self.view_is c.due-vaddr.ensures in
    done_home c.args.self.now.phase c.args.self.now.number frozen v main (G.shape old).vaddrs (c.requires.order.pages c.requires.some) c.requires.order.phase due (UnitIsDone c.advance.result) c.advance.ensures.done
    (bytes_of (G.map old)) (bytes_of (G.map c.put.new.device)) (c.put.ensures.raw t c.in-Done.is)

pub returns-in-Fault-clause-home : goal.returns-in-Fault-clause-home
returns-in-Fault-clause-home g c t =
    let G = g.D.Counts in
    let old = c.args.device.now in
    undone_home c.args.self.now.phase c.args.meta.now.frozen (G.shape old).vaddrs ⊥ (λ d. d) (bytes_of (G.map old)) (bytes_of (G.map c.put.new.device)) (c.put.ensures.same t (failed_is c.put.result c.in-Fault.is))
