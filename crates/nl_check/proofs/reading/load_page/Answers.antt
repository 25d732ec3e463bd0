use Rattle.std.proofs.Common.{◌<◌, ◌∙◌, ℕ, sym, subst}
use Rattle.nl_field.specs.Virtual.{map_bytes}
use Rattle.nl_meta.specs.Pages.{Pages}
use Rattle.nl_check.specs.Reading.{IsResident, MakesResident}
use Rattle.nl_inode.proofs.FetchFacts.{none-of, not-dirty}
use Rattle.nl_recover.proofs.LoadFacts.{admitted-settled, dismissed-settled, settled-there}
use Rattle.nl_check.proofs.Resident.{admitted-makes, dismissed-makes, makes-none}
use Rattle.nl_check.proofs.reading.load_page.Goals as goal

pub returns-then-resident-clause-loads : goal.returns-then-resident-clause-loads
returns-then-resident-clause-loads g c = λ _. makes-none g.D.Counts.tells (map_bytes (g.D.Counts.shape c.args.device.now) (g.D.Counts.map c.args.device.now)) c.args.meta.now

pub returns-then-resident-clause-resident : goal.returns-then-resident-clause-resident
returns-then-resident-clause-resident g c = λ _. settled-there g.D.Counts.tells (map_bytes (g.D.Counts.shape c.args.device.now) (g.D.Counts.map c.args.device.now)) c.args.meta.now c.args.vaddr (sym c.resident.ensures ∙ c.if-resident.true)

pub dismiss-requires-clause-clean : goal.dismiss-requires-clause-clean
dismiss-requires-clause-clean g c = not-dirty c.args.meta.now c.args.vaddr c.stands.ensures (none-of _ (sym c.resident.ensures ∙ c.if-resident.false))

pub returns-in-Ready-clause-loads : goal.returns-in-Ready-clause-loads
returns-in-Ready-clause-loads g c = λ _. admitted-makes g.D.Counts.tells (map_bytes (g.D.Counts.shape c.args.device.now) (g.D.Counts.map c.args.device.now)) c.args.meta.now c.args.vaddr c.read_into.new.page.main (subst (λ (n : ℕ). c.args.vaddr < n) (sym c.requires.count) c.requires.within) (none-of _ (sym c.resident.ensures ∙ c.if-resident.false)) c.in-Ready.ensures.page

pub returns-in-Ready-clause-resident : goal.returns-in-Ready-clause-resident
returns-in-Ready-clause-resident g c = λ _. admitted-settled g.D.Counts.tells (map_bytes (g.D.Counts.shape c.args.device.now) (g.D.Counts.map c.args.device.now)) c.args.meta.now c.args.vaddr c.read_into.new.page.main (subst (λ (n : ℕ). c.args.vaddr < n) (sym c.requires.count) c.requires.within) (none-of _ (sym c.resident.ensures ∙ c.if-resident.false)) c.in-Ready.ensures.page

pub returns-in-Absent-clause-loads : goal.returns-in-Absent-clause-loads
returns-in-Absent-clause-loads g c = λ _. subst (λ (q : Pages). MakesResident g.D.Counts.tells (map_bytes (g.D.Counts.shape c.args.device.now) (g.D.Counts.map c.args.device.now)) c.args.meta.now q) (sym c.dismiss.ensures) (dismissed-makes g.D.Counts.tells (map_bytes (g.D.Counts.shape c.args.device.now) (g.D.Counts.map c.args.device.now)) c.args.meta.now c.args.vaddr c.read_into.new.page.main (subst (λ (n : ℕ). c.args.vaddr < n) (sym c.requires.count) c.requires.within) (none-of _ (sym c.resident.ensures ∙ c.if-resident.false)))

pub returns-in-Absent-clause-resident : goal.returns-in-Absent-clause-resident
returns-in-Absent-clause-resident g c = λ _. subst (λ (q : Pages). IsResident g.D.Counts.tells (map_bytes (g.D.Counts.shape c.args.device.now) (g.D.Counts.map c.args.device.now)) c.args.meta.now q c.args.vaddr) (sym c.dismiss.ensures) (dismissed-settled g.D.Counts.tells (map_bytes (g.D.Counts.shape c.args.device.now) (g.D.Counts.map c.args.device.now)) c.args.meta.now c.args.vaddr c.read_into.new.page.main (subst (λ (n : ℕ). c.args.vaddr < n) (sym c.requires.count) c.requires.within) (none-of _ (sym c.resident.ensures ∙ c.if-resident.false)) c.in-Absent.ensures.page)
