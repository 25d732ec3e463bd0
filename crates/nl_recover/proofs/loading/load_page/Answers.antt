use Rattle.std.proofs.Common.{◌<◌, ◌∙◌, ℕ, sym, subst}
use Rattle.nl_field.specs.Virtual.{map_bytes}
use Rattle.nl_meta.specs.Pages.{Pages}
use Rattle.nl_recover.specs.Loading.{LoadsMetadata, Settled}
use Rattle.nl_inode.proofs.FetchFacts.{none-of, not-dirty}
use Rattle.nl_recover.proofs.LoadFacts.{admitted-loads, admitted-settled, dismissed-loads, dismissed-settled, loads-none, settled-there}
use Rattle.nl_recover.proofs.loading.load_page.Goals as goal

pub returns-then-resident-clause-loads : goal.returns-then-resident-clause-loads
returns-then-resident-clause-loads g c = λ _. loads-none g.D.Counts.tells (map_bytes (g.D.Counts.shape c.args.device.now) (g.D.Counts.map c.args.device.now)) c.args.meta.now

pub returns-then-resident-clause-settled : goal.returns-then-resident-clause-settled
returns-then-resident-clause-settled g c = λ _. settled-there g.D.Counts.tells (map_bytes (g.D.Counts.shape c.args.device.now) (g.D.Counts.map c.args.device.now)) c.args.meta.now c.args.vaddr (sym c.resident.ensures ∙ c.if-resident.true)

pub dismiss-requires-clause-clean : goal.dismiss-requires-clause-clean
dismiss-requires-clause-clean g c = not-dirty c.args.meta.now c.args.vaddr c.stands.ensures (none-of _ (sym c.resident.ensures ∙ c.if-resident.false))

pub returns-in-Ready-clause-loads : goal.returns-in-Ready-clause-loads
returns-in-Ready-clause-loads g c = λ _. admitted-loads g.D.Counts.tells (map_bytes (g.D.Counts.shape c.args.device.now) (g.D.Counts.map c.args.device.now)) c.args.meta.now c.args.vaddr c.read_into.new.page.main (subst (λ (n : ℕ). c.args.vaddr < n) (sym c.requires.count) c.requires.within) (none-of _ (sym c.resident.ensures ∙ c.if-resident.false)) c.requires.apart c.in-Ready.ensures.page

pub returns-in-Ready-clause-settled : goal.returns-in-Ready-clause-settled
returns-in-Ready-clause-settled g c = λ _. admitted-settled g.D.Counts.tells (map_bytes (g.D.Counts.shape c.args.device.now) (g.D.Counts.map c.args.device.now)) c.args.meta.now c.args.vaddr c.read_into.new.page.main (subst (λ (n : ℕ). c.args.vaddr < n) (sym c.requires.count) c.requires.within) (none-of _ (sym c.resident.ensures ∙ c.if-resident.false)) c.in-Ready.ensures.page

pub returns-in-Absent-clause-loads : goal.returns-in-Absent-clause-loads
returns-in-Absent-clause-loads g c = λ _. subst (λ (q : Pages). LoadsMetadata g.D.Counts.tells (map_bytes (g.D.Counts.shape c.args.device.now) (g.D.Counts.map c.args.device.now)) c.args.meta.now q) (sym c.dismiss.ensures) (dismissed-loads g.D.Counts.tells (map_bytes (g.D.Counts.shape c.args.device.now) (g.D.Counts.map c.args.device.now)) c.args.meta.now c.args.vaddr c.read_into.new.page.main (subst (λ (n : ℕ). c.args.vaddr < n) (sym c.requires.count) c.requires.within) (none-of _ (sym c.resident.ensures ∙ c.if-resident.false)))

pub returns-in-Absent-clause-settled : goal.returns-in-Absent-clause-settled
returns-in-Absent-clause-settled g c = λ _. subst (λ (q : Pages). Settled g.D.Counts.tells (map_bytes (g.D.Counts.shape c.args.device.now) (g.D.Counts.map c.args.device.now)) c.args.meta.now q c.args.vaddr) (sym c.dismiss.ensures) (dismissed-settled g.D.Counts.tells (map_bytes (g.D.Counts.shape c.args.device.now) (g.D.Counts.map c.args.device.now)) c.args.meta.now c.args.vaddr c.read_into.new.page.main (subst (λ (n : ℕ). c.args.vaddr < n) (sym c.requires.count) c.requires.within) (none-of _ (sym c.resident.ensures ∙ c.if-resident.false)) c.in-Absent.ensures.page)
