use Rattle.std.specs.List.{list_all}
use Rattle.std.proofs.Common.{rules, ◌≡◌, ◌-◌, ℕ, length, nat_lt, true, sym, ◌∙◌, ap, refl, subst, arith}
use Rattle.nl_meta.specs.Pages.{Pages, no_pages}
use Rattle.nl_journal.specs.Opening.{are_there}
use Rattle.nl_journal.specs.Outcomes.{bytes_of}
use Rattle.nl_journal.specs.Restoring.{AreRestored}
use Rattle.nl_journal.proofs.BackFacts.{header-parts}
use Rattle.nl_journal.proofs.Openings.{counted_all, counted_none}
use Rattle.nl_journal.proofs.Restores.{none-count, restored-none}
use Rattle.nl_journal.proofs.journal.Journal.bring_images.Goals as goal

pub images-requires-clause-few : goal.images-requires-clause-few
images-requires-clause-few g c = (header-parts c.args.header c.requires.listing.spelled).1

pub images-requires-clause-rise : goal.images-requires-clause-rise
images-requires-clause-rise g c = (header-parts c.args.header c.requires.listing.spelled).2

pub images-requires-clause-inside : goal.images-requires-clause-inside
images-requires-clause-inside g c =
    subst (λ (n : ℕ). list_all (λ a. nat_lt a n) c.args.header.addresses ≡ true)
    (sym (ap (λ (p : Pages). length p.running) c.requires.none ∙ none-count (g.D.Counts.shape c.args.device.now).vaddrs)) c.requires.listing.within

pub images-requires-clause-before : goal.images-requires-clause-before
images-requires-clause-before g c =
    subst (λ (p : Pages). AreRestored g.D.Counts.tells (bytes_of (g.D.Counts.map c.args.device.now)) c.args.header.addresses 0 p) (sym c.requires.none)
    (restored-none g.D.Counts.tells (bytes_of (g.D.Counts.map c.args.device.now)) c.args.header.addresses (g.D.Counts.shape c.args.device.now).vaddrs)

pub returns-in-Some-false-clause-found : goal.returns-in-Some-false-clause-found
returns-in-Some-false-clause-found g c t =
    let old = bytes_of (g.D.Counts.map c.args.device.now) in
    let whole : length c.args.header.addresses ≡ length c.args.header.addresses - 0 = omega arith in
    c.requires.decides t ∙ counted_none old c.args.header (ap (are_there old 0) whole ∙ sym (c.in-Some-false.ensures.images t) ∙ c.in-Some-false.field-0-test)

pub returns-in-Some-false-clause-count : goal.returns-in-Some-false-clause-count
returns-in-Some-false-clause-count g c =
    ap (λ (p : Pages). length p.running) c.clear.ensures ∙ none-count (length c.images.new.meta.running) ∙ c.images.ensures.count

pub returns-in-Some-false-clause-restored : goal.returns-in-Some-false-clause-restored
returns-in-Some-false-clause-restored g c =
    c.clear.ensures ∙ ap no_pages (c.images.ensures.count ∙ ap (λ (p : Pages). length p.running) c.requires.none ∙ none-count (g.D.Counts.shape c.args.device.now).vaddrs)

pub returns-in-Some-true-clause-found : goal.returns-in-Some-true-clause-found
returns-in-Some-true-clause-found g c t =
    let old = bytes_of (g.D.Counts.map c.args.device.now) in
    let whole : length c.args.header.addresses ≡ length c.args.header.addresses - 0 = omega arith in (
      c.args.header,
      c.requires.decides t ∙ counted_all old c.args.header (ap (are_there old 0) whole ∙ sym (c.in-Some-true.ensures.images t) ∙ c.in-Some-true.field-0-test),
      refl,
    )

pub returns-in-Some-true-clause-restored : goal.returns-in-Some-true-clause-restored
returns-in-Some-true-clause-restored g c = record {
  header = c.args.header;
  spelled = c.requires.listing.spelled;
  stands = c.requires.header;
  restored = c.images.ensures.restored (search rules);
}
