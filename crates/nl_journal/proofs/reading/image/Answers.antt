use Rattle.std.proofs.Common.{◌≡◌, ℕ, ◌+◌, ◌<◌, ◌≤◌, ◌++◌, ◌∷◌, [], true, None, ap, is_some, option_map, length, nat_lt, get_or, sym, subst, ◌∙◌, arith}
use Rattle.std.specs.List.{list_all}
use Rattle.nl_iface.specs.Stored.{Value}
use Rattle.nl_meta.specs.Pages.{Pages, page_of, rises}
use Rattle.nl_meta.specs.Steps.{with_restored}
use Rattle.nl_journal.specs.Outcomes.{bytes_of}
use Rattle.nl_journal.specs.Restoring.{AreRestored}
use Rattle.nl_journal.proofs.Addresses.{addresses_of}
use Rattle.nl_journal.proofs.Restores.{absent-yet, few-frozen, inside-at, last-rises, one-more, restored-as, restored-count}
use Rattle.nl_journal.proofs.reading.image.Goals as goal

pub see-requires-clause-within : goal.see-requires-clause-within
see-requires-clause-within g c =
    let wide = addresses_of (g.D.Counts.shape c.args.device.now) (g.met.D.VirtualPages.numbers c.args.device.now c.requires.formed) in
    let few = c.requires.few in
    let below = c.requires.below in
    omega (arith, wide, few, below)

pub restore-requires-clause-inside : goal.restore-requires-clause-inside
restore-requires-clause-inside g c =
    subst (λ (a : ℕ). a < length c.args.meta.now.running) (sym c.get.ensures) (inside-at (length c.args.meta.now.running) c.args.addresses.now c.args.at c.requires.inside c.requires.below)

pub restore-requires-clause-absent : goal.restore-requires-clause-absent
restore-requires-clause-absent g c =
    subst (λ (a : ℕ). page_of c.args.meta.now a ≡ None) (sym c.get.ensures)
    (absent-yet g.D.Counts.tells (bytes_of (g.D.Counts.map c.args.device.now)) c.args.addresses.now c.args.at c.args.meta.now c.requires.rise c.requires.below c.requires.before)

pub restore-requires-clause-last : goal.restore-requires-clause-last
restore-requires-clause-last g c =
    subst (λ (a : ℕ). rises (c.args.meta.now.frozen.addresses ++ a ∷ []) ≡ true) (sym c.get.ensures)
    (last-rises g.D.Counts.tells (bytes_of (g.D.Counts.map c.args.device.now)) c.args.addresses.now c.args.at c.args.meta.now c.requires.rise c.requires.below c.requires.before)

pub restore-requires-clause-few : goal.restore-requires-clause-few
restore-requires-clause-few g c = few-frozen g.D.Counts.tells (bytes_of (g.D.Counts.map c.args.device.now)) c.args.addresses.now c.args.at c.args.meta.now c.requires.rise c.requires.below c.requires.before c.requires.few

pub returns-in-There-clause-count : goal.returns-in-There-clause-count
returns-in-There-clause-count g c = ap (λ (p : Pages). length p.running) c.restore.ensures ∙ restored-count c.args.meta.now c.get.result.now c.see.new.page.main

pub returns-in-There-clause-inside : goal.returns-in-There-clause-inside
returns-in-There-clause-inside g c =
    subst (λ (n : ℕ). list_all (λ a. nat_lt a n) c.args.addresses.now ≡ true) (sym (ap (λ (p : Pages). length p.running) c.restore.ensures ∙ restored-count c.args.meta.now c.get.result.now c.see.new.page.main)) c.requires.inside

pub returns-in-There-clause-tells : goal.returns-in-There-clause-tells
returns-in-There-clause-tells g c t = ap is_some (c.in-There.ensures.seen t)

pub returns-in-There-clause-restored : goal.returns-in-There-clause-restored
returns-in-There-clause-restored g c =
    let d = g.D.Counts in
    let old = bytes_of (d.map c.args.device.now) in
    let mid = bytes_of (d.map c.see.new.device) in
    let same : d.tells → (v : ℕ) → mid v ≡ old v = λ t v. ap (option_map (λ (x : Value). x.1)) (c.see.ensures.kept.medium.virtual.same_map t v) in
    let few : c.args.at ≤ 64 = let f = c.requires.few in let b = c.requires.below in omega (arith, b, f) in
    let e : c.get.result.now ≡ get_or c.args.addresses.now c.args.at 0 = c.get.ensures in
    subst (λ (p : Pages). AreRestored d.tells mid c.args.addresses.now (c.args.at + 1) p) (sym c.restore.ensures)
    (subst (λ (a : ℕ). AreRestored d.tells mid c.args.addresses.now (c.args.at + 1) (with_restored c.args.meta.now a c.see.new.page.main)) (sym e)
    (one-more d.tells mid c.args.addresses.now c.args.at c.args.meta.now c.requires.rise c.requires.below
    (restored-as d.tells mid old c.args.addresses.now c.args.at c.args.meta.now few (λ t v _. sym (same t v)) c.requires.before)
    c.see.new.page.main c.stands.ensures (inside-at (length c.args.meta.now.running) c.args.addresses.now c.args.at c.requires.inside c.requires.below)
    (λ t. same t (2 + c.args.at) ∙ c.in-There.ensures.seen t)))
