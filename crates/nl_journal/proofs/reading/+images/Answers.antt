use Rattle.std.proofs.Common.{◌≡◌, ℕ, ◌+◌, ◌-◌, ap, option_map, length, subst, arith}
use Rattle.std.specs.Prelude.{IfSome}
use Rattle.nl_iface.specs.Stored.{Value}
use Rattle.nl_journal.specs.Opening.{are_there}
use Rattle.nl_journal.specs.Outcomes.{bytes_of}
use Rattle.nl_journal.proofs.Openings.{some_is, there_none, there_not, there_on}
use Rattle.nl_journal.proofs.Restores.{restored-all, restored-as}
use Rattle.nl_journal.proofs.reading.+images.Goals as goal

pub returns-then-len-from-clause-images : goal.returns-then-len-from-clause-images
returns-then-len-from-clause-images g m c t =
    there_none (bytes_of (g.D.Counts.map c.args.device.now)) c.args.from (length c.args.addresses.now - c.args.from) (let l = c.if-len-from.true in omega (arith, l))

pub returns-then-len-from-clause-restored : goal.returns-then-len-from-clause-restored
returns-then-len-from-clause-restored g m c =
    let e : c.args.from ≡ length c.args.addresses.now = let w = c.requires.within in let l = c.if-len-from.true in omega (arith, w, l) in
    λ t. restored-all g.D.Counts.tells (bytes_of (g.D.Counts.map c.args.device.now)) c.args.addresses.now c.args.from c.args.meta.now e c.requires.before

pub returns-in-There-clause-restored : goal.returns-in-There-clause-restored
returns-in-There-clause-restored g m c =
    let d = g.D.Counts in
    let old = bytes_of (d.map c.args.device.now) in
    let mid = bytes_of (d.map c.image.new.device) in
    let same : d.tells → (v : ℕ) → mid v ≡ old v = λ t v. ap (option_map (λ (x : Value). x.1)) (c.image.ensures.kept.medium.virtual.same_map t v) in
    λ e. restored-as d.tells old mid c.args.addresses.now (length c.args.addresses.now) c.images.new.meta c.requires.few (λ t v _. same t v) (c.images.ensures.restored e)

pub returns-in-There-clause-images : goal.returns-in-There-clause-images
returns-in-There-clause-images g m c t =
    let d = g.D.Counts in
    let old = bytes_of (d.map c.args.device.now) in
    let mid = bytes_of (d.map c.image.new.device) in
    let same : (v : ℕ) → mid v ≡ old v = λ v. ap (option_map (λ (x : Value). x.1)) (c.image.ensures.kept.medium.virtual.same_map t v) in
    let count = length c.args.addresses.now - c.args.from in
    let less : length c.args.addresses.now - (c.args.from + 1) ≡ count - 1 = omega arith in
    some_is c.images.result (are_there mid (c.args.from + 1) (count - 1)) (are_there old c.args.from count)
    (there_on old mid c.args.from count (λ e. let more = c.if-len-from.false in omega (arith, e, more)) same (c.in-There.ensures.tells t))
    (subst (λ (n : ℕ). IfSome c.images.result (λ b. b ≡ are_there mid (c.args.from + 1) n)) less (c.images.ensures.images t))

pub returns-in-Absent-clause-images : goal.returns-in-Absent-clause-images
returns-in-Absent-clause-images g m c t =
    there_not (bytes_of (g.D.Counts.map c.args.device.now)) c.args.from (length c.args.addresses.now - c.args.from) (let more = c.if-len-from.false in omega (arith, more)) (c.in-Absent.ensures.tells t)
