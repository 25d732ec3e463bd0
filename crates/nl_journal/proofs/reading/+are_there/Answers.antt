use Rattle.std.proofs.Common.{◌+◌, ◌-◌, ap, is_some, option_map, arith}
use Rattle.nl_iface.specs.Stored.{Value}
use Rattle.nl_journal.specs.Opening.{are_there}
use Rattle.nl_journal.specs.Outcomes.{bytes_of}
use Rattle.nl_journal.proofs.Addresses.{addresses_of}
use Rattle.nl_journal.proofs.Openings.{some_is, there_on}
use Rattle.nl_journal.proofs.reading.+are_there.Goals as goal

pub see-requires-clause-within : goal.see-requires-clause-within
see-requires-clause-within g m c =
    let wide = addresses_of (g.D.Counts.shape c.args.device.now) (g.met.D.VirtualPages.numbers c.args.device.now c.requires.formed) in
    let few = c.requires.few in
    let some = c.if-count-eq0.false in
    omega (arith, wide, few, some)

pub returns-in-There-clause-images : goal.returns-in-There-clause-images
returns-in-There-clause-images g m c t =
    let d = g.D.Counts in
    let old = bytes_of (d.map c.args.device.now) in
    let mid = bytes_of (d.map c.see.new.device) in
    some_is c.are_there.result (are_there mid (c.args.from + 1) (c.args.count - 1)) (are_there old c.args.from c.args.count)
    (there_on old mid c.args.from c.args.count c.if-count-eq0.false (λ v. ap (option_map (λ (x : Value). x.1)) (c.see.ensures.kept.medium.virtual.same_map t v)) (ap is_some (c.in-There.ensures.seen t))) (c.are_there.ensures.images t)
