use Rattle.std.proofs.Common.{◌≡◌, ℕ, ◌==◌, if◌then◌else◌, nat_lt, List, map, sym, ◌∙◌, ap, subst}
use Rattle.std.proofs.lemmas.List.Sums.{count_by-le-length}
use Rattle.nl_remap.specs.declared.links.Link.{Link}
use Rattle.nl_remap.specs.Table.{IsRemap, RemapTable, led, led_on, place_of}
use Rattle.nl_remap.proofs.Ways.{ways_add}
use Rattle.nl_remap.proofs.TableProofs.{leading_more, led_none}
use Rattle.nl_remap.proofs.remap.Remap.add.Goals as goal

pub loop-name-preserved : goal.loop-name-preserved
loop-name-preserved c = rw c.lead_on.ensures.led
    (leading_more c.args.self.now.pairs c.loop-name.self.pairs c.args.self.now.room c.loop-name.self.room c.args.old c.args.new (place_of c.loop-name.self.pairs c.in-Some.name) c.in-Some.name
    c.loop-name.invariant c.lead_on.ensures.place c.lead_on.ensures.pair)

pub returns-clause-added : goal.returns-clause-added
returns-clause-added c =
    let same : c.loop-name.self.pairs ≡ map (led_on c.args.old c.args.new) c.args.self.now.pairs = sym (led_none c.loop-name.self.pairs c.args.old c.args.new c.in_default.ensures.none) ∙ c.loop-name.invariant.led in
    rw (← same, ← c.loop-name.invariant.same_room) c.put.ensures.put

pub returns-clause-ways : goal.returns-clause-ways
returns-clause-ways c =
    let xs = c.args.self.now.pairs in
    let mapped = map (led_on c.args.old c.args.new) xs in
    let added = ap (λ (t : RemapTable). t.pairs) (returns-clause-added c) in
    subst (λ (l : List Link). (name : ℕ) → led l name ≡ (if led xs name == c.args.old then c.args.new else led xs name)) (sym added)
    (ways_add xs c.args.old c.args.new (place_of mapped c.args.old) c.room.ensures.table c.requires.fresh (count_by-le-length (λ (p : Link). nat_lt p.from c.args.old) mapped)
    (subst IsRemap added c.put.ensures.table))
