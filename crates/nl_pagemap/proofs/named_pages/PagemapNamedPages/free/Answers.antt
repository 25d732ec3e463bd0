use Rattle.std.proofs.Common.{◌+◌, refl, arith, ◌∙◌, ap, sym, subst}
use Rattle.nl_pagemap.specs.Mapped.{live_among, page_live, seen}
use Rattle.nl_pagemap.specs.Placing.{dropped}
use Rattle.nl_pagemap.specs.Stands.{IsMapped}
use Rattle.nl_pagemap.proofs.Dropped.{count_dropped, dropped_mapped, dropped_within, led_entry, live_dropped}
use Rattle.nl_pagemap_names.specs.Table.{Table, live_at}
use Rattle.nl_pagemap.proofs.named_pages.PagemapNamedPages.free.Goals as goal

pub release-requires : goal.release-requires
release-requires g c =
    let d = c.args.self.now in
    let was = led_entry (live_at d.table c.args.at.name) c.args.at.stamp (sym c.leads.ensures ∙ c.if-not-leads.false) in
    dropped_within (seen g.M.Nand.contents d) c.requires.formed c.args.at.name was.0 was.1

pub overflow_sub-self : goal.overflow_sub-self
overflow_sub-self g c =
    let d = c.args.self.now in
    let was = led_entry (live_at d.table c.args.at.name) c.args.at.stamp (sym c.leads.ensures ∙ c.if-not-leads.false) in
    let less = count_dropped (seen g.M.Nand.contents d) c.requires.formed c.args.at.name was.0 was.1 in
    let count = c.requires.formed.count in
    omega (arith, less, count)

pub returns-clause-formed : goal.returns-clause-formed
returns-clause-formed g c =
    let d = c.args.self.now in
    let s = seen g.M.Nand.contents d in
    let was = led_entry (live_at d.table c.args.at.name) c.args.at.stamp (sym c.leads.ensures ∙ c.if-not-leads.false) in
    subst (λ (t : Table). IsMapped g.M.Nand.tells (g.M.Nand.geometry d.media) (record (dropped c.args.at.name s) { table = t })) (sym c.release.ensures)
    (dropped_mapped s c.requires.formed c.args.at.name was.0 was.1)

pub returns-clause-freed : goal.returns-clause-freed
returns-clause-freed g c is =
    let d = c.args.self.now in
    let s = seen g.M.Nand.contents d in
    let was = led_entry (live_at d.table c.args.at.name) c.args.at.stamp (sym c.leads.ensures ∙ c.if-not-leads.false) in
    record {
      names = record {
        live = λ q. ap (λ (t : Table). page_live t q) c.release.ensures ∙ live_dropped s c.requires.formed c.args.at.name was.0 was.1 q;
        pairs = refl;
        pending = refl;
        handled = λ x has. refl;
        posted = refl;
      };
      space = record {
        same = record { block = refl; all = refl; bad = omega arith; kept = refl };
        bad = refl;
        lessened = record { victim = refl; waiting = omega arith; pairs = omega arith; left = omega arith; left_most = omega arith; lands = λ none can. can };
        blocks = refl;
        live = ap (λ (t : Table). live_among d.shape t + 1) c.release.ensures ∙ count_dropped s c.requires.formed c.args.at.name was.0 was.1;
        reach = omega arith;
        room = omega arith;
        exact = λ none. (refl, refl);
      };
    }
