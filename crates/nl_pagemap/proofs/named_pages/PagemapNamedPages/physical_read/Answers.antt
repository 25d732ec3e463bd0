use Rattle.std.proofs.Common.{rules, ◌≡◌, ◌+◌, ◌*◌, Option, Some, option_map, refl, sym, ◌∙◌, ap, subst, arith}
use Rattle.nl_field.specs.CrashStates.{saturated}
use Rattle.nl_field.specs.Page.{Image, page_at}
use Rattle.nl_iface.specs.Found.{IsUnderTag}
use Rattle.nl_iface.specs.Names.{has_tag}
use Rattle.nl_nand.specs.declared.geometry.Geometry.{Geometry}
use Rattle.nl_pagemap.specs.Laws.{live_entry}
use Rattle.nl_pagemap.specs.Mapped.{bytes_by, named_by, page_of, seen, stored_in}
use Rattle.nl_pagemap.specs.Stands.{IsMapped}
use Rattle.nl_pagemap.proofs.Found.{finds_either, finds_page, led_not, loses, not_lost, read_counted, under_other}
use Rattle.nl_pagemap.proofs.Programmed.{spelled}
use Rattle.nl_pagemap_names.specs.Table.{entry_at}
use Rattle.nl_pagemap_names.specs.declared.entry.Entry.{Entry}
use Rattle.nl_pseg_pages.specs.Pages.{main_of}
use Rattle.nl_vseg.specs.Places.{map_of}
use Rattle.nl_pagemap.proofs.named_pages.PagemapNamedPages.physical_read.Goals as goal

pub returns-then-ne-clause-answer : goal.returns-then-ne-clause-answer
returns-then-ne-clause-answer g c =
    let live = c.in-Some.ensures.some in
    let other : c.in-Some.entry.tag ≡ c.args.tag → ⊥ = search rules in
    record {
      not_live = led_not _ _ c.in-Some.entry c.args.at.stamp (λ e. cc) live.0 live.1;
      lost = (refl, λ e. absurd (let some = (c.requires.formed.entries c.args.at.name c.in-Some.entry (live_entry c.args.self.now.table.entries c.args.self.now.table.used c.args.at.name c.in-Some.entry live.0)).some in let same = live.1 in omega (arith, e, some, same)));
      owner = λ is. cc;
      bytes = λ t is. cc;
      told = λ t owned lost. absurd (other (subst (λ (o : Option Entry). has_tag (option_map page_of o) c.args.tag) live.0 owned));
    }

pub returns-then-ne-clause-told : goal.returns-then-ne-clause-told
returns-then-ne-clause-told g c t =
    let d = c.args.self.now in
    let live = c.in-Some.ensures.some in
    let e = c.in-Some.entry in
    let other : c.in-Some.entry.tag ≡ c.args.tag → ⊥ = search rules in
    let here : entry_at d.table c.args.at.name ≡ Some e = live_entry d.table.entries d.table.used c.args.at.name e live.0 in
    subst (λ (o : Option Entry). IsUnderTag (named_by (g.M.Nand.contents d.media) o) c.args.tag 0) (sym here)
    (under_other (g.M.Nand.contents d.media) e c.args.tag ((c.requires.formed.medium t).holds c.args.at.name e here) other)

pub read_page-requires-clause-within : goal.read_page-requires-clause-within
read_page-requires-clause-within g c =
    let d = c.args.self.now in
    let f = c.requires.formed in
    let e = c.in-Some.entry in
    let lt = (f.entries c.args.at.name e (live_entry d.table.entries d.table.used c.args.at.name e c.in-Some.ensures.some.0)).page_below in
    let fit = f.room in
    let all : (g.M.Nand.geometry d.media).blocks * (g.M.Nand.geometry d.media).pages ≡ d.shape.blocks * d.shape.pages = λ i. f.blocks i * f.pages i in
    omega (arith, lt, fit, all)

pub read_page-requires-clause-spelled : goal.read_page-requires-clause-spelled
read_page-requires-clause-spelled g c =
    let d = c.args.self.now in
    let f = c.requires.formed in
    let e = c.in-Some.entry in
    let live = c.in-Some.ensures.some in
    let is = f.entries c.args.at.name e (live_entry d.table.entries d.table.used c.args.at.name e live.0) in
    let some = is.some in
    let below = is.stamp in
    let most = f.most in
    let same = live.1 in
    spelled c.args.at.stamp (omega (arith, some, same)) (omega (arith, below, most, same))

pub returns-clause-formed : goal.returns-clause-formed
returns-clause-formed g c =
    let d = c.args.self.now in
    let s = seen g.M.Nand.contents d in
    let e = c.read_page.ensures in
    subst (λ (x : Geometry). IsMapped g.M.Nand.tells x (record s { image = g.M.Nand.contents c.read_page.new.media })) (sym e.geometry)
    (subst (λ (x : Image). IsMapped g.M.Nand.tells (g.M.Nand.geometry d.media) (record s { image = x })) (sym e.contents) c.requires.formed)

pub returns-clause-answer : goal.returns-clause-answer
returns-clause-answer g c =
    let d = c.args.self.now in
    let e = c.read_page.ensures in
    let live = c.in-Some.ensures.some in
    let entry = c.in-Some.entry in
    let same : c.in-Some.entry.tag ≡ c.args.tag = search rules in
    let here : entry_at d.table c.args.at.name ≡ Some entry = live_entry d.table.entries d.table.used c.args.at.name entry live.0 in
    let image = g.M.Nand.contents d.media in
    record {
      not_live = led_not c.read_page.result _ entry c.args.at.stamp e.live live.0 live.1;
      lost = loses c.args.at.stamp c.read_page.result e.lost;
      owner = λ is. subst (λ (o : Option Entry). has_tag (option_map page_of o) c.args.tag) (sym live.0) same;
      bytes = λ t is. sym (ap (λ (o : Option Entry). bytes_by image o) here ∙ ap main_of (e.value t is));
      told = λ t owned lost. not_lost c.read_page.result (e.kept t ((c.requires.formed.medium t).holds c.args.at.name entry here ∙ (λ i. Some (same i, live.1 i, main_of (page_at image entry.page))))) lost;
    }

pub returns-clause-found : goal.returns-clause-found
returns-clause-found g c = finds_page c.read_page.new.buf c.read_page.result c.read_page.ensures.found

pub returns-clause-told : goal.returns-clause-told
returns-clause-told g c t =
    let d = c.args.self.now in
    let live = c.in-Some.ensures.some in
    let entry = c.in-Some.entry in
    let same : c.in-Some.entry.tag ≡ c.args.tag = search rules in
    let here : entry_at d.table c.args.at.name ≡ Some entry = live_entry d.table.entries d.table.used c.args.at.name entry live.0 in
    finds_either _ c.args.tag c.read_page.result
    (c.read_page.ensures.kept t ((c.requires.formed.medium t).holds c.args.at.name entry here ∙ (λ i. Some (same i, live.1 i, main_of (page_at (g.M.Nand.contents d.media) entry.page)))))

pub returns-clause-kept : goal.returns-clause-kept
returns-clause-kept g c =
    let d = c.args.self.now in
    let e = c.read_page.ensures in
    let s = seen g.M.Nand.contents d in
    record {
      medium = record {
        virtual = record {
          same_shape = refl;
          same_stamps = λ v. refl;
          same_map = λ t v. ap (λ (x : Image). map_of d.vseg.places x v) e.contents;
          no_failed = λ t v x no. no;
          spare = λ k. k;
        };
        contents = λ t. ap (λ (x : Image). stored_in (record s { image = x })) e.contents;
        left = λ t m x l. (l.0 ∙ e.clock, l.1 ∙ ap (λ (y : Image). stored_in (record s { image = y })) e.contents);
        bytes = λ t p. ap (λ (x : Image). bytes_by x (entry_at d.table p)) e.contents;
        found = refl;
        next_stamp = refl;
        clean = λ k. k;
        clock = e.clock;
        write_faults = ap (λ n. saturated (n + d.refused)) e.write_faults;
      };
      names = refl;
    }

pub returns-clause-faults : goal.returns-clause-faults
returns-clause-faults g c = read_counted _ _ _ c.read_page.ensures.read_faults
