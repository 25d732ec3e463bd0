use Rattle.std.proofs.Common.{◌≡◌, false, sym, ◌∙◌, ap, subst}
use Rattle.nl_field.specs.Page.{page_at, written}
use Rattle.nl_nand.specs.declared.geometry.Geometry.{Geometry}
use Rattle.nl_pagemap.specs.Cleaning.{CopiesFrom, KeepsNumbers}
use Rattle.nl_pagemap.specs.Mapped.{Mapped, seen}
use Rattle.nl_pagemap.specs.Placing.{ChangesNext, HasNext, IsProgrammed, copied, next_entry, next_of, spent}
use Rattle.nl_pagemap.specs.Stands.{IsMapped}
use Rattle.nl_pagemap.proofs.Copied.{copied_from, copied_keeps, copied_mapped, copied_off, lost_keeps, lost_mapped}
use Rattle.nl_pagemap_names.specs.Table.{given, live_at}
use Rattle.nl_pagemap_names.specs.Untried.{is_in}
use Rattle.nl_pseg_pages.specs.Pages.{page_with}
use Rattle.nl_pagemap.proofs.pagemap.Pagemap.copy_page.Goals as goal

pub returns-in-Failed-clause-formed : goal.returns-in-Failed-clause-formed
returns-in-Failed-clause-formed g c =
    let d = c.args.self.now in
    let s = seen g.M.Nand.contents d in
    let same = c.read_entry.ensures.same in
    let to = c.in-Some.to in
    let e = c.try_page.ensures in
    let image = g.M.Nand.contents c.try_page.new.self.media in
    let h : HasNext s to = subst (λ (x : Mapped). HasNext x to) same c.in-Some.ensures.some in
    let others : ChangesNext g.M.Nand.tells to s image = subst (λ (x : Mapped). ChangesNext g.M.Nand.tells to x image) same e.others in
    let path : seen g.M.Nand.contents c.try_page.new.self ≡ spent to image s = e.spends ∙ ap (λ (x : Mapped). spent to image x) same in
    subst (λ (x : Geometry). IsMapped g.M.Nand.tells x (seen g.M.Nand.contents c.try_page.new.self)) (sym (e.counted.same_geometry ∙ c.read_entry.ensures.geometry))
    (subst (λ (x : Mapped). IsMapped g.M.Nand.tells (g.M.Nand.geometry d.media) x) (sym path) (lost_mapped to s image c.requires.formed h others))

pub returns-in-Failed-clause-kept : goal.returns-in-Failed-clause-kept
returns-in-Failed-clause-kept g c =
    let d = c.args.self.now in
    let s = seen g.M.Nand.contents d in
    let same = c.read_entry.ensures.same in
    let to = c.in-Some.to in
    let e = c.try_page.ensures in
    let image = g.M.Nand.contents c.try_page.new.self.media in
    let h : HasNext s to = subst (λ (x : Mapped). HasNext x to) same c.in-Some.ensures.some in
    let others : ChangesNext g.M.Nand.tells to s image = subst (λ (x : Mapped). ChangesNext g.M.Nand.tells to x image) same e.others in
    let path : seen g.M.Nand.contents c.try_page.new.self ≡ spent to image s = e.spends ∙ ap (λ (x : Mapped). spent to image x) same in
    subst (λ (x : Mapped). KeepsNumbers g.M.Nand.tells s x) (sym path) (lost_keeps to s image c.requires.formed h others)

pub returns-in-Done-clause-formed : goal.returns-in-Done-clause-formed
returns-in-Done-clause-formed g c =
    let d = c.args.self.now in
    let s = seen g.M.Nand.contents d in
    let same = c.read_entry.ensures.same in
    let to = c.in-Some.to in
    let name = c.args.number in
    let x = c.args.entry in
    let e = c.try_page.ensures in
    let main = c.read_entry.new.self.buf.main in
    let image = g.M.Nand.contents c.try_page.new.self.media in
    let h : HasNext s to = subst (λ (y : Mapped). HasNext y to) same c.in-Some.ensures.some in
    let k : IsProgrammed g.M.Nand.tells to x.tag x.stamp main s image = record {
      others = subst (λ (y : Mapped). ChangesNext g.M.Nand.tells to y image) same e.others;
      holds = λ t. subst (λ (y : Mapped). page_at image (next_of y to) ≡ written (page_with main x.tag x.stamp 0)) same (e.programmed t c.in-Done.is);
      shows = e.shows;
    } in
    let spends : seen g.M.Nand.contents c.try_page.new.self ≡ spent to image s = e.spends ∙ ap (λ (y : Mapped). spent to image y) same in
    let page = c.next_page-page.ensures ∙ ap (λ (y : Mapped). next_of y to) same in
    let table : c.give.new.self ≡ given name (next_entry to x.tag x.stamp s) s.table = c.give.ensures ∙ (λ i. given name (record { page = page i; tag = x.tag; stamp = x.stamp }) (spends i).table) in
    let path : record (seen g.M.Nand.contents c.try_page.new.self) { table = c.give.new.self } ≡ copied to name x image s = λ i. record (spends i) { table = table i } in
    subst (λ (y : Geometry). IsMapped g.M.Nand.tells y (record (seen g.M.Nand.contents c.try_page.new.self) { table = c.give.new.self })) (sym (e.counted.same_geometry ∙ c.read_entry.ensures.geometry))
    (subst (λ (y : Mapped). IsMapped g.M.Nand.tells (g.M.Nand.geometry d.media) y) (sym path)
    (copied_mapped to name x main s image c.requires.formed h c.requires.live k (λ t. c.read_entry.ensures.bytes t c.if-not-read_entry.false)))

pub returns-in-Done-clause-kept : goal.returns-in-Done-clause-kept
returns-in-Done-clause-kept g c =
    let d = c.args.self.now in
    let s = seen g.M.Nand.contents d in
    let same = c.read_entry.ensures.same in
    let to = c.in-Some.to in
    let name = c.args.number in
    let x = c.args.entry in
    let e = c.try_page.ensures in
    let main = c.read_entry.new.self.buf.main in
    let image = g.M.Nand.contents c.try_page.new.self.media in
    let h : HasNext s to = subst (λ (y : Mapped). HasNext y to) same c.in-Some.ensures.some in
    let k : IsProgrammed g.M.Nand.tells to x.tag x.stamp main s image = record {
      others = subst (λ (y : Mapped). ChangesNext g.M.Nand.tells to y image) same e.others;
      holds = λ t. subst (λ (y : Mapped). page_at image (next_of y to) ≡ written (page_with main x.tag x.stamp 0)) same (e.programmed t c.in-Done.is);
      shows = e.shows;
    } in
    let spends : seen g.M.Nand.contents c.try_page.new.self ≡ spent to image s = e.spends ∙ ap (λ (y : Mapped). spent to image y) same in
    let page = c.next_page-page.ensures ∙ ap (λ (y : Mapped). next_of y to) same in
    let table : c.give.new.self ≡ given name (next_entry to x.tag x.stamp s) s.table = c.give.ensures ∙ (λ i. given name (record { page = page i; tag = x.tag; stamp = x.stamp }) (spends i).table) in
    let path : record (seen g.M.Nand.contents c.try_page.new.self) { table = c.give.new.self } ≡ copied to name x image s = λ i. record (spends i) { table = table i } in
    subst (λ (y : Mapped). KeepsNumbers g.M.Nand.tells s y) (sym path)
    (copied_keeps to name x main s image c.requires.formed h c.requires.live k (λ t. c.read_entry.ensures.bytes t c.if-not-read_entry.false))

pub returns-in-Done-clause-off : goal.returns-in-Done-clause-off
returns-in-Done-clause-off g c yes_done =
    let d = c.args.self.now in
    let s = seen g.M.Nand.contents d in
    let same = c.read_entry.ensures.same in
    let to = c.in-Some.to in
    let name = c.args.number in
    let x = c.args.entry in
    let e = c.try_page.ensures in
    let main = c.read_entry.new.self.buf.main in
    let image = g.M.Nand.contents c.try_page.new.self.media in
    let h : HasNext s to = subst (λ (y : Mapped). HasNext y to) same c.in-Some.ensures.some in
    let k : IsProgrammed g.M.Nand.tells to x.tag x.stamp main s image = record {
      others = subst (λ (y : Mapped). ChangesNext g.M.Nand.tells to y image) same e.others;
      holds = λ t. subst (λ (y : Mapped). page_at image (next_of y to) ≡ written (page_with main x.tag x.stamp 0)) same (e.programmed t c.in-Done.is);
      shows = e.shows;
    } in
    let spends : seen g.M.Nand.contents c.try_page.new.self ≡ spent to image s = e.spends ∙ ap (λ (y : Mapped). spent to image y) same in
    let page = c.next_page-page.ensures ∙ ap (λ (y : Mapped). next_of y to) same in
    let table : c.give.new.self ≡ given name (next_entry to x.tag x.stamp s) s.table = c.give.ensures ∙ (λ i. given name (record { page = page i; tag = x.tag; stamp = x.stamp }) (spends i).table) in
    let path : record (seen g.M.Nand.contents c.try_page.new.self) { table = c.give.new.self } ≡ copied to name x image s = λ i. record (spends i) { table = table i } in
    subst (λ (y : Mapped). is_in y.shape.pages c.args.block (live_at y.table name) ≡ false) (sym path)
    (copied_off to name x main s image c.requires.formed h c.requires.live k (λ t. c.read_entry.ensures.bytes t c.if-not-read_entry.false) c.args.block c.requires.full c.requires.here)

pub returns-in-Done-clause-copied : goal.returns-in-Done-clause-copied
returns-in-Done-clause-copied g c yes_done =
    let d = c.args.self.now in
    let s = seen g.M.Nand.contents d in
    let same = c.read_entry.ensures.same in
    let to = c.in-Some.to in
    let name = c.args.number in
    let x = c.args.entry in
    let e = c.try_page.ensures in
    let main = c.read_entry.new.self.buf.main in
    let image = g.M.Nand.contents c.try_page.new.self.media in
    let h : HasNext s to = subst (λ (y : Mapped). HasNext y to) same c.in-Some.ensures.some in
    let k : IsProgrammed g.M.Nand.tells to x.tag x.stamp main s image = record {
      others = subst (λ (y : Mapped). ChangesNext g.M.Nand.tells to y image) same e.others;
      holds = λ t. subst (λ (y : Mapped). page_at image (next_of y to) ≡ written (page_with main x.tag x.stamp 0)) same (e.programmed t c.in-Done.is);
      shows = e.shows;
    } in
    let spends : seen g.M.Nand.contents c.try_page.new.self ≡ spent to image s = e.spends ∙ ap (λ (y : Mapped). spent to image y) same in
    let page = c.next_page-page.ensures ∙ ap (λ (y : Mapped). next_of y to) same in
    let table : c.give.new.self ≡ given name (next_entry to x.tag x.stamp s) s.table = c.give.ensures ∙ (λ i. given name (record { page = page i; tag = x.tag; stamp = x.stamp }) (spends i).table) in
    let path : record (seen g.M.Nand.contents c.try_page.new.self) { table = c.give.new.self } ≡ copied to name x image s = λ i. record (spends i) { table = table i } in
    subst (λ (y : Mapped). CopiesFrom c.args.block s y) (sym path)
    (copied_from to name x main s image c.requires.formed h c.requires.live k (λ t. c.read_entry.ensures.bytes t c.if-not-read_entry.false) c.args.block c.requires.full c.requires.here)
