use Rattle.std.proofs.Common.{◌≡◌, ◌+◌, ◌∙◌, refl, sym, ap, subst}
use Rattle.nl_field.specs.CrashStates.{saturated}
use Rattle.nl_field.specs.Page.{Image}
use Rattle.nl_nand.specs.declared.geometry.Geometry.{Geometry}
use Rattle.nl_pagemap.specs.Mapped.{Mapped, bytes_by, seen, stored_in}
use Rattle.nl_pagemap.specs.Stands.{IsMapped}
use Rattle.nl_pagemap.proofs.Found.{finds_stamp, read_counted}
use Rattle.nl_pagemap.proofs.Written.{fits}
use Rattle.nl_pagemap_names.specs.Table.{entry_at}
use Rattle.nl_vseg.specs.Places.{map_of, stamp_for}
use Rattle.nl_vseg.specs.Segment.{Segment, SegmentHasUnmapped}
use Rattle.nl_pagemap.proofs.virtual_pages.PagemapVirtualPages.virtual_read.Goals as goal

pub virtual_read-requires-clause-fits : goal.virtual_read-requires-clause-fits
virtual_read-requires-clause-fits g c = fits (seen g.M.Nand.contents c.args.self.now) c.requires.formed

pub returns-clause-formed : goal.returns-clause-formed
returns-clause-formed g c =
    let d = c.args.self.now in
    let e = c.virtual_read.ensures in
    let s = seen g.M.Nand.contents d in
    let same : record s { vseg = c.virtual_read.new.self; image = g.M.Nand.contents c.virtual_read.new.media } ≡ s = λ i. record s { vseg = e.segment i; image = e.only_reads.same_contents i } in
    subst (λ (x : Geometry). IsMapped g.M.Nand.tells x (record s { vseg = c.virtual_read.new.self; image = g.M.Nand.contents c.virtual_read.new.media })) (sym e.only_reads.same_geometry)
    (subst (λ (x : Mapped). IsMapped g.M.Nand.tells (g.M.Nand.geometry d.media) x) (sym same) c.requires.formed)

pub returns-clause-found : goal.returns-clause-found
returns-clause-found g c = finds_stamp c.virtual_read.new.buf c.virtual_read.result c.virtual_read.ensures.found

pub returns-clause-kept : goal.returns-clause-kept
returns-clause-kept g c =
    let d = c.args.self.now in
    let e = c.virtual_read.ensures in
    let s = seen g.M.Nand.contents d in
    let same : record s { vseg = c.virtual_read.new.self; image = g.M.Nand.contents c.virtual_read.new.media } ≡ s = λ i. record s { vseg = e.segment i; image = e.only_reads.same_contents i } in
    record {
      medium = record {
        virtual = record {
          same_shape = refl;
          same_stamps = λ v. ap (λ (x : Segment). stamp_for x.places v) e.segment;
          same_map = λ t v. ap (λ (x : Mapped). map_of x.vseg.places x.image v) same;
          no_failed = λ t v x no. no;
          spare = λ k. subst SegmentHasUnmapped (sym e.segment) k;
        };
        contents = λ t. ap stored_in same;
        left = λ t m x l. (l.0 ∙ e.only_reads.same_clock, l.1 ∙ ap stored_in same);
        bytes = λ t p. ap (λ (x : Image). bytes_by x (entry_at d.table p)) e.only_reads.same_contents;
        found = refl;
        next_stamp = refl;
        clean = λ k. k;
        clock = e.only_reads.same_clock;
        write_faults = ap (λ n. saturated (n + d.refused)) e.only_reads.same_write_faults;
      };
      names = refl;
    }

pub returns-clause-faults : goal.returns-clause-faults
returns-clause-faults g c = read_counted _ _ _ c.virtual_read.ensures.read_faults
