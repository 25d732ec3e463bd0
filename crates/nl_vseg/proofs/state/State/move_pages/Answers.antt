use Rattle.std.proofs.lemmas.List.{length-replicate}
use Rattle.std.proofs.Common.{None, replicate, ◌≡◌, ◌+◌, ◌*◌, ◌/◌, ◌<◌, ◌≤◌, List, Option, length, refl, sym, ◌∙◌, ap, subst, arith}
use Rattle.nl_nand.specs.Nand.{ErasedWithin}
use Rattle.nl_nand.specs.declared.geometry.Geometry.{Geometry}
use Rattle.nl_vseg.specs.Answers.{IsLostWrite}
use Rattle.nl_vseg.specs.Places.{IsUnmapped, map_of, stamp_for}
use Rattle.nl_vseg.specs.Layout.{ArePlaces, IsLayout, IsLayoutOf, bound, wears_of}
use Rattle.nl_vseg.specs.Seen.{seen, FitsLayout}
use Rattle.nl_vseg.specs.Copies.{CanCopy, ChangesIn}
use Rattle.nl_vseg.specs.Copying.{AreMoved}
use Rattle.nl_vseg.specs.Effects.{KeepsMap}
use Rattle.nl_vseg.specs.Used.{used_of}
use Rattle.nl_vseg.specs.declared.place.Place.{Place}
use Rattle.nl_vseg.proofs.Blocks.{restated_after}
use Rattle.nl_vseg.proofs.Cleaning.{can_copy}
use Rattle.nl_vseg.proofs.Copies.{used_segment, moved_segment, moved_unmapped, moved_image, changed_keeps, given_image}
use Rattle.nl_vseg.proofs.Counts.{counted_as}
use Rattle.nl_vseg.proofs.Small.{fault_done, fits_then, hole_then, lost_done, shape_of}
use Rattle.nl_vseg.proofs.Using.{numbered, numbered_beside, numbered_image}
use Rattle.nl_vseg.proofs.Operating.{operates_as, operates_both, operates_still}
use Rattle.nl_vseg.proofs.Segments.{below_of, map_same}
use Rattle.nl_vseg.proofs.Views.{wear_at}
use Rattle.nl_vseg.proofs.state.State.move_pages.Goals as goal

pub copy_block-requires : goal.copy_block-requires
copy_block-requires g c =
    let s = c.args.self.now in
    let pages = c.pages-pages.ensures in
    let copies : c.copy_from_slice.new.self.items ≡ s.places.items = cc in
    record {
      can = subst (λ n. CanCopy g.M.Nand n c.args.victim s.active c.copy_from_slice.new.self.items s.blocks c.args.media.now) (sym pages)
          (subst (λ (l : List (Option Place)). CanCopy g.M.Nand s.blocks.size c.args.victim s.active l s.blocks c.args.media.now) (sym copies)
          (can_copy g.M.Nand c.args.victim (g.met.M.Nand.legal c.args.media.now) c.requires.begins c.requires.other c.requires.stands));
      unmapped = subst (λ n. IsUnmapped n c.copy_from_slice.new.self.items s.active) (sym pages) (subst (λ (l : List (Option Place)). IsUnmapped s.blocks.size l s.active) (sym copies) c.requires.unmapped);
      begins = c.requires.begins;
      targets = c.clear.ensures ∙ ap (λ n. replicate n None) (c.requires.stands.formed.targets ∙ sym pages);
      hole = hole_then _ _ _ _ _ pages copies c.requires.hole;
    }

pub give_back-requires : goal.give_back-requires
give_back-requires g c =
    let s = c.args.self.now in
    let seg = seen s in
    let is = c.requires.stands.formed.segment in
    let b = c.copy_block.ensures in
    let pages = c.pages-pages.ensures in
    let copies : c.copy_from_slice.new.self.items ≡ seg.places = cc in
    let used = used_of c.copy_block.new.blocks s.active in
    let room : seg.used < seg.table.size = omega (arith, c.requires.begins, is.some) in
    let left = b.used.left in
    let fits : used ≤ seg.table.size = omega (arith, left, pages) in
    record {
      formed = record {
        segment = numbered (record seg { used = used }) c.copy_block.new.blocks b.used.states refl (used_segment seg used is room (omega (arith, c.requires.begins)) fits);
        rising = b.used.rising;
        copies = b.count ∙ ap length copies;
        targets = b.size ∙ (ap length c.clear.ensures ∙ (length-replicate (length s.targets.items) None ∙ (c.requires.stands.formed.targets ∙ sym b.used.states.numbers.same_size)));
      };
      unmapped = subst (λ n. IsUnmapped n s.places.items s.active) (sym b.used.states.numbers.same_size) c.requires.unmapped;
    }

pub give_back-requires-in-Fault : goal.give_back-requires-in-Fault
give_back-requires-in-Fault g c =
    let s = c.args.self.now in
    let seg = seen s in
    let is = c.requires.stands.formed.segment in
    let b = c.copy_block.ensures in
    let pages = c.pages-pages.ensures in
    let copies : c.copy_from_slice.new.self.items ≡ seg.places = cc in
    let used = used_of c.copy_block.new.blocks s.active in
    let room : seg.used < seg.table.size = omega (arith, c.requires.begins, is.some) in
    let left = b.used.left in
    let fits : used ≤ seg.table.size = omega (arith, left, pages) in
    record {
      formed = record {
        segment = numbered (record seg { used = used }) c.copy_block.new.blocks b.used.states refl (used_segment seg used is room (omega (arith, c.requires.begins)) fits);
        rising = b.used.rising;
        copies = b.count ∙ ap length copies;
        targets = b.size ∙ (ap length c.clear.ensures ∙ (length-replicate (length s.targets.items) None ∙ (c.requires.stands.formed.targets ∙ sym b.used.states.numbers.same_size)));
      };
      unmapped = subst (λ n. IsUnmapped n s.places.items s.active) (sym b.used.states.numbers.same_size) c.requires.unmapped;
    }

pub returns-in-Done : goal.returns-in-Done
returns-in-Done g c =
    let s = c.args.self.now in
    let seg = seen s in
    let is = c.requires.stands.formed.segment in
    let b = c.copy_block.ensures in
    let pages = c.pages-pages.ensures in
    let copies : c.copy_from_slice.new.self.items ≡ seg.places = cc in
    let used = used_of c.copy_block.new.blocks s.active in
    let room : seg.used < seg.table.size = omega (arith, c.requires.begins, is.some) in
    let left = b.used.left in
    let fits : used ≤ seg.table.size = omega (arith, left, pages) in
    let old = g.M.Nand.contents c.args.media.now in
    let new = g.M.Nand.contents c.copy_block.new.media in
    let changes : g.M.Nand.tells → ChangesIn g.M.Nand seg.table.size seg.active seg.places old c.args.media.now c.copy_block.new.media = λ t.
    subst (λ n. ChangesIn g.M.Nand n seg.active seg.places old c.args.media.now c.copy_block.new.media) pages
    (subst (λ (l : List (Option Place)). ChangesIn g.M.Nand c.pages-pages.result seg.active l old c.args.media.now c.copy_block.new.media) copies (b.changed t)) in
    let copied = b.done c.in-Done.is in
    let swapped : c.swap.new.x.items ≡ c.copy_block.new.copies.items = cc in
    let back : c.swap.new.y.items ≡ seg.places = cc in
    let places = c.copy_block.new.copies.items in
    let count = b.count ∙ ap length copies in
    let blocks = (g.M.Nand.geometry c.copy_block.new.media).blocks in
    let moved : AreMoved seg.table.size c.args.victim seg.active used seg.places places =
    subst (λ n. AreMoved n c.args.victim seg.active used seg.places places) pages (subst (λ (l : List (Option Place)). AreMoved c.pages-pages.result c.args.victim seg.active used l places) copies (b.moved c.in-Done.is)) in
    record {
      keeps = record {
        stands = record {
          formed = record {
            segment = numbered (record seg { places = c.swap.new.x.items; used = used }) c.copy_block.new.blocks b.used.states refl
                (subst (λ (l : List (Option Place)). IsLayout (record seg { places = l; used = used })) (sym swapped)
                (moved_segment seg places used c.args.victim (blocks * seg.table.size) is room fits count (subst (λ n. ArePlaces n (blocks * n) seg.active used places) pages copied.next.are_places) moved));
            rising = b.used.rising;
            copies = ap length back ∙ (sym count ∙ ap length (sym swapped));
            targets = b.size ∙ (ap length c.clear.ensures ∙ (length-replicate (length s.targets.items) None ∙ (c.requires.stands.formed.targets ∙ sym b.used.states.numbers.same_size)));
          };
          fits = subst (λ (n : Geometry). FitsLayout n (record seg { places = c.swap.new.x.items; table = c.copy_block.new.blocks; used = used })) (sym b.medium.geometry) (record {
            pages = c.requires.stands.fits.pages ∙ sym b.used.states.numbers.same_size;
            blocks = subst (λ n. n ≤ (g.M.Nand.geometry c.args.media.now).blocks) (sym b.used.states.numbers.same_count) c.requires.stands.fits.blocks;
          });
          segment = λ t.
              let blank = subst (λ n. ErasedWithin new (seg.active * n + used) (seg.active * n + n)) pages (copied.next.erased t) in
              numbered_image (record seg { places = c.swap.new.x.items; used = used }) c.copy_block.new.blocks b.used.states refl new
              (subst (λ (l : List (Option Place)). IsLayoutOf new (record seg { places = l; used = used })) (sym swapped)
              (moved_image seg places used old new is room (c.requires.stands.segment t) (copied.next.holds t) blank (changes t).now.same));
        };
        shape = record { addresses = ap length swapped ∙ count; blocks = b.used.states.numbers.same_count; pages = b.used.states.numbers.same_size };
        stamps = λ v. ap (λ (l : List (Option Place)). stamp_for l v) swapped ∙ ((b.moved c.in-Done.is).stamps v ∙ ap (λ (l : List (Option Place)). stamp_for l v) copies);
        map = λ t.
            subst (λ (l : List (Option Place)). KeepsMap g.M.Nand.clock g.M.Nand.contents g.M.Nand.left seg.table.size (bound seg) (map_of seg.places old) (map_of l new) c.args.media.now c.copy_block.new.media) (sym swapped)
            (changed_keeps seg.table.size (length seg.table.blocks) seg.active seg.places (map_of places new) is.active_is (c.requires.stands.segment t).holds (below_of seg is) c.requires.unmapped
            (λ v. subst (λ (l : List (Option Place)). map_of places new v ≡ map_of l old v) copies (copied.map t v)) (changes t).now (changes t).crash);
        operates = operates_both (operates_as pages (b.medium.operates (wears_of c.args.self.now.blocks) (wear_at c.args.self.now.blocks c.args.self.now.active is.first ∙ sym c.wear-wear.ensures)))
            (operates_still _ _ _ _ _ _ (b.used.wears) refl refl);
        geometry = b.medium.geometry;
        counts = counted_as (λ failed. sym c.in-Done.is ∙ failed) (λ failed. c.in-Done.is ∙ failed) b.medium.counts;
      };
      moved = λ done. record {
        unmapped = subst (λ n. IsUnmapped n c.swap.new.x.items c.args.victim) (sym b.used.states.numbers.same_size) (subst (λ (l : List (Option Place)). IsUnmapped seg.table.size l c.args.victim) (sym swapped)
            (moved_unmapped seg.table.size c.args.victim seg.active used seg.places places c.requires.other fits moved));
        states = b.used.states;
        same_active = refl;
        left = subst (λ n. used < n) (pages ∙ sym b.used.states.numbers.same_size) b.used.left;
      };
      given = λ ended. absurd (ended refl);
      lost = record { lost = tt; kept = λ t is. is };
    }

pub returns-in-Lost : goal.returns-in-Lost
returns-in-Lost g c =
    let s = c.args.self.now in
    let seg = seen s in
    let is = c.requires.stands.formed.segment in
    let b = c.copy_block.ensures in
    let pages = c.pages-pages.ensures in
    let copies : c.copy_from_slice.new.self.items ≡ seg.places = cc in
    let back = c.give_back.ensures in
    let states = restated_after b.used.states back.given.states in
    record {
      keeps = record {
        stands = record {
          formed = back.formed;
          fits = fits_then _ _ seg (seen c.give_back.new.self) b.medium.geometry states.numbers c.requires.stands.fits;
          segment = λ t. absurd (b.medium.told t (subst IsLostWrite (sym c.in-Lost.is) tt));
        };
        shape = shape_of seg (seen c.give_back.new.self) (ap length back.given.same_places) states.numbers;
        stamps = λ v. ap (λ (l : List (Option Place)). stamp_for l v) back.given.same_places;
        map = λ t. absurd (b.medium.told t (subst IsLostWrite (sym c.in-Lost.is) tt));
        operates = operates_both (operates_as pages (b.medium.operates (wears_of c.args.self.now.blocks) (wear_at c.args.self.now.blocks c.args.self.now.active is.first ∙ sym c.wear-wear.ensures)))
            (operates_still _ _ _ _ _ _ (back.wears ∙ b.used.wears) refl refl);
        geometry = b.medium.geometry;
        counts = counted_as (λ failed. sym c.in-Lost.is ∙ failed) (λ failed. c.in-Lost.is ∙ failed) b.medium.counts;
      };
      moved = λ done. absurd (lost_done _ _ done);
      given = λ ended. record { same_places = back.given.same_places; closed = back.given.closed; states = states };
      lost = record {
        lost = let l = b.lost c.in-Lost.wanted c.in-Lost.found c.in-Lost.is in ((l.0.0, sym (ap (λ (x : List (Option Place)). stamp_for x l.0.0) copies) ∙ l.0.1), l.1);
        kept = λ t is. b.medium.told t (subst IsLostWrite (sym c.in-Lost.is) is);
      };
    }

pub returns-in-Fault : goal.returns-in-Fault
returns-in-Fault g c =
    let s = c.args.self.now in
    let seg = seen s in
    let is = c.requires.stands.formed.segment in
    let b = c.copy_block.ensures in
    let pages = c.pages-pages.ensures in
    let copies : c.copy_from_slice.new.self.items ≡ seg.places = cc in
    let back = c.give_back-in-Fault.ensures in
    let states = restated_after b.used.states back.given.states in
    let old = g.M.Nand.contents c.args.media.now in
    let new = g.M.Nand.contents c.copy_block.new.media in
    let changes : g.M.Nand.tells → ChangesIn g.M.Nand seg.table.size seg.active seg.places old c.args.media.now c.copy_block.new.media = λ t.
    subst (λ n. ChangesIn g.M.Nand n seg.active seg.places old c.args.media.now c.copy_block.new.media) pages
    (subst (λ (l : List (Option Place)). ChangesIn g.M.Nand c.pages-pages.result seg.active l old c.args.media.now c.copy_block.new.media) copies (b.changed t)) in
    record {
      keeps = record {
        stands = record {
          formed = back.formed;
          fits = fits_then _ _ seg (seen c.give_back-in-Fault.new.self) b.medium.geometry states.numbers c.requires.stands.fits;
          segment = λ t. given_image seg (seen c.give_back-in-Fault.new.self) old new back.given.same_places c.requires.unmapped (c.requires.stands.segment t)
              (λ p taken.
              let e = back.erased p taken in
              let ne : p / seg.table.size ≡ seg.active → ⊥ = (λ at. e.1 (ap (λ n. p / n) b.used.states.numbers.same_size ∙ at)) in
              (numbered_beside seg c.copy_block.new.blocks (used_of c.copy_block.new.blocks s.active) p b.used.states e.0 ne, ne)) (changes t).now.same;
        };
        shape = shape_of seg (seen c.give_back-in-Fault.new.self) (ap length back.given.same_places) states.numbers;
        stamps = λ v. ap (λ (l : List (Option Place)). stamp_for l v) back.given.same_places;
        map = λ t.
            subst (λ (l : List (Option Place)). KeepsMap g.M.Nand.clock g.M.Nand.contents g.M.Nand.left seg.table.size (bound seg) (map_of seg.places old) (map_of l new) c.args.media.now c.copy_block.new.media) (sym back.given.same_places)
            (changed_keeps seg.table.size (length seg.table.blocks) seg.active seg.places (map_of seg.places new) is.active_is (c.requires.stands.segment t).holds (below_of seg is) c.requires.unmapped
            (map_same seg.places old new (λ v place named. (changes t).now.same place.page (c.requires.unmapped v place named))) (changes t).now (changes t).crash);
        operates = operates_both (operates_as pages (b.medium.operates (wears_of c.args.self.now.blocks) (wear_at c.args.self.now.blocks c.args.self.now.active is.first ∙ sym c.wear-wear.ensures)))
            (operates_still _ _ _ _ _ _ (back.wears ∙ b.used.wears) refl refl);
        geometry = b.medium.geometry;
        counts = counted_as (λ failed. sym c.in-Fault.is ∙ failed) (λ failed. c.in-Fault.is ∙ failed) b.medium.counts;
      };
      moved = λ done. absurd (fault_done done);
      given = λ ended. record { same_places = back.given.same_places; closed = back.given.closed; states = states };
      lost = record { lost = tt; kept = λ t is. is };
    }
