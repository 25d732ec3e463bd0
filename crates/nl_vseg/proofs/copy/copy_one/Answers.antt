use Rattle.std.proofs.Common.{◌≡◌, ℕ, inl, inr, ⊎_elim, List, Option, length, length-set, get_or, set, ap, ◌+◌, ◌*◌, ◌/◌, ◌%◌, ◌<◌, ◌≤◌, Some, sym, ◌∙◌, subst, arith, refl}
use Rattle.std.proofs.lemmas.Bool.{cases_eq}
use Rattle.std.proofs.lemmas.Option.{none-some, same_Some}
use Rattle.std.proofs.lemmas.Nat.{div-mul-add}
use Rattle.nl_field.specs.Page.{Image}
use Rattle.nl_nand.specs.ImageLaws.{filled_cut}
use Rattle.nl_nand.specs.Nand.{CanProgram, ErasedWithin}
use Rattle.nl_nand.proofs.Crashes.{start, weaken}
use Rattle.nl_vseg.specs.Places.{place_of, stamp_in_place}
use Rattle.nl_vseg.specs.declared.place.Place.{Place as PlaceOf}
use Rattle.nl_vseg.specs.Copies.{CopiesTo}
use Rattle.nl_vseg.specs.Copying.{AreTargets}
use Rattle.nl_vseg.specs.Layout.{ArePlaces}
use Rattle.nl_vseg.specs.Used.{used_of}
use Rattle.nl_vseg.specs.Answers.{IsLostWrite}
use Rattle.nl_vseg.proofs.Places.{named_by, next_placed, none_by, used_placed, place_here, place_other, block_below}
use Rattle.nl_vseg.proofs.Copied.{can_next, copies_none, uses_next, uses_none}
use Rattle.nl_vseg.proofs.Copies.{used_below, target_program, not_copied, copied_at, room_left, targets_more, targets_grown, copied_holds, copied_map, copied_erased, copied_changed}
use Rattle.nl_vseg.proofs.Small.{done_lost, fault_done, fault_lost, lost_done}
use Rattle.nl_vseg.proofs.Blocks.{same_use}
use Rattle.nl_vseg.proofs.copy.copy_one.Goals as goal

-- another page under the same number
set_stamp : (copies : List (Option PlaceOf)) (v : ℕ) (place : PlaceOf) (page : ℕ) → v < length copies → place_of copies v ≡ Some place
    → (u : ℕ) → stamp_in_place (place_of (set copies v (Some (record { page = page; stamp = place.stamp }))) u) ≡ stamp_in_place (place_of copies u)
set_stamp copies v place page within named u = ⊎_elim
    (λ is. ap stamp_in_place (place_here copies v u (Some (record { page = page; stamp = place.stamp })) within is) ∙ sym (ap (λ n. stamp_in_place (place_of copies n)) is ∙ ap stamp_in_place named))
    (λ other. ap stamp_in_place (place_other copies v u (Some (record { page = page; stamp = place.stamp })) other))
    (cases_eq u v)

pub copy_page-requires : goal.copy_page-requires
copy_page-requires g c =
    let named = named_by c.args.copies.now.items c.args.v c.index.result.now c.in-Some.place c.requires.vaddr c.index.ensures c.in-Some.is in
    let place = c.requires.can.are_places.each c.args.v c.in-Some.place named in
    let at = c.use_next-to.ensures.page ∙ ap (λ n. c.args.target * n + used_of c.args.blocks.now c.args.target) c.requires.can.width in
    let end = block_below c.args.target (g.M.Nand.geometry c.args.media.now).blocks c.args.pages c.requires.can.in_medium in
    let room = used_below c.requires.targets c.requires.hole in
    record {
      within = subst (λ n. c.in-Some.place.page < (g.M.Nand.geometry c.args.media.now).blocks * n) (sym c.requires.can.same_pages) place.within;
      to = subst (λ n. c.use_next-to.result < (g.M.Nand.geometry c.args.media.now).blocks * n) (sym c.requires.can.same_pages) (omega (arith, end, room, at));
      spelled = place.spelled;
      shows = λ t. c.requires.can.holds t c.args.v c.in-Some.place named;
      erased = λ t. subst (CanProgram (g.M.Nand.contents c.args.media.now)) (sym at)
          (target_program c.args.target c.args.pages (used_of c.args.blocks.now c.args.target) (g.M.Nand.contents c.args.media.now) ((g.met.M.Nand.contents_fit c.args.media.now t).pages ∙ c.requires.can.same_pages)
          room (c.requires.can.erased t));
    }

pub use_next-to-requires-clause-room : goal.use_next-to-requires-clause-room
use_next-to-requires-clause-room g c = subst (λ n. used_of c.args.blocks.now c.args.target < n) (sym c.requires.can.width) (used_below c.requires.targets c.requires.hole)

pub returns-in_default : goal.returns-in_default
returns-in_default g c =
    record {
      used = uses_none c.args.pages c.args.target c.args.blocks.now (used_below c.requires.targets c.requires.hole) c.requires.can.rising;
      done = λ done. record { next = c.requires.can; map = λ t u. refl };
      places = record {
        count = refl;
        stamps = λ u. refl;
        same = λ u other. refl;
        moved = λ done place there. absurd (none-some place (sym (none_by c.args.copies.now.items c.args.v c.index.result.now c.requires.vaddr c.index.ensures c.in_default.is) ∙ there));
      };
      targets = record { size = refl; targets = λ done. c.requires.targets; grown = λ at page is. inl is };
      changed = λ t first image same unmapped changed. record { now = changed; crash = start c.args.media.now _ };
      lost = λ w f is. absurd (done_lost w f is);
      medium = copies_none g.M.Nand c.args.pages c.args.target c.args.wear c.args.media.now;
    }

pub returns-then-place-pages : goal.returns-then-place-pages
returns-then-place-pages g c =
    let named = named_by c.args.copies.now.items c.args.v c.index.result.now c.in-Some.place c.requires.vaddr c.index.ensures c.in-Some.is in
    record {
      used = uses_none c.args.pages c.args.target c.args.blocks.now (used_below c.requires.targets c.requires.hole) c.requires.can.rising;
      done = λ done. record { next = c.requires.can; map = λ t u. refl };
      places = record {
        count = refl;
        stamps = λ u. refl;
        same = λ u other. refl;
        moved = λ done place there. inl (there, λ at. c.if-place-pages.true (ap (λ (p : PlaceOf). p.page / c.args.pages) (same_Some c.in-Some.place place (sym named ∙ there)) ∙ at));
      };
      targets = record { size = refl; targets = λ done. c.requires.targets; grown = λ at page is. inl is };
      changed = λ t first image same unmapped changed. record { now = changed; crash = start c.args.media.now _ };
      lost = λ w f is. absurd (done_lost w f is);
      medium = copies_none g.M.Nand c.args.pages c.args.target c.args.wear c.args.media.now;
    }

pub returns-in-Some-index : goal.returns-in-Some-index
returns-in-Some-index g c =
    let named = named_by c.args.copies.now.items c.args.v c.index.result.now c.in-Some.place c.requires.vaddr c.index.ensures c.in-Some.is in
    let copied = copied_at c.args.targets.now.items (c.in-Some.place.page % c.args.pages) c.index-2.result.now c.in-Some-index.page (omega (arith, c.requires.targets.count, c.requires.can.some)) c.index-2.ensures c.in-Some-index.is in
    let inside = c.requires.targets.inside (c.in-Some.place.page % c.args.pages) c.in-Some-index.page copied in
    let room = used_below c.requires.targets c.requires.hole in
    let new : PlaceOf = record { page = c.in-Some-index.page; stamp = c.in-Some.place.stamp } in
    let count = length-set c.args.copies.now.items c.args.v (Some new) in
    let twice : g.M.Nand.tells → ⊥ = λ t. c.requires.fresh t (c.in-Some.place.page % c.args.pages) c.in-Some-index.page copied (record { found = c.in-Some.place; named = named; in_victim = c.if-place-pages.false; offset = refl }) in
    record {
      used = uses_none c.args.pages c.args.target c.args.blocks.now room c.requires.can.rising;
      done = λ done. record {
        next =
            let end = block_below c.args.target (g.M.Nand.geometry c.args.media.now).blocks c.args.pages c.requires.can.in_medium in
            can_next g.M.Nand c.requires.can refl (same_use c.args.blocks.now) c.requires.can.rising count
            (used_placed c.args.v new c.requires.vaddr inside.0 inside.1 (omega (arith, end, room, inside.1)) (c.requires.can.are_places.each c.args.v c.in-Some.place named).spelled c.requires.can.are_places)
            (λ t. absurd (twice t)) c.requires.can.erased;
        map = λ t. absurd (twice t);
      };
      places = record {
        count = count;
        stamps = set_stamp c.args.copies.now.items c.args.v c.in-Some.place c.in-Some-index.page c.requires.vaddr named;
        same = λ u other. place_other c.args.copies.now.items c.args.v u (Some new) other;
        moved = λ done place there.
            let is = same_Some new place (sym (place_here c.args.copies.now.items c.args.v c.args.v (Some new) c.requires.vaddr refl) ∙ there) in
            inr (subst (λ (q : PlaceOf). (c.args.target * c.args.pages ≤ q.page) × (q.page < c.args.target * c.args.pages + used_of c.args.blocks.now c.args.target)) is inside);
      };
      targets = record { size = refl; targets = λ done. c.requires.targets; grown = λ at page is. inl is };
      changed = λ t. absurd (twice t);
      lost = λ w f is. absurd (done_lost w f is);
      medium = copies_none g.M.Nand c.args.pages c.args.target c.args.wear c.args.media.now;
    }

pub returns-in-Lost : goal.returns-in-Lost
returns-in-Lost g c =
    let named = named_by c.args.copies.now.items c.args.v c.index.result.now c.in-Some.place c.requires.vaddr c.index.ensures c.in-Some.is in
    let none = not_copied c.args.targets.now.items (c.in-Some.place.page % c.args.pages) c.index-2.result.now (omega (arith, c.requires.targets.count, c.requires.can.some)) c.index-2.ensures c.in_default-index.is in
    let left = room_left c.in-Some.place named c.if-place-pages.false c.requires.can.some c.requires.targets c.requires.hole none in
    let used = used_of c.args.blocks.now c.args.target in
    let room : used < c.args.pages = omega (arith, left) in
    let at = c.use_next-to.ensures.page ∙ ap (λ n. c.args.target * n + used_of c.args.blocks.now c.args.target) c.requires.can.width in
    record {
      used = uses_next c.args.pages c.args.target left c.use_next-to.ensures.used c.use_next-to.ensures.states c.use_next-to.ensures.wears;
      done = λ done. absurd (lost_done _ _ done);
      places = record { count = refl; stamps = λ u. refl; same = λ u other. refl; moved = λ done. absurd (lost_done _ _ done) };
      targets = record { size = refl; targets = λ done. absurd (lost_done _ _ done); grown = λ k page is. inl is };
      changed = λ t. absurd (c.copy_page.ensures.kept t (subst IsLostWrite (sym c.in-Lost.is) tt));
      lost = λ w f is. let l = c.copy_page.ensures.lost w f (c.in-Lost.is ∙ is) in (ap stamp_in_place named ∙ ap Some (sym l.0), λ found. l.1 (found ∙ l.0));
      medium = subst (λ a. CopiesTo g.M.Nand c.args.pages c.args.target c.args.wear a c.args.media.now c.copy_page.new.media) c.in-Lost.is (record {
        operates = λ wears is. c.copy_page.ensures.operates c.args.pages wears (ap (λ n. get_or wears n 0) (ap (λ n. n / c.args.pages) at ∙ div-mul-add c.args.target c.args.pages used room) ∙ is);
        told = c.copy_page.ensures.kept;
        geometry = c.copy_page.ensures.geometry;
        counts = c.copy_page.ensures.counts;
      });
    }

pub returns-in-Fault : goal.returns-in-Fault
returns-in-Fault g c =
    let named = named_by c.args.copies.now.items c.args.v c.index.result.now c.in-Some.place c.requires.vaddr c.index.ensures c.in-Some.is in
    let none = not_copied c.args.targets.now.items (c.in-Some.place.page % c.args.pages) c.index-2.result.now (omega (arith, c.requires.targets.count, c.requires.can.some)) c.index-2.ensures c.in_default-index.is in
    let left = room_left c.in-Some.place named c.if-place-pages.false c.requires.can.some c.requires.targets c.requires.hole none in
    let used = used_of c.args.blocks.now c.args.target in
    let room : used < c.args.pages = omega (arith, left) in
    let at = c.use_next-to.ensures.page ∙ ap (λ n. c.args.target * n + used_of c.args.blocks.now c.args.target) c.requires.can.width in
    record {
      used = uses_next c.args.pages c.args.target left c.use_next-to.ensures.used c.use_next-to.ensures.states c.use_next-to.ensures.wears;
      done = λ done. absurd (fault_done done);
      places = record { count = refl; stamps = λ u. refl; same = λ u other. refl; moved = λ done. absurd (fault_done done) };
      targets = record { size = refl; targets = λ done. absurd (fault_done done); grown = λ k page is. inl is };
      changed = λ t first image same unmapped changed.
          let by = λ (img : Image). copied_changed c.args.pages c.args.target used c.use_next-to.result c.args.v c.in-Some.place c.args.copies.now.items (g.M.Nand.contents c.args.media.now) img
          at room c.requires.vaddr named (c.requires.can.holds t) (c.requires.can.erased t) c.args.wear first image same unmapped changed (c.copy_page.ensures.copied t) in
          record {
            now = by (g.M.Nand.contents c.copy_page.new.media) (c.copy_page.ensures.cut t);
            crash = weaken _ _ (c.copy_page.ensures.crash t) (λ m img from to cut. by img cut);
          };
      lost = λ w f is. absurd (fault_lost w f is);
      medium = subst (λ a. CopiesTo g.M.Nand c.args.pages c.args.target c.args.wear a c.args.media.now c.copy_page.new.media) c.in-Fault.is (record {
        operates = λ wears is. c.copy_page.ensures.operates c.args.pages wears (ap (λ n. get_or wears n 0) (ap (λ n. n / c.args.pages) at ∙ div-mul-add c.args.target c.args.pages used room) ∙ is);
        told = c.copy_page.ensures.kept;
        geometry = c.copy_page.ensures.geometry;
        counts = c.copy_page.ensures.counts;
      });
    }

pub returns-in-Done : goal.returns-in-Done
returns-in-Done g c =
    let named = named_by c.args.copies.now.items c.args.v c.index.result.now c.in-Some.place c.requires.vaddr c.index.ensures c.in-Some.is in
    let none = not_copied c.args.targets.now.items (c.in-Some.place.page % c.args.pages) c.index-2.result.now (omega (arith, c.requires.targets.count, c.requires.can.some)) c.index-2.ensures c.in_default-index.is in
    let left = room_left c.in-Some.place named c.if-place-pages.false c.requires.can.some c.requires.targets c.requires.hole none in
    let used = used_of c.args.blocks.now c.args.target in
    let room : used < c.args.pages = omega (arith, left) in
    let at = c.use_next-to.ensures.page ∙ ap (λ n. c.args.target * n + used_of c.args.blocks.now c.args.target) c.requires.can.width in
    let more = c.use_next-to.ensures.used.more in
    let new : PlaceOf = record { page = c.use_next-to.result; stamp = c.in-Some.place.stamp } in
    let count = length-set c.args.copies.now.items c.args.v (Some new) in
    let old_image = g.M.Nand.contents c.args.media.now in
    let new_image = g.M.Nand.contents c.copy_page.new.media in
    record {
      used = uses_next c.args.pages c.args.target left c.use_next-to.ensures.used c.use_next-to.ensures.states c.use_next-to.ensures.wears;
      done = λ done. record {
        next =
            let end = block_below c.args.target (g.M.Nand.geometry c.args.media.now).blocks c.args.pages c.requires.can.in_medium in
            can_next g.M.Nand c.requires.can c.copy_page.ensures.geometry c.use_next-to.ensures.states c.use_next-to.ensures.used.rising count
            (subst (λ n. ArePlaces c.args.pages ((g.M.Nand.geometry c.args.media.now).blocks * c.args.pages) c.args.target n (set c.args.copies.now.items c.args.v (Some new))) (sym more)
            (next_placed c.args.v new c.requires.vaddr room at (omega (arith, end, room, at)) (c.requires.can.are_places.each c.args.v c.in-Some.place named).spelled c.requires.can.are_places))
            (λ t.
            let filled = c.copy_page.ensures.filled t c.in-Done.is in
            copied_holds c.args.pages c.args.target used c.use_next-to.result c.args.v c.in-Some.place c.args.copies.now.items old_image new_image
            at room c.requires.vaddr named (c.requires.can.holds t) (c.requires.can.erased t) c.args.wear (filled_cut filled) (filled.inside c.use_next-to.result (omega arith) (omega arith)) (c.copy_page.ensures.copied t))
            (λ t. subst (λ n. ErasedWithin new_image (c.args.target * c.args.pages + n) (c.args.target * c.args.pages + c.args.pages)) (sym more)
            (copied_erased c.args.pages c.args.target used c.use_next-to.result c.args.v c.in-Some.place c.args.copies.now.items old_image new_image
            at room c.requires.vaddr named (c.requires.can.holds t) (c.requires.can.erased t) c.args.wear (c.copy_page.ensures.cut t)));
        map = λ t u.
            let filled = c.copy_page.ensures.filled t c.in-Done.is in
            copied_map c.args.pages c.args.target used c.use_next-to.result c.args.v c.in-Some.place c.args.copies.now.items old_image new_image
            at room c.requires.vaddr named (c.requires.can.holds t) (c.requires.can.erased t) c.args.wear (filled_cut filled) (filled.inside c.use_next-to.result (omega arith) (omega arith)) (c.copy_page.ensures.copied t) u;
      };
      places = record {
        count = count;
        stamps = set_stamp c.args.copies.now.items c.args.v c.in-Some.place c.use_next-to.result c.requires.vaddr named;
        same = λ u other. place_other c.args.copies.now.items c.args.v u (Some new) other;
        moved = λ done place there.
            let is = same_Some new place (sym (place_here c.args.copies.now.items c.args.v c.args.v (Some new) c.requires.vaddr refl) ∙ there) in
            inr (subst (λ (q : PlaceOf). (c.args.target * c.args.pages ≤ q.page) × (q.page < c.args.target * c.args.pages + used_of c.use_next-to.new.blocks c.args.target)) is (omega (arith, at), omega (arith, at, more)));
      };
      targets = record {
        size = length-set c.args.targets.now.items (c.in-Some.place.page % c.args.pages) (Some c.use_next-to.result);
        targets = λ done.
            let set_to = λ (page : ℕ). set c.args.targets.now.items (c.in-Some.place.page % c.args.pages) (Some page) in
            subst (λ n. AreTargets c.args.pages c.args.target n (set_to c.use_next-to.result)) (sym more)
            (subst (λ page. AreTargets c.args.pages c.args.target (used + 1) (set_to page)) (sym at)
            (targets_more (c.in-Some.place.page % c.args.pages) (omega (arith, c.requires.can.some)) none c.requires.targets));
        grown = λ k page is.
            targets_grown c.args.pages c.args.victim (c.in-Some.place.page % c.args.pages) c.use_next-to.result c.in-Some.place (place_of c.args.copies.now.items c.args.v) c.args.targets.now.items
            named c.if-place-pages.false refl (omega (arith, c.requires.targets.count, c.requires.can.some)) k page is;
      };
      changed = λ t first image same unmapped changed.
          let by = λ (img : Image). copied_changed c.args.pages c.args.target used c.use_next-to.result c.args.v c.in-Some.place c.args.copies.now.items old_image img
          at room c.requires.vaddr named (c.requires.can.holds t) (c.requires.can.erased t) c.args.wear first image same unmapped changed (c.copy_page.ensures.copied t) in
          record {
            now = by new_image (c.copy_page.ensures.cut t);
            crash = weaken _ _ (c.copy_page.ensures.crash t) (λ m img from to cut. by img cut);
          };
      lost = λ w f is. absurd (done_lost w f is);
      medium = subst (λ a. CopiesTo g.M.Nand c.args.pages c.args.target c.args.wear a c.args.media.now c.copy_page.new.media) c.in-Done.is (record {
        operates = λ wears is. c.copy_page.ensures.operates c.args.pages wears (ap (λ n. get_or wears n 0) (ap (λ n. n / c.args.pages) at ∙ div-mul-add c.args.target c.args.pages used room) ∙ is);
        told = c.copy_page.ensures.kept;
        geometry = c.copy_page.ensures.geometry;
        counts = c.copy_page.ensures.counts;
      });
    }
