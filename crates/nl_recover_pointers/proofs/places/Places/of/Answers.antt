use Rattle.std.proofs.Common.{ap, arith, drop, sym, ◌&&◌, ◌+◌, ◌||◌, ◌∙◌}
use Rattle.std.specs.Prelude.{◌==◌}
use Rattle.std.proofs.lemmas.List.{drop_all}
use Rattle.nl_field.specs.ScanList.{on_list, physical_seen}
use Rattle.nl_field.specs.Space.{holds_among, is_among}
use Rattle.nl_field.specs.SpareRecord.{stamp_of}
use Rattle.nl_field.specs.declared.seen.Seen.{Seen}
use Rattle.nl_recover_pointers.specs.Places.{has_place, is_at, is_file}
use Rattle.nl_recover_pointers.proofs.Keys.{grouped, or_false}
use Rattle.nl_recover_pointers.proofs.Placing.{any_more, any_none}
use Rattle.nl_recover_pointers.proofs.Rests.{drop_got}
use Rattle.nl_recover_pointers.proofs.places.Places.of.Goals as goal

pub seen-init : goal.seen-init
seen-init c =
    let pages = physical_seen c.args.shape.now c.args.scan.now.seen in
    record {
      pages_are = λ page. ap (λ x. x || is_among on_list pages page) (c.in_ok-places.ensures.no_page page);
      stamped_are = λ page stamp. ap (λ x. x || holds_among on_list pages page stamp) (c.in_ok-places.ensures.no_stamp page stamp);
    }

pub seen-preserved : goal.seen-preserved
seen-preserved c =
    let shape = c.args.shape.now in
    let seen = c.args.scan.now.seen in
    let one = c.get.result.now in
    let rest = drop (c.seen.at + 1) seen in
    let first = sym (drop_got seen c.seen.at one c.get.ensures) in
    record {
      pages_are = λ page.
          ap (λ x. x || is_among on_list (physical_seen shape rest) page) (c.in_ok-see.ensures.pages page)
          ∙ (grouped (has_place c.seen.places page) (is_file shape one && one.page == page) (is_among on_list (physical_seen shape rest) page)
          ∙ (ap (λ x. has_place c.seen.places page || x) (sym (any_more shape (λ (s : Seen). s.page == page) one rest))
          ∙ (ap (λ l. has_place c.seen.places page || is_among on_list (physical_seen shape l) page) first ∙ c.seen.invariant.pages_are page)));
      stamped_are = λ page stamp.
          ap (λ x. x || holds_among on_list (physical_seen shape rest) page stamp) (c.in_ok-see.ensures.stamped page stamp)
          ∙ (grouped (is_at c.seen.places page stamp) (is_file shape one && (one.page == page && stamp_of one.rec == stamp)) (holds_among on_list (physical_seen shape rest) page stamp)
          ∙ (ap (λ x. is_at c.seen.places page stamp || x) (sym (any_more shape (λ (s : Seen). s.page == page && stamp_of s.rec == stamp) one rest))
          ∙ (ap (λ l. is_at c.seen.places page stamp || holds_among on_list (physical_seen shape l) page stamp) first ∙ c.seen.invariant.stamped_are page stamp)));
    }

pub returns : goal.returns
returns c =
    let shape = c.args.shape.now in
    let seen = c.args.scan.now.seen in
    let end = drop_all c.seen.at seen (omega (arith, c.seen-test.false, c.len-at-end.ensures)) in
    record {
      pages_are = λ page.
          sym (ap (λ x. has_place c.seen.places page || x) (ap (λ l. is_among on_list (physical_seen shape l) page) end ∙ any_none shape (λ (s : Seen). s.page == page)) ∙ or_false (has_place c.seen.places page))
          ∙ c.seen.invariant.pages_are page;
      stamped_are = λ page stamp.
          sym (ap (λ x. is_at c.seen.places page stamp || x) (ap (λ l. holds_among on_list (physical_seen shape l) page stamp) end ∙ any_none shape (λ (s : Seen). s.page == page && stamp_of s.rec == stamp))
          ∙ or_false (is_at c.seen.places page stamp))
          ∙ c.seen.invariant.stamped_are page stamp;
    }
