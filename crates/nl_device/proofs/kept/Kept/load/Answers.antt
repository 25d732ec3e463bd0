use Rattle.std.proofs.Common.{◌≡◌, ℕ, ◌/◌, inl, inr, ⊎_elim, Some, None, ap, option_map, set, subst, sym, ◌∙◌, unwrap_or}
use Rattle.std.specs.Prelude.{◌==◌, Contains, IsTrue, find}
use Rattle.std.proofs.lemmas.Bool.{cases_eq}
use Rattle.std.proofs.lemmas.Option.{none-some, same_Some}
use Rattle.nl_field.specs.Spelling.{is_stamp}
use Rattle.nl_pseg.specs.Segment.{IsOldName, held_at}
use Rattle.nl_device.specs.Kept.{AreKeptPages, place_among}
use Rattle.nl_callbacks.specs.Pending.{callback_of}
use Rattle.nl_device.specs.Posting.{Posts}
use Rattle.nl_device.specs.Retain.{LoadsPointer, no_tag, placed_at, tag_on}
use Rattle.nl_device.specs.declared.kept.page.KeptPage.{KeptPage}
use Rattle.nl_device.proofs.Loading.{in_segment, placed, there}
use Rattle.nl_device.proofs.kept.Kept.load.Goals as goal

pub returns-in_default : goal.returns-in_default
returns-in_default c = absurd (none-some c.requires.can.page (sym c.in_default.is ∙ c.place.ensures ∙ c.requires.can.place))

pub returns-in_default-page : goal.returns-in_default-page
returns-in_default-page c =
    let is = subst (λ k. AreKeptPages k c.self.inside.copies) c.self.view_is c.self.invariant in
    let t = there c.args.self.now c.self.inside.copies c.args.spare c.args.at.now c.in-Some.page is (sym c.place.ensures ∙ c.in-Some.is) in
    absurd (none-some t.kept_page (sym c.in_default-page.is ∙ c.page.ensures ∙ t.found))

pub load-requires-clause-dead : goal.load-requires-clause-dead
load-requires-clause-dead c =
    let is = subst (λ k. AreKeptPages k c.self.inside.copies) c.self.view_is c.self.invariant in
    let place : place_among c.args.self.now c.args.spare c.args.at.now ≡ Some c.in-Some.page = sym c.place.ensures ∙ c.in-Some.is in
    let e : c.requires.can.page ≡ c.in-Some.page = same_Some c.requires.can.page c.in-Some.page (sym c.requires.can.place ∙ place) in
    let t = there c.args.self.now c.self.inside.copies c.args.spare c.args.at.now c.in-Some.page is place in
    record {
      within = in_segment c.args.self.now c.self.inside.copies c.args.spare c.args.at.now c.in-Some.page c.args.pseg.now is c.requires.segment t;
      dead = subst (λ n. held_at c.args.pseg.now n ≡ None) e c.requires.can.dead;
      own = subst (λ n. IsOldName c.args.pseg.now n → ⊥) e c.requires.can.own;
      apart = λ v. none-some (c.in-Some.page / c.args.pseg.now.size) (sym c.requires.can.none_in_hand ∙ v);
    }

pub load-requires-clause-stamp : goal.load-requires-clause-stamp
load-requires-clause-stamp c =
    let is = subst (λ k. AreKeptPages k c.self.inside.copies) c.self.view_is c.self.invariant in
    let t = there c.args.self.now c.self.inside.copies c.args.spare c.args.at.now c.in-Some.page is (sym c.place.ensures ∙ c.in-Some.is) in
    subst (λ n. IsTrue (is_stamp n)) t.stamp t.of.spelled

pub load-requires-clause-away : goal.load-requires-clause-away
load-requires-clause-away c away =
    let place : place_among c.args.self.now c.args.spare c.args.at.now ≡ Some c.in-Some.page = sym c.place.ensures ∙ c.in-Some.is in
    c.requires.can.lead (λ same. away (same ∙ same_Some c.requires.can.page c.in-Some.page (sym c.requires.can.place ∙ place)))

pub call-requires : goal.call-requires
call-requires c away =
    let place : place_among c.args.self.now c.args.spare c.args.at.now ≡ Some c.in-Some.page = sym c.place.ensures ∙ c.in-Some.is in
    c.requires.can.room (λ same. away (same ∙ same_Some c.requires.can.page c.in-Some.page (sym c.requires.can.place ∙ place)))

pub returns-clause-loaded : goal.returns-clause-loaded
returns-clause-loaded c =
    let place : place_among c.args.self.now c.args.spare c.args.at.now ≡ Some c.in-Some.page = sym c.place.ensures ∙ c.in-Some.is in
    let e : placed_at c.args.self.now c.args.spare c.args.at.now ≡ c.in-Some.page = placed c.args.self.now c.args.spare c.args.at.now c.in-Some.page place in
    let found : Some c.in-Some-page.kept ≡ find (λ (k : KeptPage). k.page == c.in-Some.page) c.args.self.now.pages = sym c.in-Some-page.is ∙ c.page.ensures in
    let l = c.load.ensures in
    subst (λ n. LoadsPointer c.args.self.now n c.args.at.now c.args.pseg.now c.load.new.self) (sym e) (record {
      live = l.loads.held ∙ ap (λ o. set c.args.pseg.now.held c.in-Some.page (option_map (λ (k : KeptPage). record { tag = k.tag; stamp = c.args.at.now.stamp }) o)) found;
      leads = l.loads.leads;
      names = l.loads.ways;
      olds = λ name old_name. ⊎_elim
          (λ same. ⊎_elim
          (λ here. inr (subst (λ ps. (target : ℕ) × Contains ps (name, target)) (l.loads.pairs here) old_name))
          (λ away. inl (same, away))
          (cases_eq c.args.at.now.name c.in-Some.page))
          (λ was. inr was)
          (l.loads.olds name old_name);
      own = l.loads.pairs;
      more = λ away. (l.loads.more away).0;
      same_first = l.loads.range.range_first;
      same_blocks = l.loads.range.range_blocks;
      same_size = l.loads.range.range_size;
      others_kept = λ block other. (l.loads.others block other).0;
      same_soiled = l.loads.same_soiled;
      left = l.loads.left;
      erased = λ q taken. (l.loads.erased q taken).0;
      copies = l.loads.copies;
      whole = l.whole;
      none_in_hand = l.victim;
      kept_block = l.kept;
      kept_dead = l.whole.pages.in_use;
    })

pub returns-clause-called : goal.returns-clause-called
returns-clause-called c =
    let kept = c.args.self.now in
    let p = c.args.at.now in
    let page = c.in-Some.page in
    let place : place_among kept c.args.spare p ≡ Some page = sym c.place.ensures ∙ c.in-Some.is in
    let e : placed_at kept c.args.spare p ≡ page = placed kept c.args.spare p page place in
    let found : Some c.in-Some-page.kept ≡ find (λ (k : KeptPage). k.page == page) kept.pages = sym c.in-Some-page.is ∙ c.page.ensures in
    let tag : c.in-Some-page.kept.tag ≡ tag_on kept page = ap (λ o. unwrap_or (option_map (λ (k : KeptPage). k.tag) o) no_tag) found in
    record {
      here = λ same. c.call.ensures.here (sym same ∙ e);
      away = λ far.
          let posts = c.call.ensures.away (λ same. far (e ∙ sym same)) in (
            posts.0,
            subst (λ call. Posts call c.args.pending.now c.call.new.pending)
                (ap (λ t. callback_of posts.0 p.name page t p.stamp) tag ∙ ap (λ n. callback_of posts.0 p.name n (tag_on kept n) p.stamp) (sym e))
                posts.1,
          );
    }
