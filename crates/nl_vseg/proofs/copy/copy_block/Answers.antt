use Rattle.std.proofs.Common.{◌≡◌, refl, ℕ, List, Option, None, Some, inl, inr, ⊎_elim, ◌<◌, ◌≤◌, length, replicate, sym, ◌∙◌, ap, subst, arith}
use Rattle.std.proofs.lemmas.Bool.{cases_eq}
use Rattle.std.proofs.lemmas.List.{length-replicate}
use Rattle.nl_nand.proofs.Crashes.{start}
use Rattle.nl_vseg.specs.Places.{place_of}
use Rattle.nl_vseg.specs.Copies.{CopiesTo}
use Rattle.nl_vseg.specs.Copying.{target_at, AreTargets, IsAt, LeavesHole}
use Rattle.nl_vseg.proofs.Small.{done_lost, fault_done, fault_lost, lost_done}
use Rattle.nl_vseg.proofs.Copied.{changes_then, copied_then, copies_none, copies_then, uses_none, uses_then}
use Rattle.nl_vseg.proofs.Copies.{fresh_page, hole_left, new_targets, no_target}
use Rattle.nl_vseg.proofs.Images.{changed_none}
use Rattle.nl_vseg.proofs.Places.{named_within}
use Rattle.nl_vseg.proofs.copy.copy_block.Goals as goal

pub loop-v-init : goal.loop-v-init
loop-v-init g c = record {
  used = uses_none c.args.pages c.args.target c.args.blocks.now (subst (λ n. n < c.args.pages) (sym c.requires.begins) c.requires.can.some) c.requires.can.rising;
  copied = record { next = c.requires.can; map = λ t u. refl };
  count = refl;
  stamps = λ u. refl;
  behind = λ u from. refl;
  moved = λ u less. absurd (omega (arith, less));
  targets = subst (λ n. AreTargets c.args.pages c.args.target n c.args.targets.now.items) (sym c.requires.begins)
      (subst (AreTargets c.args.pages c.args.target 0) (sym c.requires.targets) (new_targets c.args.pages c.args.target));
  sources = λ at page is. absurd (no_target c.args.pages at page (subst (λ l. target_at l at ≡ Some page) c.requires.targets is));
  hole = c.requires.hole;
  changed = λ t. record { now = changed_none c.args.pages c.args.target c.args.copies.now.items (g.M.Nand.contents c.args.media.now); crash = start c.args.media.now _ };
  medium = copies_none g.M.Nand c.args.pages c.args.target c.args.wear c.args.media.now;
}

pub copy_one-requires : goal.copy_one-requires
copy_one-requires g c =
    let i = c.loop-v.invariant in
    let here : c.loop-v.v ≤ c.loop-v.v = omega arith in
    record {
      can = i.copied.next;
      vaddr = omega (arith, c.loop-v-test.true, c.len-v-end.ensures, i.count);
      targets = i.targets;
      hole = subst (λ x. LeavesHole c.args.pages c.args.victim x c.loop-v.targets.items) (sym (i.behind c.loop-v.v here)) (hole_left c.loop-v.v c.loop-v.v c.requires.can.some i.hole i.sources);
      fresh = λ t at page copied is.
          fresh_page c.args.pages c.args.victim c.loop-v.targets.items c.args.copies.now.items (g.M.Nand.contents c.args.media.now) c.loop-v.v (c.requires.can.holds t) i.sources at page copied
          (subst (IsAt c.args.pages c.args.victim at) (i.behind c.loop-v.v here) is);
    }

pub loop-v-preserved : goal.loop-v-preserved
loop-v-preserved g c =
    let i = c.loop-v.invariant in
    let e = c.copy_one.ensures in
    let done = c.in-Done.is in
    let here : c.loop-v.v ≤ c.loop-v.v = omega arith in
    record {
      used = uses_then i.used e.used;
      copied = copied_then g.M.Nand i.copied (e.done done);
      count = e.places.count ∙ i.count;
      stamps = λ u. e.places.stamps u ∙ i.stamps u;
      behind = λ u from. e.places.same u (λ is. omega (arith, is, from)) ∙ i.behind u (omega (arith, from));
      moved = λ u below place there. elim (cases_eq u c.loop-v.v) [
        | inl is ↦ ⊎_elim
            (λ was. inl (ap (place_of c.args.copies.now.items) is ∙ (sym (i.behind c.loop-v.v here) ∙ was.0), was.1))
            (λ now. inr now)
            (e.places.moved done place (sym (ap (place_of c.copy_one.new.copies.items) is) ∙ there))
        | inr ne ↦ ⊎_elim
            (λ was. inl was)
            (λ now. let more = e.used.more in inr (now.0, omega (arith, now.1, more)))
            (i.moved u (omega (arith, below, ne)) place (sym (e.places.same u ne) ∙ there))
      ];
      targets = e.targets.targets done;
      sources = λ at page is. ⊎_elim
          (λ was. let s = i.sources at page was in (s.0, omega (arith, s.1), s.2))
          (λ now. (c.loop-v.v, omega arith, subst (IsAt c.args.pages c.args.victim at) (i.behind c.loop-v.v here) now))
          (e.targets.grown at page is);
      hole = i.hole;
      changed = λ t.
          let one = e.changed t c.args.copies.now.items (g.M.Nand.contents c.args.media.now) (sym (i.behind c.loop-v.v here)) c.requires.unmapped (i.changed t).now in
          changes_then g.M.Nand (i.changed t) one;
      medium = subst (λ a. CopiesTo g.M.Nand c.args.pages c.args.target c.args.wear a c.args.media.now c.copy_one.new.media) c.in-Done.is (copies_then g.M.Nand i.medium e.medium);
    }

-- as many targets as there were
same_targets : (pages : ℕ) (first now : List (Option ℕ)) → first ≡ replicate pages None → length now ≡ pages → length now ≡ length first
same_targets pages first now none is = is ∙ sym (ap length none ∙ length-replicate pages None)

pub returns : goal.returns
returns g c =
    let i = c.loop-v.invariant in
    record {
      used = i.used;
      done = λ done. i.copied;
      moved = λ done. record {
        stamps = i.stamps;
        each = λ v place there.
            let within = named_within c.loop-v.copies.items v place there in
            i.moved v (omega (arith, within, i.count, c.len-v-end.ensures, c.loop-v-test.false)) place there;
      };
      count = i.count;
      size = same_targets c.args.pages c.args.targets.now.items c.loop-v.targets.items c.requires.targets i.targets.count;
      changed = i.changed;
      lost = λ w f is. absurd (done_lost w f is);
      medium = i.medium;
    }

pub returns-in-Lost : goal.returns-in-Lost
returns-in-Lost g c =
    let i = c.loop-v.invariant in
    let e = c.copy_one.ensures in
    let here : c.loop-v.v ≤ c.loop-v.v = omega arith in
    record {
      used = uses_then i.used e.used;
      done = λ done. absurd (lost_done _ _ done);
      moved = λ done. absurd (lost_done _ _ done);
      count = e.places.count ∙ i.count;
      size = e.targets.size ∙ same_targets c.args.pages c.args.targets.now.items c.loop-v.targets.items c.requires.targets i.targets.count;
      changed = λ t.
          let one = e.changed t c.args.copies.now.items (g.M.Nand.contents c.args.media.now) (sym (i.behind c.loop-v.v here)) c.requires.unmapped (i.changed t).now in
          changes_then g.M.Nand (i.changed t) one;
      lost = λ w f is. let l = e.lost w f (c.in-Lost.is ∙ is) in ((c.loop-v.v, sym (i.stamps c.loop-v.v) ∙ l.0), l.1);
      medium = subst (λ a. CopiesTo g.M.Nand c.args.pages c.args.target c.args.wear a c.args.media.now c.copy_one.new.media) c.in-Lost.is (copies_then g.M.Nand i.medium e.medium);
    }

pub returns-in-Fault : goal.returns-in-Fault
returns-in-Fault g c =
    let i = c.loop-v.invariant in
    let e = c.copy_one.ensures in
    let here : c.loop-v.v ≤ c.loop-v.v = omega arith in
    record {
      used = uses_then i.used e.used;
      done = λ done. absurd (fault_done done);
      moved = λ done. absurd (fault_done done);
      count = e.places.count ∙ i.count;
      size = e.targets.size ∙ same_targets c.args.pages c.args.targets.now.items c.loop-v.targets.items c.requires.targets i.targets.count;
      changed = λ t.
          let one = e.changed t c.args.copies.now.items (g.M.Nand.contents c.args.media.now) (sym (i.behind c.loop-v.v here)) c.requires.unmapped (i.changed t).now in
          changes_then g.M.Nand (i.changed t) one;
      lost = λ w f is. absurd (fault_lost w f is);
      medium = subst (λ a. CopiesTo g.M.Nand c.args.pages c.args.target c.args.wear a c.args.media.now c.copy_one.new.media) c.in-Fault.is (copies_then g.M.Nand i.medium e.medium);
    }
