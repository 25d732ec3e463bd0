use Rattle.std.proofs.Common.{◌≡◌, ℕ, ◌≤◌, ◌==◌, cond, inl, inr, refl, sym, ◌∙◌, ap, arith, List, Option, Some}
use Rattle.nl_iface.specs.Names.{LivePage}
use Rattle.nl_testkit_still.specs.Still.{page_of, label, stamp_at, stored_in}
use Rattle.nl_testkit_still.proofs.Dropped.{dropped, dropped_count, dropped_live, less}
use Rattle.nl_testkit_still.proofs.Placed.{is_new, kept_bytes, left_with, other_named, put_bytes, put_count, put_live, put_still, same_map, stays, wrote}
use Rattle.nl_testkit_still.proofs.named_pages.StillNamedPages.nameless_overwrite.Goals as goal

pub returns-then-self-eq0-clause-left : goal.returns-then-self-eq0-clause-left
returns-then-self-eq0-clause-left c told = record {
  stops = record { later = omega arith; each = λ m x left. inl left };
  now = inl ((λ no. no), stays c.args.self.now _ c.requires.formed);
}

pub returns-in_default-clause-left : goal.returns-in_default-clause-left
returns-in_default-clause-left c told = record {
  stops = record { later = omega arith; each = λ m x left. inl left };
  now = inl ((λ no. no), stays c.args.self.now _ c.requires.formed);
}

pub returns-in_default-2-clause-left : goal.returns-in_default-2-clause-left
returns-in_default-2-clause-left c told = record {
  stops = record { later = omega arith; each = λ m x left. inl left };
  now = inl ((λ no. no), stays c.args.self.now _ c.requires.formed);
}

pub put-requires-clause-formed : goal.put-requires-clause-formed
put-requires-clause-formed c = dropped c.args.self.now c.requires.formed c.args.old.name c.in-Some.label (sym c.live_page.ensures ∙ c.in-Some.is)

pub returns-else-self-eq0-clause-formed : goal.returns-else-self-eq0-clause-formed
returns-else-self-eq0-clause-formed c =
    let s = c.args.self.now in
    let k = c.args.old.name in
    let f = dropped s c.requires.formed k c.in-Some.label (sym c.live_page.ensures ∙ c.in-Some.is) in
    put_still c.args.tag c.args.from.now (less s k) c.put.new.self f (omega (arith, c.if-self-eq0.false)) c.put.ensures

pub returns-else-self-eq0-clause-placed : goal.returns-else-self-eq0-clause-placed
returns-else-self-eq0-clause-placed c =
    let s = c.args.self.now in
    let k = c.args.old.name in
    let live = sym c.live_page.ensures ∙ c.in-Some.is in
    let g = c.requires.formed in
    let f = dropped s g k c.in-Some.label live in
    let mid = less s k in
    let t = c.put.new.self in
    let p = c.put.ensures in
    let room : 1 ≤ s.room = omega (arith, c.if-self-eq0.false) in
    let more = put_count c.args.tag c.args.from.now mid t f room p in
    let gone = dropped_count s g k c.in-Some.label live in
    record {
      stamp = refl;
      is_new = is_new c.args.tag c.args.from.now mid t f room p s g refl refl refl refl;
      names = record {
        live = λ q. put_live c.args.tag c.args.from.now mid t f room p q
            ∙ ap (λ (o : Option LivePage). cond (q == s.given) (Some (page_of (label c.args.tag s.next))) o) (dropped_live s g k c.in-Some.label live q);
        pairs = refl;
        pending = refl;
        handled = λ d has. refl;
        posted = refl;
      };
      space = wrote 1 s t p.shape p.room (omega (arith, more, gone));
      bytes = λ told. put_bytes c.args.tag c.args.from.now mid t f room p;
      block = λ told none q off. inl (other_named c.args.tag c.args.from.now mid t f room p q off);
    }

pub returns-else-self-eq0-clause-left : goal.returns-else-self-eq0-clause-left
returns-else-self-eq0-clause-left c told =
    let s = c.args.self.now in
    let k = c.args.old.name in
    let live = sym c.live_page.ensures ∙ c.in-Some.is in
    let g = c.requires.formed in
    let f = dropped s g k c.in-Some.label live in
    let mid = less s k in
    let t = c.put.new.self in
    let p = c.put.ensures in
    let room : 1 ≤ s.room = omega (arith, c.if-self-eq0.false) in
    let later = p.later in
    record {
      stops = record {
        later = p.later;
        each = λ m x left. let now = left.0 in inr (omega (arith, later, now), omega (arith, now), inr (left_with c.args.tag c.args.from.now mid t f room p s g refl refl refl refl (λ v. refl) x left.1));
      };
      now = inr (left_with c.args.tag c.args.from.now mid t f room p s g refl refl refl refl (λ v. refl) (stored_in t) refl);
    }

pub returns-else-self-eq0-clause-kept : goal.returns-else-self-eq0-clause-kept
returns-else-self-eq0-clause-kept c =
    let s = c.args.self.now in
    let k = c.args.old.name in
    let live = sym c.live_page.ensures ∙ c.in-Some.is in
    let g = c.requires.formed in
    let f = dropped s g k c.in-Some.label live in
    let mid = less s k in
    let t = c.put.new.self in
    let p = c.put.ensures in
    let room : 1 ≤ s.room = omega (arith, c.if-self-eq0.false) in
    record {
      virtual = record {
        same_shape = p.shape;
        same_stamps = λ v. ap (λ (xs : List (Option ℕ)). stamp_at xs v) p.stamps;
        same_map = λ told v. same_map c.args.tag c.args.from.now mid t f room p v;
        no_failed = λ told v x no. no;
        spare = λ n. n;
      };
      bytes = λ told q page is. kept_bytes c.args.tag c.args.from.now mid t f room p s g refl refl refl refl q page is;
      clean = λ n. n;
      read_faults = refl;
    }

pub returns-else-self-eq0-clause-counts : goal.returns-else-self-eq0-clause-counts
returns-else-self-eq0-clause-counts c =
    let p = c.put.ensures in
    let failed = p.failed in
    record {
      faults = record { never_falls = omega (arith, failed); cause = λ is. absurd (let no : ⊥ = cc in no); once = λ clean is. absurd (let no : ⊥ = cc in no); stays = λ clean no. failed };
      ticks = record { clock = p.later; later = λ done. p.earlier };
      clean_ticks = λ clean done. p.clock;
      clean_stays = λ clean no. absurd (no tt);
      clean_fault = λ clean. tt;
      clean_kept = λ clean. refl;
    }
