use Rattle.std.proofs.Common.{◌≡◌, ℕ, ◌≤◌, inl, inr, refl, sym, ◌∙◌, ap, arith, List, Option}
use Rattle.nl_testkit_still.specs.Still.{stamp_at, stored_in}
use Rattle.nl_testkit_still.proofs.Placed.{is_new, kept_bytes, left_with, other_named, put_bytes, put_count, put_live, put_named, put_still, same_map, stays, wrote}
use Rattle.nl_testkit_still.proofs.named_pages.StillNamedPages.nameless_write.Goals as goal

pub returns-then-self-eq0-clause-left : goal.returns-then-self-eq0-clause-left
returns-then-self-eq0-clause-left c told = record {
  stops = record { later = omega arith; each = λ m x left. inl left };
  now = inl ((λ no. no), stays c.args.self.now _ c.requires.formed);
}

pub returns-clause-formed : goal.returns-clause-formed
returns-clause-formed c = let s = c.args.self.now in put_still c.args.tag c.args.from.now s c.put.new.self c.requires.formed (omega (arith, c.if-self-eq0.false)) c.put.ensures

pub returns-clause-placed : goal.returns-clause-placed
returns-clause-placed c =
    let s = c.args.self.now in
    let t = c.put.new.self in
    let f = c.requires.formed in
    let p = c.put.ensures in
    let room : 1 ≤ s.room = omega (arith, c.if-self-eq0.false) in
    let count = put_count c.args.tag c.args.from.now s t f room p in
    record {
      stamp = refl;
      is_new = is_new c.args.tag c.args.from.now s t f room p s f refl refl refl refl;
      names = record {
        live = put_live c.args.tag c.args.from.now s t f room p;
        pairs = refl;
        pending = refl;
        handled = λ d has. refl;
        posted = refl;
      };
      space = wrote 0 s t p.shape p.room (omega (arith, count));
      bytes = λ told. put_bytes c.args.tag c.args.from.now s t f room p;
      block = λ told none q off. inl (other_named c.args.tag c.args.from.now s t f room p q off);
    }

pub returns-clause-left : goal.returns-clause-left
returns-clause-left c told =
    let s = c.args.self.now in
    let t = c.put.new.self in
    let f = c.requires.formed in
    let p = c.put.ensures in
    let room : 1 ≤ s.room = omega (arith, c.if-self-eq0.false) in
    let later = p.later in
    record {
      stops = record {
        later = p.later;
        each = λ m x left. let now = left.0 in inr (omega (arith, later, now), omega (arith, now), inr (left_with c.args.tag c.args.from.now s t f room p s f refl refl refl refl (λ v. refl) x left.1));
      };
      now = inr (left_with c.args.tag c.args.from.now s t f room p s f refl refl refl refl (λ v. refl) (stored_in t) refl);
    }

pub returns-clause-kept : goal.returns-clause-kept
returns-clause-kept c =
    let s = c.args.self.now in
    let t = c.put.new.self in
    let f = c.requires.formed in
    let p = c.put.ensures in
    let room : 1 ≤ s.room = omega (arith, c.if-self-eq0.false) in
    record {
      virtual = record {
        same_shape = p.shape;
        same_stamps = λ v. ap (λ (xs : List (Option ℕ)). stamp_at xs v) p.stamps;
        same_map = λ told v. same_map c.args.tag c.args.from.now s t f room p v;
        no_failed = λ told v x no. no;
        spare = λ k. k;
      };
      bytes = λ told q page live. kept_bytes c.args.tag c.args.from.now s t f room p s f refl refl refl refl q page live;
      clean = λ k. k;
      read_faults = refl;
    }

pub returns-clause-counts : goal.returns-clause-counts
returns-clause-counts c =
    let p = c.put.ensures in
    let failed = p.failed in
    record {
      faults = record { never_falls = omega (arith, failed); cause = λ is. absurd (let no : ⊥ = cc in no); once = λ clean is. absurd (let no : ⊥ = cc in no); stays = λ clean no. failed };
      ticks = record { clock = p.later; later = λ done. p.earlier };
      clean_ticks = λ clean done. p.clock;
      clean_stays = λ clean no. absurd (no tt);
      clean_fault = λ clean. tt;
      clean_kept = λ clean. refl;
    }
