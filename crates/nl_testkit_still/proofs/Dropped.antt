-- A page is live no longer.
use Rattle.std.proofs.Common.{◌≡◌, ℕ, ◌+◌, ◌*◌, ◌<◌, ◌==◌, true, List, Option, Some, None, is_some, option_map, length, set, refl, sym, ◌∙◌, ap, subst, arith, eq-eqb, ne_eqb}
use Rattle.std.proofs.lemmas.Bool.{cond-false, cond-true}
use Rattle.std.proofs.lemmas.List.{length-set}
use Rattle.std.specs.Vec.{with_item}
use Rattle.nl_field.specs.Medium.{first_physical}
use Rattle.nl_iface.specs.Names.{without_page}
use Rattle.nl_testkit_still.specs.Stands.{IsStill}
use Rattle.nl_testkit_still.specs.Still.{label_at, live_at, live_in, page_of}
use Rattle.nl_testkit_still.specs.declared.still.Label.{Label}
use Rattle.nl_testkit_still.specs.declared.still.Still.{Still}
use Rattle.nl_testkit_still.proofs.Counted.{one_more}
use Rattle.nl_testkit_still.proofs.Labels.{clear_label, clear_live}
use Rattle.nl_testkit_still.proofs.Placed.{next_in_segment}

-- the memory without that page
abbrev pub less : Still → ℕ → Still
less s k = record s { live = with_item s.live k None }

module _ (s : Still) (f : IsStill s) (k : ℕ) (l : Label) (live : label_at s.live.items k ≡ Some l) where
  pub dropped_within : k < length s.live.items
  dropped_within = let below = (f.written k l (f.holds k l live)).below in let room = f.room in let all = f.live in omega (arith, below, room, all)

  pub dropped : IsStill (less s k)
  dropped = record {
    volume = f.volume;
    bounds = f.bounds;
    labels = f.labels;
    live = length-set s.live.items k None ∙ f.live;
    pages = f.pages;
    stamps = f.stamps;
    values = f.values;
    written = f.written;
    differ = f.differ;
    holds = λ q x is. f.holds q x (clear_label s.live.items k q x dropped_within is).1;
    from = f.from;
    room = f.room;
    free = f.free;
    some = f.some;
    addresses = f.addresses;
  }

  pub dropped_live : (q : ℕ) → live_at (set s.live.items k None) q ≡ without_page (λ r. live_at s.live.items r) k q
  dropped_live q = clear_live s.live.items k dropped_within q

  pub dropped_count : live_in s.shape (set s.live.items k None) + 1 ≡ live_in s.shape s.live.items
  dropped_count =
      let w = f.written k l (f.holds k l live) in
      sym (one_more (λ q. is_some (live_at (set s.live.items k None) q)) (λ q. is_some (live_at s.live.items q)) k (first_physical s.shape) (s.shape.pblocks * s.shape.pages) w.from
      (next_in_segment s f k (subst (λ n. k < n) f.live dropped_within)) (ap is_some (dropped_live k ∙ cond-true (k == k) None (live_at s.live.items k) (eq-eqb k k refl)))
      (ap is_some (ap (λ (o : Option Label). option_map page_of o) live))
      (λ q off. sym (ap is_some (dropped_live q ∙ cond-false (q == k) None (live_at s.live.items q) (ne_eqb q k off)))))
