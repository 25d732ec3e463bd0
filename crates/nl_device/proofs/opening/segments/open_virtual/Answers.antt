use Rattle.std.proofs.Common.{inl, inr, ◌*◌, ◌/◌, ◌<◌, ◌≤◌, ◌∙◌, List, None, Option, length, get_or, sym, ap, subst, arith}
use Rattle.std.specs.Prelude.{IfSome, option_map}
use Rattle.std.proofs.lemmas.Bool.{cases_lt}
use Rattle.std.proofs.lemmas.List.{get_or_past, length-replicate}
use Rattle.std.proofs.lemmas.Nat.{div_below}
use Rattle.nl_field.specs.Numbers.{ShapeBounds}
use Rattle.nl_field.proofs.Bounds.{bounds}
use Rattle.nl_device.proofs.Bounds.{some_pages}
use Rattle.nl_vseg.specs.declared.place.Place.{Place}
use Rattle.nl_device.specs.Opening.{CanLoadAddress, SaysErased, Tabulates, pick_of, place_on, spread_in}
use Rattle.nl_device.specs.declared.opening.spare.Spread.TheVariants.{Nowhere}
use Rattle.nl_device.proofs.Opened.{loads, needed_is}
use Rattle.nl_device.proofs.opening.segments.open_virtual.Goals as goal

pub soil_virtual-requires-clause-count : goal.soil_virtual-requires-clause-count
soil_virtual-requires-clause-count c =
    let shape = c.args.shape.now in
    let roomy = subst ShapeBounds (sym c.requires.numbers) (bounds shape.blocks shape.pages c.requires.legal) in
    let all = roomy.segments in
    let wears = c.requires.wears in
    omega (arith, all, wears)

pub load-requires-clause-picks : goal.load-requires-clause-picks
load-requires-clause-picks c v =
    let shape = c.args.shape.now in
    let needed = needed_is shape c.args.tables.now.seen c.in_ok-owns.owns.items c.in_ok-needed.needed.items c.in_ok-greatest.greatest.items c.in_ok-owns.ensures.items c.in_ok-greatest.ensures c.in_ok-needed.ensures.items in
    let bound = c.soil_virtual.ensures.numbers.same_bound ∙ c.in_ok-vseg.ensures.bound in
    elim (cases_lt v shape.vaddrs) [
      | inl below ↦ loads shape c.args.tables.now c.requires.fits shape.pages c.in_ok-spare.spare c.in_ok-needed.needed.items v c.soil_virtual.new.vseg.bound needed bound
          (get_or c.in_ok-picks.picks.items v None) (sym (c.in_ok-picks.ensures.each v below))
      | inr past ↦
          let count = c.in_ok-picks.ensures.count_is in
          let end : length c.in_ok-picks.picks.items ≤ v = omega (arith, count, past) in
          subst (λ o. IfSome o (CanLoadAddress c.soil_virtual.new.vseg.bound v)) (sym (get_or_past c.in_ok-picks.picks.items v None end)) tt
    ]

pub returns : goal.returns
returns c =
    let shape = c.args.shape.now in
    let roomy = subst ShapeBounds (sym c.requires.numbers) (bounds shape.blocks shape.pages c.requires.legal) in
    let needed = needed_is shape c.args.tables.now.seen c.in_ok-owns.owns.items c.in_ok-needed.needed.items c.in_ok-greatest.greatest.items c.in_ok-owns.ensures.items c.in_ok-greatest.ensures c.in_ok-needed.ensures.items in
    let n = c.in_ok-vseg.ensures in
    let old = c.in_ok-vseg.vseg in
    let s = c.soil_virtual.ensures in
    let l = c.load.ensures in
    let bound = l.numbers.same_bound ∙ (s.numbers.same_bound ∙ n.bound) in
    record {
      same_pages = l.numbers.same_pages ∙ (s.numbers.same_pages ∙ n.pages);
      same_bound = bound;
      addresses = l.numbers.addresses ∙ (s.numbers.addresses ∙ (ap (λ (ps : List (Option Place)). length ps) n.places ∙ length-replicate shape.vaddrs None));
      spreads = c.in_ok-spreads.spreads.items;
      are_spreads = subst (λ ns. Tabulates shape.vaddrs Nowhere (spread_in shape.pages ns) c.in_ok-spreads.spreads.items) needed c.in_ok-spreads.ensures;
      places = λ v below. l.places v ∙ ap (option_map place_on) (c.in_ok-picks.ensures.each v below ∙ (λ i. pick_of shape.pages (c.in_ok-spare.ensures i) (needed i) v));
      blank = λ p is.
          let b = s.blank p (l.blank p is) in
          let within : p < shape.vblocks * shape.pages = subst (λ k. p < k) n.bound (n.within p b.0) in
          let here : p / old.pages < shape.vblocks = subst (λ k. p / k < shape.vblocks) (sym n.pages) (div_below p shape.pages shape.vblocks (some_pages roomy) within) in
          (subst (λ k. p < k) (sym bound) within, subst (λ k. SaysErased c.args.tables.now (p / k)) n.pages (b.1 here));
    }
