use Rattle.std.proofs.Common.{◌≡◌, ◌∙◌, ℕ, List, ap, filter_map, refl, sym, arith}
use Rattle.nl_meta.specs.Pages.{page_of}
use Rattle.nl_meta.specs.Walk.{EntryPlace}
use Rattle.nl_recover.specs.Entries.{place_there}
use Rattle.nl_recover.specs.Reaching.{reached_by, target_of, with_node}
use Rattle.nl_recover.specs.Scanning.{gathered}
use Rattle.nl_recover.proofs.EntryFacts.{dir-places}
use Rattle.nl_recover.proofs.ReachFacts.{nothing-named, places-step}
use Rattle.nl_recover.proofs.Scans.{upto}
use Rattle.nl_recover.proofs.reach.visit_places.Goals as goal

pub loop-place-init : goal.loop-place-init
loop-place-init c = record { size = refl; visited = nothing-named c.args.shape.now (page_of c.args.meta.now) (reached_by c.args.marks.now.items c.args.queue.now.items) _ refl }

pub loop-place-preserved : goal.loop-place-preserved
loop-place-preserved c = record {
  size = c.in_ok-visit_place.ensures.size ∙ c.loop-place.invariant.size;
  visited = places-step c.args.shape.now (page_of c.args.meta.now) (place_there (page_of c.args.meta.now) c.args.dir c.args.rec.now) c.loop-place.place (reached_by c.args.marks.now.items c.args.queue.now.items)
      (reached_by c.loop-place.marks.items c.loop-place.queue.items) _ c.loop-place.invariant.visited c.in_ok-visit_place.ensures.visited;
}

pub returns-clause-visited : goal.returns-clause-visited
returns-clause-visited c =
    let past = c.loop-place-test.false in
    let most = c.loop-place.auto.place-end in
    let value = c.place_count-place-end.ensures.value in
    let end : c.loop-place.place ≡ _ = omega (arith, past, most) ∙ value in
    c.loop-place.invariant.visited
    ∙ ap (λ (ps : List EntryPlace). gathered (with_node c.args.shape.now.nodes) (reached_by c.args.marks.now.items c.args.queue.now.items) (filter_map target_of ps))
    (ap (λ (n : ℕ). upto (place_there (page_of c.args.meta.now) c.args.dir c.args.rec.now) n) end ∙ sym (dir-places c.args.shape.now (page_of c.args.meta.now) c.args.dir c.args.rec.now c.requires.dir))
