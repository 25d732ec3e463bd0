use Rattle.std.proofs.Common.{◌≡◌, ◌∙◌, ℕ, List, None, Some, [], refl, subst, sym, arith}
use Rattle.nl_meta.specs.Pages.{page_of}
use Rattle.nl_meta.specs.Walk.{EntryPlace}
use Rattle.nl_recover.specs.Entries.{PassesPlaces, dir_of_place, is_bad_among, named_by, place_there, with_place}
use Rattle.nl_recover.proofs.EntryFacts.{dir-places, places-none}
use Rattle.nl_recover.proofs.Scans.{upto, upto-next, upto-stops}
use Rattle.nl_recover.proofs.entries.dir_fault.Goals as goal

pub loop-place-init : goal.loop-place-init
loop-place-init c = record { size = refl; passes = places-none c.args.shape.now (page_of c.args.meta.now) (named_by c.args.nodes.now.items c.args.names.now.items) _ [] refl refl }

pub place_fault-requires-clause-inside : goal.place_fault-requires-clause-inside
place_fault-requires-clause-inside c = let h = c.loop-place-test.true in let few = c.place_count-place-end.ensures.few in omega (arith, h, few)

pub loop-place-preserved : goal.loop-place-preserved
loop-place-preserved c = record {
  size = c.in-Ok-None.ensures.size ∙ c.loop-place.invariant.size;
  passes = upto-next (is_bad_among c.args.shape.now (page_of c.args.meta.now)) with_place dir_of_place (place_there (page_of c.args.meta.now) c.args.ino c.args.rec.now)
      (named_by c.args.nodes.now.items c.args.names.now.items) (named_by c.loop-place.nodes.items c.loop-place.names.items) (named_by c.place_fault.new.nodes.items c.place_fault.new.names.items)
      c.loop-place.place c.loop-place.invariant.passes (rw c.in-Ok-None.field-0-is at c.in-Ok-None.ensures.passes);
}

pub returns-in-Ok-Some-clause-passes : goal.returns-in-Ok-Some-clause-passes
returns-in-Ok-Some-clause-passes c =
    subst (λ (ps : List EntryPlace). PassesPlaces c.args.shape.now (page_of c.args.meta.now) (named_by c.args.nodes.now.items c.args.names.now.items) (named_by c.place_fault.new.nodes.items c.place_fault.new.names.items) ps (Some c.in-Ok-Some.dir))
    (sym (dir-places c.args.shape.now (page_of c.args.meta.now) c.args.ino c.args.rec.now c.requires.dir))
    (upto-stops (is_bad_among c.args.shape.now (page_of c.args.meta.now)) with_place dir_of_place (place_there (page_of c.args.meta.now) c.args.ino c.args.rec.now)
    (named_by c.args.nodes.now.items c.args.names.now.items) (named_by c.loop-place.nodes.items c.loop-place.names.items) (named_by c.place_fault.new.nodes.items c.place_fault.new.names.items)
    c.loop-place.place _ c.in-Ok-Some.dir (let h = c.loop-place-test.true in let e = c.place_count-place-end.ensures.value in omega (arith, h, e)) c.loop-place.invariant.passes (rw c.in-Ok-Some.field-0-is at c.in-Ok-Some.ensures.passes))

pub returns-clause-passes : goal.returns-clause-passes
returns-clause-passes c =
    let past = c.loop-place-test.false in
    let most = c.loop-place.auto.place-end in
    let value = c.place_count-place-end.ensures.value in
    let end : c.loop-place.place ≡ _ = omega (arith, past, most) ∙ value in
    subst (λ (ps : List EntryPlace). PassesPlaces c.args.shape.now (page_of c.args.meta.now) (named_by c.args.nodes.now.items c.args.names.now.items) (named_by c.loop-place.nodes.items c.loop-place.names.items) ps None)
    (sym (dir-places c.args.shape.now (page_of c.args.meta.now) c.args.ino c.args.rec.now c.requires.dir))
    (subst (λ (n : ℕ). PassesPlaces c.args.shape.now (page_of c.args.meta.now) (named_by c.args.nodes.now.items c.args.names.now.items) (named_by c.loop-place.nodes.items c.loop-place.names.items)
    (upto (place_there (page_of c.args.meta.now) c.args.ino c.args.rec.now) n) None) end c.loop-place.invariant.passes)
