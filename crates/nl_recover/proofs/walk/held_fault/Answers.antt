use Rattle.std.proofs.Common.{◌∙◌, ◌∷◌, List, [], ap, length, nat_lt, option_map, sym}
use Rattle.nl_field.specs.ScanList.{physical_seen}
use Rattle.nl_field.specs.declared.place.What.TheVariants.{Pointer as PointerPhase, Names, Charges, Crowded}
use Rattle.nl_meta.specs.Nodes.{Held}
use Rattle.nl_meta.specs.Pages.{page_of}
use Rattle.nl_meta.specs.Walk.{crowded_fault, fault_in, name_fault, pointer_fault, zero_where}
use Rattle.nl_recover.specs.Walking.{place_in}
use Rattle.nl_recover.proofs.WalkFacts.{ends, goes, none-at, stops}
use Rattle.nl_recover.proofs.walk.held_fault.Goals as goal

pub returns-in-Some : goal.returns-in-Some
unfolding fault_in
returns-in-Some c =
    stops (fault_in c.args.shape.now (page_of c.args.meta.now) c.args.scan.now.seen) PointerPhase (Names ∷ Charges ∷ Crowded ∷ []) c.in-Some.place (c.in-Some.ensures ∙ ap (option_map (place_in PointerPhase)) (c.in_ok-pointer_fault.ensures ∙ ap (pointer_fault (physical_seen c.args.shape.now c.args.scan.now.seen)) c.requires.all))

pub returns-in-Some-at : goal.returns-in-Some-at
unfolding fault_in
returns-in-Some-at c =
    stops (fault_in c.args.shape.now (page_of c.args.meta.now) c.args.scan.now.seen) Names (Charges ∷ Crowded ∷ []) c.in-Some-at.place (c.in-Some-at.ensures ∙ ap (option_map (place_in Names)) (c.in_ok-name_fault.ensures ∙ ap (name_fault c.args.shape.now c.args.scan.now.seen) c.requires.all))
    ∙ sym (goes (fault_in c.args.shape.now (page_of c.args.meta.now) c.args.scan.now.seen) PointerPhase (Names ∷ Charges ∷ Crowded ∷ []) (none-at (fault_in c.args.shape.now (page_of c.args.meta.now) c.args.scan.now.seen) PointerPhase (c.in-None.ensures ∙ ap (option_map (place_in PointerPhase)) (c.in_ok-pointer_fault.ensures ∙ ap (pointer_fault (physical_seen c.args.shape.now c.args.scan.now.seen)) c.requires.all))))

pub returns-in-Some-at-2 : goal.returns-in-Some-at-2
unfolding fault_in
returns-in-Some-at-2 c =
    stops (fault_in c.args.shape.now (page_of c.args.meta.now) c.args.scan.now.seen) Charges (Crowded ∷ []) c.in-Some-at-2.place (c.in-Some-at-2.ensures ∙ ap (option_map (place_in Charges)) (c.charge_fault.ensures ∙ ap (λ (h : List Held). zero_where (nat_lt c.args.shape.now.cap (length h))) c.requires.all))
    ∙ sym (goes (fault_in c.args.shape.now (page_of c.args.meta.now) c.args.scan.now.seen) PointerPhase (Names ∷ Charges ∷ Crowded ∷ []) (none-at (fault_in c.args.shape.now (page_of c.args.meta.now) c.args.scan.now.seen) PointerPhase (c.in-None.ensures ∙ ap (option_map (place_in PointerPhase)) (c.in_ok-pointer_fault.ensures ∙ ap (pointer_fault (physical_seen c.args.shape.now c.args.scan.now.seen)) c.requires.all))) ∙ goes (fault_in c.args.shape.now (page_of c.args.meta.now) c.args.scan.now.seen) Names (Charges ∷ Crowded ∷ []) (none-at (fault_in c.args.shape.now (page_of c.args.meta.now) c.args.scan.now.seen) Names (c.in-None-at.ensures ∙ ap (option_map (place_in Names)) (c.in_ok-name_fault.ensures ∙ ap (name_fault c.args.shape.now c.args.scan.now.seen) c.requires.all))))

pub returns : goal.returns
unfolding fault_in
returns c =
    ends (fault_in c.args.shape.now (page_of c.args.meta.now) c.args.scan.now.seen) Crowded _ (c.at-4.ensures ∙ ap (option_map (place_in Crowded)) (c.in_ok-crowded_fault.ensures ∙ ap (crowded_fault c.args.shape.now c.args.scan.now.seen) c.requires.all))
    ∙ sym (goes (fault_in c.args.shape.now (page_of c.args.meta.now) c.args.scan.now.seen) PointerPhase (Names ∷ Charges ∷ Crowded ∷ []) (none-at (fault_in c.args.shape.now (page_of c.args.meta.now) c.args.scan.now.seen) PointerPhase (c.in-None.ensures ∙ ap (option_map (place_in PointerPhase)) (c.in_ok-pointer_fault.ensures ∙ ap (pointer_fault (physical_seen c.args.shape.now c.args.scan.now.seen)) c.requires.all))) ∙ goes (fault_in c.args.shape.now (page_of c.args.meta.now) c.args.scan.now.seen) Names (Charges ∷ Crowded ∷ []) (none-at (fault_in c.args.shape.now (page_of c.args.meta.now) c.args.scan.now.seen) Names (c.in-None-at.ensures ∙ ap (option_map (place_in Names)) (c.in_ok-name_fault.ensures ∙ ap (name_fault c.args.shape.now c.args.scan.now.seen) c.requires.all))) ∙ goes (fault_in c.args.shape.now (page_of c.args.meta.now) c.args.scan.now.seen) Charges (Crowded ∷ []) (none-at (fault_in c.args.shape.now (page_of c.args.meta.now) c.args.scan.now.seen) Charges (c.in-None-at-2.ensures ∙ ap (option_map (place_in Charges)) (c.charge_fault.ensures ∙ ap (λ (h : List Held). zero_where (nat_lt c.args.shape.now.cap (length h))) c.requires.all))))
