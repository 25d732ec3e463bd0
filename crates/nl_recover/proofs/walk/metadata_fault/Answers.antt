use Rattle.std.proofs.Common.{◌∙◌, ◌∷◌, [], ap, option_map, sym}
use Rattle.nl_field.specs.declared.place.What.TheVariants.{Super, Stamp, Inode, Pages as PagesPhase, Entry}
use Rattle.nl_meta.specs.Pages.{page_of}
use Rattle.nl_meta.specs.Walk.{fault_in}
use Rattle.nl_meta.proofs.AddressProofs.{addresses}
use Rattle.nl_recover.specs.Walking.{place_in}
use Rattle.nl_recover.proofs.WalkFacts.{ends, goes, none-at, stops}
use Rattle.nl_recover.proofs.walk.metadata_fault.Goals as goal

pub returns-in-Some-clause-value : goal.returns-in-Some-clause-value
unfolding fault_in
returns-in-Some-clause-value c =
    stops (fault_in c.args.shape.now (page_of c.args.meta.now) c.args.scan.now.seen) Super (Stamp ∷ Inode ∷ PagesPhase ∷ Entry ∷ []) c.in-Some.place (c.in-Some.ensures ∙ ap (option_map (place_in Super)) c.super_fault.ensures)

pub returns-in-Some-at-clause-value : goal.returns-in-Some-at-clause-value
unfolding fault_in
returns-in-Some-at-clause-value c =
    stops (fault_in c.args.shape.now (page_of c.args.meta.now) c.args.scan.now.seen) Stamp (Inode ∷ PagesPhase ∷ Entry ∷ []) c.in-Some-at.place (c.in-Some-at.ensures ∙ ap (option_map (place_in Stamp)) c.stamp_fault.ensures)
    ∙ sym (goes (fault_in c.args.shape.now (page_of c.args.meta.now) c.args.scan.now.seen) Super (Stamp ∷ Inode ∷ PagesPhase ∷ Entry ∷ []) (none-at (fault_in c.args.shape.now (page_of c.args.meta.now) c.args.scan.now.seen) Super (c.in-None.ensures ∙ ap (option_map (place_in Super)) c.super_fault.ensures)))

pub returns-in-Some-at-2-clause-value : goal.returns-in-Some-at-2-clause-value
unfolding fault_in
returns-in-Some-at-2-clause-value c =
    stops (fault_in c.args.shape.now (page_of c.args.meta.now) c.args.scan.now.seen) Inode (PagesPhase ∷ Entry ∷ []) c.in-Some-at-2.place (c.in-Some-at-2.ensures ∙ ap (option_map (place_in Inode)) c.inode_fault.ensures)
    ∙ sym (goes (fault_in c.args.shape.now (page_of c.args.meta.now) c.args.scan.now.seen) Super (Stamp ∷ Inode ∷ PagesPhase ∷ Entry ∷ []) (none-at (fault_in c.args.shape.now (page_of c.args.meta.now) c.args.scan.now.seen) Super (c.in-None.ensures ∙ ap (option_map (place_in Super)) c.super_fault.ensures)) ∙ goes (fault_in c.args.shape.now (page_of c.args.meta.now) c.args.scan.now.seen) Stamp (Inode ∷ PagesPhase ∷ Entry ∷ []) (none-at (fault_in c.args.shape.now (page_of c.args.meta.now) c.args.scan.now.seen) Stamp (c.in-None-at.ensures ∙ ap (option_map (place_in Stamp)) c.stamp_fault.ensures)))

pub returns-in-Some-at-3-clause-value : goal.returns-in-Some-at-3-clause-value
unfolding fault_in
returns-in-Some-at-3-clause-value c =
    stops (fault_in c.args.shape.now (page_of c.args.meta.now) c.args.scan.now.seen) PagesPhase (Entry ∷ []) c.in-Some-at-3.place (c.in-Some-at-3.ensures ∙ ap (option_map (place_in PagesPhase)) c.in_ok-pages_fault.ensures)
    ∙ sym (goes (fault_in c.args.shape.now (page_of c.args.meta.now) c.args.scan.now.seen) Super (Stamp ∷ Inode ∷ PagesPhase ∷ Entry ∷ []) (none-at (fault_in c.args.shape.now (page_of c.args.meta.now) c.args.scan.now.seen) Super (c.in-None.ensures ∙ ap (option_map (place_in Super)) c.super_fault.ensures)) ∙ goes (fault_in c.args.shape.now (page_of c.args.meta.now) c.args.scan.now.seen) Stamp (Inode ∷ PagesPhase ∷ Entry ∷ []) (none-at (fault_in c.args.shape.now (page_of c.args.meta.now) c.args.scan.now.seen) Stamp (c.in-None-at.ensures ∙ ap (option_map (place_in Stamp)) c.stamp_fault.ensures)) ∙ goes (fault_in c.args.shape.now (page_of c.args.meta.now) c.args.scan.now.seen) Inode (PagesPhase ∷ Entry ∷ []) (none-at (fault_in c.args.shape.now (page_of c.args.meta.now) c.args.scan.now.seen) Inode (c.in-None-at-2.ensures ∙ ap (option_map (place_in Inode)) c.inode_fault.ensures)))

pub returns-clause-value : goal.returns-clause-value
unfolding fault_in
returns-clause-value c =
    ends (fault_in c.args.shape.now (page_of c.args.meta.now) c.args.scan.now.seen) Entry _ (c.at-5.ensures ∙ ap (option_map (place_in Entry)) c.in_ok-names_fault.ensures)
    ∙ sym (goes (fault_in c.args.shape.now (page_of c.args.meta.now) c.args.scan.now.seen) Super (Stamp ∷ Inode ∷ PagesPhase ∷ Entry ∷ []) (none-at (fault_in c.args.shape.now (page_of c.args.meta.now) c.args.scan.now.seen) Super (c.in-None.ensures ∙ ap (option_map (place_in Super)) c.super_fault.ensures)) ∙ goes (fault_in c.args.shape.now (page_of c.args.meta.now) c.args.scan.now.seen) Stamp (Inode ∷ PagesPhase ∷ Entry ∷ []) (none-at (fault_in c.args.shape.now (page_of c.args.meta.now) c.args.scan.now.seen) Stamp (c.in-None-at.ensures ∙ ap (option_map (place_in Stamp)) c.stamp_fault.ensures)) ∙ goes (fault_in c.args.shape.now (page_of c.args.meta.now) c.args.scan.now.seen) Inode (PagesPhase ∷ Entry ∷ []) (none-at (fault_in c.args.shape.now (page_of c.args.meta.now) c.args.scan.now.seen) Inode (c.in-None-at-2.ensures ∙ ap (option_map (place_in Inode)) c.inode_fault.ensures)) ∙ goes (fault_in c.args.shape.now (page_of c.args.meta.now) c.args.scan.now.seen) PagesPhase (Entry ∷ []) (none-at (fault_in c.args.shape.now (page_of c.args.meta.now) c.args.scan.now.seen) PagesPhase (c.in-None-at-3.ensures ∙ ap (option_map (place_in PagesPhase)) c.in_ok-pages_fault.ensures)))

pub returns-clause-sound : goal.returns-clause-sound
unfolding fault_in
returns-clause-sound c = λ _. (addresses c.args.shape.now (page_of c.args.meta.now)).0 (none-at (fault_in c.args.shape.now (page_of c.args.meta.now) c.args.scan.now.seen) PagesPhase (c.in-None-at-3.ensures ∙ ap (option_map (place_in PagesPhase)) c.in_ok-pages_fault.ensures))
