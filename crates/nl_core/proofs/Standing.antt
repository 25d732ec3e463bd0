-- What a core stores opens, and its pages in flight lead.
use Rattle.std.proofs.Common.{◌≡◌, ◌*◌, ◌<◌, Bool, true, false, ◌&&◌, ◌||◌, nat_le, nat_lt, List, Some, refl, sym, subst, ◌∙◌}
use Rattle.std.proofs.lemmas.Bool.{and_from, le-leb, lt-ltb}
use Rattle.nl_field.specs.Medium.{first_physical}
use Rattle.nl_field.specs.Pointers.{is_none_pointer}
use Rattle.nl_field.specs.declared.pointer.Pointer.{Pointer}
use Rattle.nl_field.specs.declared.pointer.Tag.{Tag}
use Rattle.nl_flight.specs.Flight.{carried}
use Rattle.nl_iface.specs.Calls.{StoresMap, stored}
use Rattle.nl_iface.specs.Device.{IsVolumeShape}
use Rattle.nl_iface.specs.Holders.{IsRef, always, wants_tagged}
use Rattle.nl_iface.specs.Names.{Has, IsNames, Names, led}
use Rattle.nl_iface.specs.declared.counts.Counts.{Ghosts}
use Rattle.nl_spec_commits.proofs.DeviceTrees.{holding_opens, now_holds}
use Rattle.nl_core.specs.Core.{IsCore, names_of}
use Rattle.nl_core.specs.Laws.{FlightLeads, StoredOpens}
use Rattle.nl_core.specs.declared.state.Core.{Core}

pub stored_opens : {D : Type 0} (g : Ghosts D) (v : Core D) → IsVolumeShape (g.shape v.device) → (g.tells → StoresMap g v.device) → IsCore g v → v.stopped ≡ 0 → StoredOpens g v
stored_opens g v volume map core runs told page_of_stamp t at =
    let firm = (core.writes runs).firm (told.tells, told.numbers) in
    holding_opens g v.device v.journal v.meta v.count page_of_stamp t (carried v.flight) v.freeing.items (stored g v.device) _ volume told.tells told.numbers core.held firm (map told.tells) at.stands
    (now_holds g v.device page_of_stamp firm at.runs.shows)

or_right : (b c : Bool) → c ≡ true → b || c ≡ true
or_right true c is = refl
or_right false c is = is

pub flight_leads : {D : Type 0} (g : Ghosts D) (v : Core D) → IsNames (g.shape v.device) (g.next_stamp v.device) (names_of g v) → IsCore g v → FlightLeads g v
flight_leads g v names core x has =
    let h = core.held in
    let ref : IsRef (names_of g v) always (wants_tagged x) x.1.name = subst (λ (n : Names). IsRef n always (wants_tagged x) x.1.name) h.is_of.runs.names
    (h.holds.held.flight x (subst (λ (xs : List (Tag × Pointer)). Has xs x) (sym h.in_flight) has)) in
    let r = ref.leads in
    let at = led (names_of g v) x.1.name in
    let shape = g.shape v.device in
    let within = core.named x has in
    record {
      live = r.1 ∙ (λ i. Some (record { tag = r.2.0 i; stamp = r.2.1 i }));
      given = subst (λ n. n < g.next_stamp v.device) r.2.1 (names.below at r.0 r.1);
      spelled = core.stamped x has;
      physical = or_right (is_none_pointer x.1) (nat_le (first_physical shape) x.1.name && nat_lt x.1.name (shape.blocks * shape.pages))
          (and_from (nat_le (first_physical shape) x.1.name) (nat_lt x.1.name (shape.blocks * shape.pages)) (le-leb (first_physical shape) x.1.name within.0)
          (lt-ltb x.1.name (shape.blocks * shape.pages) within.1));
    }
