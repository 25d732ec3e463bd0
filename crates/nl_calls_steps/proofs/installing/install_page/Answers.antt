use Rattle.std.proofs.Common.{◌≡◌, sym, subst}
use Rattle.std.proofs.lemmas.Option.{get_or_from_slice_get}
use Rattle.nl_flight.specs.Flight.{of_worker}
use Rattle.nl_flight.specs.declared.page.FlightPage.{FlightPage}
use Rattle.nl_meta_running.specs.Running.{stored_on}
use Rattle.nl_calls_steps.specs.Installing.{HasRoomToInstall, InstallsPage, FilePointerIsResident, IsPageOfFile, page_in}
use Rattle.nl_calls_steps.proofs.FileInstalled.{core_after, few_items, file_record, has_place, installs_page, new_pages}
use Rattle.nl_calls_steps.proofs.installing.install_page.Goals as goal

pub take_page-requires : goal.take_page-requires
take_page-requires g c =
    let G = g.D.Counts in
    let v = c.args.core.now in
    let page : FlightPage = record { index = c.in-Some.index; at = c.in-Some.at; tag = c.in-Some.field-0-2 } in
    let is : page_in v c.args.worker c.args.place ≡ page = get_or_from_slice_get (of_worker v.flight c.args.worker).pages c.args.place page _ c.in-Some.ensures.some in
    let hand = subst (λ (p : FlightPage). FilePointerIsResident G v c.args.ino p.index c.args.rec.now) is c.requires.hand in
    let of = subst (λ (p : FlightPage). IsPageOfFile G v c.args.ino c.args.rec.now p) is c.requires.page in
    let room = subst (λ (p : FlightPage). HasRoomToInstall G v c.args.ino c.args.rec.now p) is c.requires.room in
    let volume = c.device_stands.ensures.volume in
    let names = c.device_stands.ensures.names in
    let at = c.in-Some.ensures.some in
    record {
      within = of.within;
      file = file_record G v c.args.worker c.args.place c.args.ino c.args.size page c.args.rec.now c.args.rec.now v.meta v.nodes v.freeing c.requires.core c.requires.lines c.requires.known at hand of room volume;
      size = c.requires.size;
      there = hand.there;
      range = hand.range;
      to = of.spelled;
      room = room.dirty;
      free = new_pages G v c.args.worker c.args.place c.args.ino c.args.size page c.args.rec.now c.args.rec.now v.meta v.nodes v.freeing c.requires.core c.requires.lines c.requires.known at hand of room volume;
      fresh = room.pool;
      place = has_place G v c.args.worker c.args.place c.args.ino c.args.size page c.args.rec.now c.args.rec.now v.meta v.nodes v.freeing c.requires.core c.requires.lines c.requires.known at hand of room volume names;
      few = few_items G v c.args.worker c.args.place c.args.ino c.args.size page c.args.rec.now c.args.rec.now v.meta v.nodes v.freeing c.requires.core c.requires.lines c.requires.known at hand of room volume names;
    }

pub returns : goal.returns
returns g c =
    let G = g.D.Counts in
    let v = c.args.core.now in
    let page : FlightPage = record { index = c.in-Some.index; at = c.in-Some.at; tag = c.in-Some.field-0-2 } in
    let is : page_in v c.args.worker c.args.place ≡ page = get_or_from_slice_get (of_worker v.flight c.args.worker).pages c.args.place page _ c.in-Some.ensures.some in
    let hand = subst (λ (p : FlightPage). FilePointerIsResident G v c.args.ino p.index c.args.rec.now) is c.requires.hand in
    let of = subst (λ (p : FlightPage). IsPageOfFile G v c.args.ino c.args.rec.now p) is c.requires.page in
    let room = subst (λ (p : FlightPage). HasRoomToInstall G v c.args.ino c.args.rec.now p) is c.requires.room in
    let volume = c.device_stands.ensures.volume in
    let at = c.in-Some.ensures.some in
    let n = c.take_page.new in
    let e = c.take_page.ensures in
    let freed = e.freeing (stored_on G v.device) in
    record {
      core = core_after G v c.args.worker c.args.place c.args.ino c.args.size page c.args.rec.now n.rec n.meta n.nodes n.freeing c.requires.core c.requires.lines c.requires.known at hand of room volume e.taken freed e.left c.device_stands.ensures.pages;
      installs = subst (λ (p : FlightPage). InstallsPage G c.args.ino c.args.size p c.args.rec.now n.rec v (record v { meta = n.meta; nodes = n.nodes; freeing = n.freeing })) (sym is)
          (installs_page G v c.args.worker c.args.place c.args.ino c.args.size page c.args.rec.now n.rec n.meta n.nodes n.freeing c.requires.core c.requires.lines c.requires.known at hand of room volume e.taken freed e.left c.device_stands.ensures.pages);
    }
