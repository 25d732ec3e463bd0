-- A core whose file took a page that was in flight is a core.
use Rattle.std.proofs.Common.{◌≡◌, ◌⊎◌, inl, inr, ℕ, ◌+◌, ◌*◌, ◌<◌, ◌≤◌, Bool, true, false, not, List, [], ◌∷◌, ◌++◌, length, Option, Some, None, IsSome, is_some, refl, sym, ap, subst, ◌∙◌, arith}
use Rattle.std.proofs.Math.Nat.{mul-le-mul_right}
use Rattle.std.proofs.lemmas.Bool.{cases_lt}
use Rattle.std.proofs.lemmas.List.{length-append}
use Rattle.std.proofs.lemmas.List.FromFn.{length-range_with_len}
use Rattle.std.proofs.lemmas.List.Sums.{count_by-le-length}
use Rattle.std.specs.List.{range_with_len}
use Rattle.std.specs.Prelude.{◌^◌, if◌then◌else◌, slice_get, slice_index}
use Rattle.nl_field.specs.Medium.{first_physical}
use Rattle.nl_field.specs.PointerItems.{PointerItems}
use Rattle.nl_field.specs.Pointers.{is_none_pointer}
use Rattle.nl_field.specs.declared.inode.InodeRec.{InodeRec}
use Rattle.nl_field.specs.declared.pointer.Pointer.{Pointer}
use Rattle.nl_field.specs.declared.pointer.Tag.{Tag}
use Rattle.nl_flight.specs.Flight.{IsFlight, carried, of_worker}
use Rattle.nl_flight.specs.declared.page.FlightPage.{FlightPage}
use Rattle.nl_spec_holders.specs.Lists.{ListLoses}
use Rattle.nl_iface.specs.Calls.{StoresPages}
use Rattle.nl_iface.specs.Device.{IsVolumeShape}
use Rattle.nl_iface.specs.Holders.{tagged}
use Rattle.nl_iface.specs.Names.{IsNames}
use Rattle.nl_iface.specs.declared.counts.Counts.{Ghosts}
use Rattle.nl_inode.specs.Nodes.{PutsNode, Spaces, page_of_node}
use Rattle.nl_inode.proofs.PageProofs.{put_changes}
use Rattle.nl_indirect.specs.Ranges.{HasPointers, HasRange, IsFileRecord, address_of, range_of}
use Rattle.nl_indirect.proofs.Pointing.{address-node, address-range}
use Rattle.nl_meta.specs.Nodes.{pointer_at, slots_of}
use Rattle.nl_meta.specs.Pages.{Pages, page_of}
use Rattle.nl_meta_running.specs.Running.{running_on, stored_on}
use Rattle.nl_meta_running.proofs.Holds.{bounds-of, reads-none}
use Rattle.nl_files.specs.InstallLaws.{FileIsInstalled}
use Rattle.nl_files.specs.InstalledRuns.{InstallsOn, RunsInstalled}
use Rattle.nl_files.specs.Installing.{FreeAreNewToFile, TakesLeastAddress}
use Rattle.nl_files.specs.Spans.{as_list}
use Rattle.nl_files.specs.Standing.{tag_of}
use Rattle.nl_files.proofs.InstalledOn.{installed_runs}
use Rattle.nl_files.proofs.Keeping.{resident-pointers}
use Rattle.nl_files.proofs.OneFile.{is-used}
use Rattle.nl_files.proofs.StandingOn.{goes-stored, stands-after}
use Rattle.nl_journal_commit.specs.Holding.{running_holders}
use Rattle.nl_spec_commits.specs.Held.{IsHeldVolume}
use Rattle.nl_core.specs.Core.{IsCore, names_of, running_of}
use Rattle.nl_core.specs.declared.state.Core.{Core}
use Rattle.nl_calls_files.specs.Fits.{IsFileOf}
use Rattle.nl_calls_files.specs.Holders.{KeepsVolumeHeld}
use Rattle.nl_calls_files.specs.Landing.{landed}
use Rattle.nl_calls_files.specs.Taking.{TakesPage}
use Rattle.nl_calls_files.proofs.Fits.{free_file_pages, stands}
use Rattle.nl_calls_files.proofs.Holders.{installing_holds}
use Rattle.nl_calls_files.proofs.Landing.{pages_land}
use Rattle.nl_calls_steps.specs.Installing.{HasRoomToInstall, InstallsPage, FilePointerIsResident, IsPageOfFile, with_landed}
use Rattle.nl_calls_steps.specs.Steps.{IsHeldAfter, Steps}
use Rattle.nl_calls_steps.proofs.Stepping.{stepped_core}

-- what a pointer in the place of another leaves of the free addresses
same_counts : (fresh : Option ℕ) (s t : Spaces) → TakesLeastAddress fresh s t → (length t.nodes ≡ length s.nodes) × (length t.pool ≡ length s.pool)
same_counts None s t same = (ap (λ (x : Spaces). length x.nodes) same, ap (λ (x : Spaces). length x.pool) same)
same_counts (Some a) s t taken = (ap length taken.1.nodes, taken.1.pool.count)

-- ---- how many live pages there are

module _ {D : Type 0} (g : Ghosts D) (v : Core D) (core : IsCore g v) (volume : IsVolumeShape (g.shape v.device)) (names : IsNames (g.shape v.device) (g.next_stamp v.device) (names_of g v)) where
  live_most : (names_of g v).space.live ≤ (g.shape v.device).pblocks * (g.shape v.device).pages
  live_most =
      let counted = names.counted in
      let count = count_by-le-length (λ p. is_some ((names_of g v).live p)) (range_with_len (first_physical (g.shape v.device)) ((g.shape v.device).pblocks * (g.shape v.device).pages)) in
      let len = length-range_with_len (first_physical (g.shape v.device)) ((g.shape v.device).pblocks * (g.shape v.device).pages) in
      omega (arith, counted, count, len)

  pages_most : (g.shape v.device).pblocks * (g.shape v.device).pages ≤ 262144
  pages_most =
      let b = bounds-of (g.shape v.device) volume in
      let sum = b.segments in
      let all = b.all_pages in
      let part : (g.shape v.device).pblocks * (g.shape v.device).pages ≤ (g.shape v.device).blocks * (g.shape v.device).pages = mul-le-mul_right (g.shape v.device).pages (omega (arith, sum)) in
      omega (arith, all, part)

  -- those in flight have room to await their free
  pub flight_has_room : length (running_holders g v.device v.meta) + length (carried v.flight) ≤ v.freeing.room
  flight_has_room =
      let counted = core.space.counted in
      let room = core.space.room in
      let most = live_most in
      omega (arith, counted, room, most)

  pub few_await : length (running_holders g v.device v.meta) + length (carried v.flight) + length v.freeing.items ≤ 262144
  few_await =
      let counted = core.space.counted in
      let most = live_most in
      let all = pages_most in
      omega (arith, counted, most, all)

-- ---- a page in flight is installed

module _ {D : Type 0} (g : Ghosts D) (v : Core D) (worker k n size : ℕ) (page : FlightPage) (was is : InodeRec) (m : Pages) (s : Spaces) (f : PointerItems) (core : IsCore g (with_landed v worker k)) (lines : IsFlight v.flight)
    (known : worker < 8) (at : slice_get (of_worker v.flight worker).pages k ≡ Some page) (hand : FilePointerIsResident g v n page.index was) (of : IsPageOfFile g v n was page) (room : HasRoomToInstall g v n was page) (volume : IsVolumeShape (g.shape v.device)) where
  -- what is in flight before, and after
  abbrev flight : List (Tag × Pointer)
  flight = carried (landed v.flight worker k)

  abbrev later : List (Tag × Pointer)
  later = carried (landed v.flight worker (k + 1))

  pub lost : ListLoses tagged (tag_of n was page.index, page.at) flight later
  lost = subst (λ (t : Tag). ListLoses tagged (t, page.at) flight later) of.tag ((pages_land v.flight worker lines known).next k page at)

  -- ---- it can be

  pub file_record : IsFileRecord was
  file_record = (stands g v.device v.meta n was core.journaled.runs hand.file).file

  pub new_pages : FreeAreNewToFile v.nodes v.meta was
  new_pages = free_file_pages g v.device v.meta v.nodes n was volume core.journaled.runs hand.file core.free.pool core.free.count_pool (let most = room.dirty in omega (arith, most))

  module _ (names : IsNames (g.shape v.device) (g.next_stamp v.device) (names_of g v)) where
    pub has_place : 0 < v.freeing.room
    has_place = let more = flight_has_room g (with_landed v worker k) core volume names in let one = lost.size in omega (arith, more, one)

    pub few_items : length v.freeing.items + 1 < 2 ^ 32
    few_items = let few = few_await g (with_landed v worker k) core volume names in let one = lost.size in omega (arith, few, one)

  -- ---- it was

  module _ (taken : TakesPage n page.index page.at size was is v.meta m v.nodes s) (freed : f.items ≡ v.freeing.items ++ as_list (pointer_at (running_of g v) was page.index))
      (left : length v.freeing.items + v.freeing.room ≤ length f.items + f.room) (stores : g.tells → StoresPages g v.device) where
    abbrev w : Core D
    w = record v { meta = m; nodes = s; freeing = f }

    abbrev put : InodeRec
    put = record taken.installed { size = size }

    abbrev before : Pointer
    before = pointer_at (running_of g v) was page.index

    on : InstallsOn g v.device n page.index page.at size was taken.installed v.meta taken.between m v.nodes s
    on = record {
      is_node = hand.file.is_node;
      is_file = hand.file.is_file;
      within = of.within;
      spelled = of.spelled;
      physical = of.physical;
      there = hand.there;
      range = hand.range;
      count = core.free.count_pool;
      free = core.free.pool;
      installs = taken.installs;
      puts = subst (λ (r : InodeRec). PutsNode n r taken.between m) taken.sized taken.puts;
    }

    ran : RunsInstalled g v.device n page.index page.at was put v.meta m v.nodes s
    ran = installed_runs g v.device n page.index page.at size was taken.installed v.meta taken.between m v.nodes s volume core.journaled.runs on

    installed : FileIsInstalled (g.shape v.device) n page.index page.at was is (running_of g v) (running_on g v.device m) v.nodes s
    installed = subst (λ (r : InodeRec). FileIsInstalled (g.shape v.device) n page.index page.at was r (running_of g v) (running_on g v.device m) v.nodes s) (sym taken.sized) ran.installed

    holds : KeepsVolumeHeld g v.device v.journal v.meta m flight later v.freeing.items v.leaving (as_list before)
    holds = installing_holds g v.device v.journal flight later v.freeing.items n page.index size page.at was taken.installed v.meta taken.between m v.nodes s _ volume core.journaled core.held on lost

    step : Steps g v w
    step = record { reads = reads-none g v.device; read_faults = omega arith; pages = ran.pages; room = left; others = refl }

    step_landed : Steps g (with_landed v worker k) (with_landed w worker (k + 1))
    step_landed = record { reads = reads-none g v.device; read_faults = omega arith; pages = ran.pages; room = left; others = refl }

    counts : (length s.nodes ≡ length v.nodes.nodes) × (length s.pool ≡ length v.nodes.pool)
    counts = same_counts taken.installs.fresh v.nodes s taken.installs.taken

    items : length f.items ≡ length v.freeing.items + length (as_list before)
    items = ap length freed ∙ length-append v.freeing.items (as_list before)

    few : length (running_holders g v.device m) ≤ (g.shape v.device).cap
    few = by (is_none_pointer before) refl
      where
        by : (b : Bool) → is_none_pointer before ≡ b → length (running_holders g v.device m) ≤ (g.shape v.device).cap
        by true none =
            let gone : length (as_list before) ≡ 0 = ap (λ b. length (if not b then before ∷ [] else [])) none in
            let all = holds.as_many in
            let sum = length-append v.freeing.items (as_list before) in
            let one = lost.size in
            let less = room.few none in
            omega (arith, all, sum, one, less, gone)
        by false some =
            let gone : length (as_list before) ≡ 1 = ap (λ b. length (if not b then before ∷ [] else [])) some in
            let all = holds.as_many in
            let sum = length-append v.freeing.items (as_list before) in
            let one = lost.size in
            let most = core.space.few in
            omega (arith, all, sum, one, most, gone)

    held : IsHeldAfter g (with_landed v worker k) (with_landed w worker (k + 1))
    held = record {
      runs = ran.runs;
      free = record {
        count_nodes = counts.0 ∙ core.free.count_nodes;
        count_pool = counts.1 ∙ core.free.count_pool;
        nodes = installed.nodes core.free.nodes;
        pool = installed.pool;
      };
      held = subst (λ (xs : List Pointer). IsHeldVolume g v.device v.journal m later xs v.leaving) (sym freed) holds.held;
      as_many = let all = holds.as_many in let sum = length-append v.freeing.items (as_list before) in let now = items in omega (arith, all, sum, now);
      few = few;
      flight = (pages_land v.flight worker lines known).lines (k + 1);
      fewer = λ x has. lost.only x has;
    }

    pub core_after : IsCore g (with_landed w worker (k + 1))
    core_after = stepped_core g (with_landed v worker k) (with_landed w worker (k + 1)) core volume step_landed held core.formed stores

    -- ---- the file afterwards

    file_after : IsFileOf g v.device m n is
    file_after = record {
      is_node = record { below = hand.file.is_node.below; spelled = installed.changes.node_after; used = is-used is.kind installed.changes.file_after };
      is_file = installed.changes.file_after;
    }

    range_after : (i : ℕ) → HasRange (page_of v.meta) was i → HasRange (page_of m) is i
    range_after i range far = by (cases_lt i 8)
      where
        by : (i < 8) ⊎ (8 ≤ i) → HasPointers (page_of m) (address_of is i)
        by (inl low) = absurd (far (address-node is i low))
        by (inr high) =
            let e : address_of is i ≡ slice_index (slots_of is) (range_of i) = address-range is i high in
            let same : address_of taken.installed i ≡ address_of is i = ap (λ (r : InodeRec). address_of r i) (sym taken.sized) in
            let half : HasPointers (page_of taken.between) (address_of is i) =
            subst (λ a. HasPointers (page_of taken.between) a) same
            ((stands-after g v.device was taken.installed v.meta taken.between (goes-stored page.index page.at taken.installs.fresh was taken.installed v.meta taken.between taken.installs.stores)).ranges i range (λ z. far (sym same ∙ z))) in
            let there : IsSome (page_of m (address_of is i)) = (put_changes taken.between m n is taken.puts).stays (address_of is i) (ap is_some half.there) in
            let spelled : HasPointers (running_on g v.device m) (address_of is i) =
            subst (λ a. HasPointers (running_on g v.device m) a) (sym e) ((stands g v.device m n is ran.runs file_after).pages (range_of i) (λ z. far (e ∙ z))) in
            resident-pointers (stored_on g v.device) m (address_of is i) spelled there

    pub installs_page : InstallsPage g n size page was is v w
    installs_page = record {
      others = refl;
      steps = step;
      sized = ap (λ (r : InodeRec). r.size) taken.sized;
      file = file_after;
      there = ran.pages.stays (page_of_node n) hand.there;
      ranges = range_after;
      taken = taken;
      installed = installed;
    }
