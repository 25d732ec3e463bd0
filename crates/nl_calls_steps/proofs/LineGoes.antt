-- A file takes the pages of a line one after the other.
use Rattle.std.proofs.Common.{◌≡◌, ◌≢◌, ◌⊎◌, inl, inr, ℕ, suc, ◌+◌, ◌<◌, ◌≤◌, Bool, true, false, List, [], ◌∷◌, length, fold, take, drop, get_or, Option, Some, IsSome, refl, sym, ap, subst, ◌∙◌, arith}
use Rattle.std.proofs.Math.Seq.{drop-cons}
use Rattle.std.proofs.lemmas.Bool.{both_ways, cases_eq, cond-false, cond-true}
use Rattle.std.proofs.lemmas.List.Sums.{fold_more, sum_by-cons}
use Rattle.std.proofs.lemmas.Option.{get_or_from_slice_get, slice_get-get_or, slice_get_within}
use Rattle.std.specs.FinMap.{put}
use Rattle.std.specs.Ordering.{nat_cmp}
use Rattle.std.specs.Prelude.{if◌then◌else◌, slice_get}
use Rattle.nl_field.specs.PointerItems.{PointerItems}
use Rattle.nl_field.specs.Pointers.{is_none_pointer}
use Rattle.nl_field.specs.declared.inode.InodeRec.{InodeRec}
use Rattle.nl_field.specs.declared.pointer.Pointer.{Pointer}
use Rattle.nl_field.specs.declared.pointer.Tag.{Tag}
use Rattle.nl_field.specs.declared.shape.Shape.{Shape}
use Rattle.nl_flight.specs.Flight.{IsFlight, carried}
use Rattle.nl_flight.specs.declared.page.FlightPage.{FlightPage}
use Rattle.nl_iface.specs.Calls.{StoresPages}
use Rattle.nl_iface.specs.Device.{IsVolumeShape}
use Rattle.nl_iface.specs.declared.counts.Counts.{Ghosts}
use Rattle.nl_inode.specs.Nodes.{Spaces, page_of_node}
use Rattle.nl_indirect.specs.Ranges.{HasRange, IsFileRecord}
use Rattle.nl_meta.specs.Committed.{VirtualMap}
use Rattle.nl_meta.specs.Consistent.{PointerIsThere, PageOfStamp, RightFor}
use Rattle.nl_meta.specs.Nodes.{graph_of, pointer_at}
use Rattle.nl_meta.specs.Pages.{Pages, most, page_of}
use Rattle.nl_meta.specs.PointerLists.{IsFile, shown, tagged_in}
use Rattle.nl_meta.proofs.PageProofs.{none}
use Rattle.nl_meta.proofs.PointerListProofs.{one_pointer_changes}
use Rattle.nl_meta_running.specs.Running.{RunningIsRight, running_on}
use Rattle.nl_meta_running.proofs.Holds.{reads-none}
use Rattle.nl_files.specs.Contents.{content_of}
use Rattle.nl_files.specs.InstallLaws.{FileIsInstalled}
use Rattle.nl_files.specs.Standing.{tag_of}
use Rattle.nl_journal_commit.specs.Holding.{running_holders}
use Rattle.nl_core.specs.Core.{IsCore, running_of}
use Rattle.nl_core.specs.declared.state.Core.{Core}
use Rattle.nl_calls_files.specs.FileRuns.{IsPageAt}
use Rattle.nl_calls_files.specs.FileTrees.{FileHasPages}
use Rattle.nl_calls_files.specs.Fits.{IsFileOf}
use Rattle.nl_calls_files.specs.Landing.{landed}
use Rattle.nl_calls_files.specs.LineNeeds.{free_addresses, new_pointers, new_ranges}
use Rattle.nl_calls_files.specs.LinePages.{AreThere, indexes_of}
use Rattle.nl_calls_files.proofs.Counts.{bit, no_more}
use Rattle.nl_calls_files.proofs.FileRunning.{file_has_pages, held_lead_once, installed_has_pages}
use Rattle.nl_calls_files.proofs.FilesRight.{stays_right}
use Rattle.nl_calls_files.proofs.Fits.{is_file_at, stands}
use Rattle.nl_calls_files.proofs.Holders.{changed_size, stamp_some}
use Rattle.nl_calls_files.proofs.Landing.{pages_land}
use Rattle.nl_calls_files.proofs.LineContents.{page_put}
use Rattle.nl_calls_files.proofs.LineRoom.{Lies, few_reserved, has_free, lies, pool_on, reserved, reserved_falls, room_to_take}
use Rattle.nl_calls_steps.specs.Installing.{HasRoomToInstall, InstallsPage, FilePointerIsResident, IsPageOfFile, page_in, with_landed}
use Rattle.nl_calls_steps.specs.Lines.{HasRoomForLine, IsLineOfFile, IsPageOfLine, worker_pages}
use Rattle.nl_calls_steps.specs.Steps.{Steps}
use Rattle.nl_calls_steps.proofs.LineEnds.{other_lines}
use Rattle.nl_calls_steps.proofs.Stepping.{steps_then}

-- the core with other metadata, and what awaits its free
abbrev pub now : {D : Type 0} → Core D → Pages → Spaces → PointerItems → Core D
now v m s f = record v { meta = m; nodes = s; freeing = f }

-- the page at an index, among those of a content
abbrev pub with_page : (ℕ → List ℕ) → List (ℕ × List ℕ) → FlightPage → List (ℕ × List ℕ)
with_page bytes_of entries page = put nat_cmp page.index (bytes_of page.at.stamp) entries

-- The file has the first pages of the line and the size, the others are in flight, and there is room for them.
pub record LineAt {D : Type 0} (g : Ghosts D) (v : Core D) (worker n size first : ℕ) (was : InodeRec) (m : Pages) (s : Spaces) (f : PointerItems) (is : InodeRec) (k : ℕ) : Type 0 where
  pub within : k ≤ length (worker_pages v worker)
  pub core : IsCore g (with_landed (now v m s f) worker k)
  pub steps : Steps g v (now v m s f)
  pub file : IsFileOf g v.device m n is
  pub there : IsSome (page_of m (page_of_node n))
  pub ranges : (i : ℕ) → HasRange (page_of v.meta) was i → HasRange (page_of m) is i
  pub generation : is.generation ≡ was.generation
  pub shorter : is.size ≤ size
  pub sized : 0 < k → is.size ≡ size
  pub others : (j : ℕ) → j ≢ n → graph_of (g.shape v.device) (running_on g v.device m) j ≡ graph_of (g.shape v.device) (running_of g v) j
  pub pages : (page_of_stamp : ℕ → Option PageOfStamp) → RightFor (g.shape v.device) (running_of g v) page_of_stamp → AreThere page_of_stamp size (worker_pages v worker) → FileHasPages (running_on g v.device m) page_of_stamp n is
  pub content : (bytes_of : ℕ → List ℕ) → (content_of bytes_of (running_on g v.device m) is).pages
      ≡ fold (with_page bytes_of) (content_of bytes_of (running_of g v) was).pages (take k (worker_pages v worker))
  pub dirty : reserved m is n first < most
  pub pool : new_ranges is (indexes_of (drop k (worker_pages v worker))) ≤ free_addresses s
  pub few : length (running_holders g v.device m) + new_pointers (running_on g v.device m) is (indexes_of (drop k (worker_pages v worker))) ≤ (g.shape v.device).cap

-- ---- none is taken yet

module _ {D : Type 0} (g : Ghosts D) (v : Core D) (worker n size : ℕ) (was : InodeRec) (core : IsCore g v) (volume : IsVolumeShape (g.shape v.device)) (stores : g.tells → StoresPages g v.device) (known : worker < 8)
    (line : IsLineOfFile g v worker n size was) (room : HasRoomForLine g v was (worker_pages v worker)) (longer : was.size ≤ size) where
  pub line_begins : LineAt g v worker n size line.first was v.meta v.nodes v.freeing was 0
  line_begins = record {
    within = omega arith;
    core = other_lines g v (landed v.flight worker 0) core volume stores ((pages_land v.flight worker core.flight known).lines 0) (pages_land v.flight worker core.flight known).first;
    steps = record { reads = reads-none g v.device; read_faults = omega arith; pages = none v.meta; room = omega arith; others = refl };
    file = line.file;
    there = line.there;
    ranges = λ i range. range;
    generation = refl;
    shorter = longer;
    sized = λ some. absurd (let off : ⊥ = omega (arith, some) in off);
    others = λ j far. refl;
    pages = λ page_of_stamp right there. file_has_pages (g.shape v.device) page_of_stamp n was (running_of g v) right
        (is_file_at (g.shape v.device) (running_of g v) n was core.journaled.runs.addresses line.file.is_node line.file.is_file);
    content = λ bytes_of. refl;
    dirty = few_reserved v.meta was n line.first room.dirty;
    pool = room.pool;
    few = room.few;
  }

-- ---- how many pointers there are

abbrev shown_one : Tag → Pointer → List (Tag × Pointer)
shown_one tag p = (tag, p) ∷ []

bit_shown : (tag : Tag) (p : Pointer) → bit (is_none_pointer p) + length (shown tag p) ≡ 1
bit_shown tag p = by (is_none_pointer p)
  where
    by : (b : Bool) → bit b + length (if b then [] else shown_one tag p) ≡ 1
    by true = refl
    by false = refl

module _ (shape : Shape) (n index : ℕ) (to : Pointer) (was is : InodeRec) (before after : VirtualMap) (s t : Spaces) (c : FileIsInstalled shape n index to was is before after s t) (some : is_none_pointer to ≡ false) (rest : List ℕ) where
  still_none : (i : ℕ) → is_none_pointer (pointer_at after is i) ≡ true → is_none_pointer (pointer_at before was i) ≡ true
  still_none i e = by (cases_eq i index)
    where
      by : (i ≡ index) ⊎ (i ≢ index) → is_none_pointer (pointer_at before was i) ≡ true
      by (inl here) = absurd (both_ways (is_none_pointer to) some (sym (ap is_none_pointer (ap (pointer_at after is) here ∙ c.now)) ∙ e))
      by (inr far) = sym (ap is_none_pointer (c.pointer.others i far)) ∙ e

  pub as_many_fit : length (tagged_in shape after) + new_pointers after is rest ≤ length (tagged_in shape before) + new_pointers before was (index ∷ rest)
  as_many_fit =
      let tag = tag_of n was index in
      let changed = one_pointer_changes shape before after n index was is c.pointer in
      let sizes = changed_size tag (pointer_at before was index) (pointer_at after is index) (tagged_in shape before) (tagged_in shape after) changed in
      let had = bit_shown tag (pointer_at before was index) in
      let has = bit_shown tag (pointer_at after is index) in
      let one : bit (is_none_pointer (pointer_at after is index)) ≡ 0 = cond-false (is_none_pointer (pointer_at after is index)) 1 0 (ap is_none_pointer c.now ∙ some) in
      let all = sum_by-cons (λ i. bit (is_none_pointer (pointer_at before was i))) index rest in
      let fewer = no_more (λ i. is_none_pointer (pointer_at after is i)) (λ i. is_none_pointer (pointer_at before was i)) still_none rest in
      omega (arith, sizes, had, has, one, all, fewer)

-- ---- one more is taken

module _ {D : Type 0} (g : Ghosts D) (v : Core D) (worker n size first : ℕ) (was : InodeRec) (m : Pages) (s : Spaces) (f : PointerItems) (is : InodeRec) (k : ℕ) (page : FlightPage)
    (at : LineAt g v worker n size first was m s f is k) (here : slice_get (worker_pages v worker) k ≡ Some page) (of : IsPageOfLine g v n size first was page) where
  abbrev rest : List ℕ
  rest = indexes_of (drop (k + 1) (worker_pages v worker))

  below : k < length (worker_pages v worker)
  below = slice_get_within (worker_pages v worker) k page here

  is_next : get_or (worker_pages v worker) k page ≡ page
  is_next = get_or_from_slice_get (worker_pages v worker) k page page here

  with_rest : indexes_of (drop k (worker_pages v worker)) ≡ page.index ∷ rest
  with_rest =
      let more : suc k ≡ k + 1 = omega arith in
      ap indexes_of (drop-cons (worker_pages v worker) k page below ∙ ap (λ (p : FlightPage). p ∷ drop (suc k) (worker_pages v worker)) is_next ∙ ap (λ (j : ℕ). page ∷ drop j (worker_pages v worker)) more)

  within_ranges : new_ranges is (page.index ∷ rest) ≤ free_addresses s
  within_ranges = subst (λ (xs : List ℕ). new_ranges is xs ≤ free_addresses s) with_rest at.pool

  within_cap : length (running_holders g v.device m) + new_pointers (running_on g v.device m) is (page.index ∷ rest) ≤ (g.shape v.device).cap
  within_cap = subst (λ (xs : List ℕ). length (running_holders g v.device m) + new_pointers (running_on g v.device m) is xs ≤ (g.shape v.device).cap) with_rest at.few

  lies_near : Lies first page.index
  lies_near = lies first page.index of.from_first of.near

  -- ---- it can be taken

  pub hand : FilePointerIsResident g (now v m s f) n page.index is
  hand = record { file = at.file; there = at.there; range = at.ranges page.index of.range }

  tag_is : page.tag ≡ tag_of n is page.index
  tag_is = of.of_file.tag ∙ ap (λ (c : ℕ). record { ino = n; generation = c; index = page.index }) (sym at.generation)

  pub page_of_file : IsPageOfFile g (now v m s f) n is page
  page_of_file = record { tag = tag_is; within = of.of_file.within; spelled = of.of_file.spelled; physical = of.of_file.physical }

  pub room_for : HasRoomToInstall g (now v m s f) n is page
  room_for = record {
    dirty = room_to_take m is n first page.index at.dirty lies_near;
    pool = has_free is page.index page.at rest s of.of_file.within within_ranges;
    few = λ e.
        let all = sum_by-cons (λ i. bit (is_none_pointer (pointer_at (running_on g v.device m) is i))) page.index rest in
        let one : bit (is_none_pointer (pointer_at (running_on g v.device m) is page.index)) ≡ 1 = cond-true (is_none_pointer (pointer_at (running_on g v.device m) is page.index)) 1 0 e in
        let most = within_cap in
        omega (arith, all, one, most);
  }

  -- ---- it was taken

  module _ (m' : Pages) (s' : Spaces) (f' : PointerItems) (is' : InodeRec) (took : InstallsPage g n size page is is' (now v m s f) (now v m' s' f')) (core : IsCore g (with_landed (now v m' s' f') worker (k + 1))) where
    abbrev before : VirtualMap
    before = running_on g v.device m

    abbrev after : VirtualMap
    after = running_on g v.device m'

    runs : RunningIsRight g v.device m
    runs = at.core.journaled.runs

    file_before : IsFile (g.shape v.device) before n is
    file_before = is_file_at (g.shape v.device) before n is runs.addresses at.file.is_node at.file.is_file

    record_before : IsFileRecord is
    record_before = (stands g v.device m n is runs at.file).file

    record_after : IsFileRecord is'
    record_after = (stands g v.device m' n is' core.journaled.runs took.file).file

    generation_after : is'.generation ≡ was.generation
    generation_after = took.installed.pointer.generation ∙ at.generation

    module _ (page_of_stamp : ℕ → Option PageOfStamp) (right : RightFor (g.shape v.device) (running_of g v) page_of_stamp) (there : AreThere page_of_stamp size (worker_pages v worker)) where
      right_before : RightFor (g.shape v.device) before page_of_stamp
      right_before = stays_right (g.shape v.device) (running_of g v) before page_of_stamp (g.names v.device) n is (record {
        right_before = right;
        nodes = runs.nodes;
        addresses = runs.addresses;
        entries = runs.entries;
        file = file_before;
        others = at.others;
        lead = held_lead_once g v.device v.journal m (carried (landed v.flight worker k)) f.items _ at.core.held;
        pages = at.pages page_of_stamp right there;
      })

      is_page : IsPageAt page_of_stamp n is' page.index page.at
      is_page =
          subst (λ (z : ℕ). PointerIsThere page_of_stamp (record { size = z; tag = tag_of n is' page.index; pointer = page.at })) (sym took.sized)
          (subst (λ (t : Tag). PointerIsThere page_of_stamp (record { size = size; tag = t; pointer = page.at })) (of.of_file.tag ∙ ap (λ (c : ℕ). record { ino = n; generation = c; index = page.index }) (sym generation_after)) (there k page here))

      pages_after : FileHasPages after page_of_stamp n is'
      pages_after =
          let low = of.below in
          let sized = took.sized in
          let short = at.shorter in
          installed_has_pages (g.shape v.device) page_of_stamp n page.index page.at is is' before after s s' right_before file_before took.installed (omega (arith, sized, short)) (omega (arith, low, sized)) is_page

    content_after : (bytes_of : ℕ → List ℕ) → (content_of bytes_of after is').pages ≡ fold (with_page bytes_of) (content_of bytes_of (running_of g v) was).pages (take (k + 1) (worker_pages v worker))
    content_after bytes_of =
        page_put bytes_of (g.shape v.device) n page.index page.at is is' before after s s' record_before record_after of.of_file.spelled took.installed
        ∙ ap (λ (entries : List (ℕ × List ℕ)). with_page bytes_of entries page) (at.content bytes_of)
        ∙ sym (fold_more (with_page bytes_of) (content_of bytes_of (running_of g v) was).pages (worker_pages v worker) k page below
        ∙ ap (with_page bytes_of (fold (with_page bytes_of) (content_of bytes_of (running_of g v) was).pages (take k (worker_pages v worker)))) is_next)

    from_pool : 67 ≤ s.first
    from_pool = let first_ = at.core.free.pool.first in omega (arith, first_)

    pub line_goes : LineAt g v worker n size first was m' s' f' is' (k + 1)
    line_goes = record {
      within = let low = below in omega (arith, low);
      core = core;
      steps = steps_then g v (now v m s f) (now v m' s' f') at.steps took.steps;
      file = took.file;
      there = took.there;
      ranges = λ i range. took.ranges i (at.ranges i range);
      generation = generation_after;
      shorter = let same = took.sized in omega (arith, same);
      sized = λ some. took.sized;
      others = λ j far. took.installed.others j far ∙ at.others j far;
      pages = pages_after;
      content = content_after;
      dirty = let less = reserved_falls n page.index page.at size is is' m m' s s' took.taken from_pool first lies_near in let most = at.dirty in omega (arith, less, most);
      pool = pool_on n page.index page.at size is is' m m' s s' took.taken from_pool rest of.of_file.within within_ranges;
      few =
          let less = as_many_fit (g.shape v.device) n page.index page.at is is' before after s s' took.installed (stamp_some page.at of.of_file.spelled) rest in
          let most = within_cap in
          omega (arith, less, most);
    }

-- ---- as a core that has gone so far

pub record LineGoes {D : Type 0} (g : Ghosts D) (v : Core D) (worker n size : ℕ) (was : InodeRec) (w : Core D) (is : InodeRec) (k : ℕ) : Type 0 where
  pub others : w ≡ now v w.meta w.nodes w.freeing
  pub line : IsLineOfFile g v worker n size was
  pub at : LineAt g v worker n size line.first was w.meta w.nodes w.freeing is k

module _ {D : Type 0} (g : Ghosts D) (v : Core D) (worker n size : ℕ) (was : InodeRec) (w : Core D) (is : InodeRec) (k : ℕ) (goes : LineGoes g v worker n size was w is k) where
  back : now v w.meta w.nodes w.freeing ≡ w
  back = sym goes.others

  pub same_line : worker_pages w worker ≡ worker_pages v worker
  same_line = ap (λ (x : Core D). worker_pages x worker) goes.others

  pub core_at : IsCore g (with_landed w worker k)
  core_at = subst (λ (x : Core D). IsCore g (with_landed x worker k)) back goes.at.core

  pub lines_at : IsFlight v.flight → IsFlight w.flight
  lines_at lines = subst (λ (x : Core D). IsFlight x.flight) back lines

  module _ (below : k < length (worker_pages w worker)) where
    abbrev page : FlightPage
    page = page_in v worker k

    here : slice_get (worker_pages v worker) k ≡ Some page
    here = slice_get-get_or (worker_pages v worker) k _ (let same = ap length same_line in omega (arith, same, below))

    of : IsPageOfLine g v n size goes.line.first was page
    of = goes.line.each k page here

    pub hand_at : FilePointerIsResident g w n (page_in w worker k).index is
    hand_at = subst (λ (x : Core D). FilePointerIsResident g x n (page_in x worker k).index is) back (hand g v worker n size goes.line.first was w.meta w.nodes w.freeing is k page goes.at here of)

    pub page_at : IsPageOfFile g w n is (page_in w worker k)
    page_at = subst (λ (x : Core D). IsPageOfFile g x n is (page_in x worker k)) back (page_of_file g v worker n size goes.line.first was w.meta w.nodes w.freeing is k page goes.at here of)

    pub room_at : HasRoomToInstall g w n is (page_in w worker k)
    room_at = subst (λ (x : Core D). HasRoomToInstall g x n is (page_in x worker k)) back (room_for g v worker n size goes.line.first was w.meta w.nodes w.freeing is k page goes.at here of)

    pub goes_on : (w' : Core D) (is' : InodeRec) → InstallsPage g n size (page_in w worker k) is is' w w' → IsCore g (with_landed w' worker (k + 1)) → LineGoes g v worker n size was w' is' (k + 1)
    goes_on w' is' took core =
        let others : w' ≡ now v w'.meta w'.nodes w'.freeing = took.others ∙ ap (λ (x : Core D). now x w'.meta w'.nodes w'.freeing) goes.others in
        let once : InstallsPage g n size (page_in w worker k) is is' w (now v w'.meta w'.nodes w'.freeing) = subst (λ (x : Core D). InstallsPage g n size (page_in w worker k) is is' w x) others took in
        let twice : InstallsPage g n size page is is' (now v w.meta w.nodes w.freeing) (now v w'.meta w'.nodes w'.freeing) =
        subst (λ (x : Core D). InstallsPage g n size (page_in x worker k) is is' x (now v w'.meta w'.nodes w'.freeing)) goes.others once in
        record {
          others = others;
          line = goes.line;
          at = line_goes g v worker n size goes.line.first was w.meta w.nodes w.freeing is k page goes.at here of w'.meta w'.nodes w'.freeing is' twice
              (subst (λ (x : Core D). IsCore g (with_landed x worker (k + 1))) others core);
        }
