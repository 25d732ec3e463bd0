-- Which pages are in flight after the parts of a staging.
use Rattle.std.proofs.Common.{◌≡◌, ◌≢◌, ◌⊎◌, inl, inr, ⊎_elim, ℕ, ◌<◌, ◌≤◌, cond, List, [], ◌∷◌, ◌++◌, length, map, refl, sym, ap, subst, ◌∙◌, arith, eq-eqb, ne_eqb}
use Rattle.std.proofs.lemmas.Bool.{cases_eq, cases_lt}
use Rattle.nl_field.specs.declared.pointer.Tag.{Tag}
use Rattle.nl_tree.specs.Causes.{fault_sum}
use Rattle.nl_tree.specs.declared.call.Call.{Call}
use Rattle.nl_tree.specs.declared.call.Call.TheVariants.{Mkdir, Rmdir, Create, Unlink, Rename, Write, Fill, Read, Truncate, Stat, List as ListCall, Sync, Clean}
use Rattle.nl_tree.specs.declared.turn.Stage.{Stage}
use Rattle.nl_tree.specs.declared.turn.Stage.TheVariants as stage
use Rattle.nl_core_callbacks.specs.Handled.{nameless, nameless_line}
use Rattle.nl_flight.specs.Flight.{InFlight, begun, of_worker}
use Rattle.nl_flight.specs.declared.page.FlightPage.{FlightPage}
use Rattle.nl_iface.specs.declared.counts.Counts.{Ghosts}
use Rattle.nl_core.specs.Calls.{KeepsLines}
use Rattle.nl_core.specs.Core.{IsCore}
use Rattle.nl_core.specs.Dropping.{DropsLine}
use Rattle.nl_core.specs.Goes.{PreservesVolume}
use Rattle.nl_core.specs.Lines.{notes_fault}
use Rattle.nl_core.specs.Programming.{HasLineOrNone, PutsInFlight, behind, line_of, with_page}
use Rattle.nl_core.specs.declared.state.Core.{Core}
use Rattle.nl_core.proofs.Renamed.{maps_apart}
use Rattle.nl_calls_steps.specs.Steps.{ReadsOn}
use Rattle.nl_calls_steps.specs.Calls.{counts_of}
use Rattle.nl_volume_stage.specs.StagedPages.{AddsLinePage, EndsTried, KeepsLinePages, LeavesInFlight, StagesPage, StagesPageOf, StaysWritable, flight_for, flight_of}
use Rattle.nl_volume_stage.specs.Turns.{FaultsStay}
use Rattle.nl_volume_stage.proofs.Alike.{line_alike}
use Rattle.nl_volume_stage.proofs.Flights.{same_fault, same_line}
use Rattle.nl_volume_stage.proofs.Lines.{line_cases, other_with, own_with}

-- What the staging of a page leaves in flight for the worker: this line or none, and no page of another line.
pub record LeavesPage {D : Type 0} (g : Ghosts D) (worker line : ℕ) (P : Tag → Type 0) (old new : Core D) (answer : Stage) : Type 0 where
  pub line_is : HasLineOrNone new.flight worker line
  pub pages : StagesPage g worker line P old new answer

-- so it is of each call but a sync
module _ {D : Type 0} (g : Ghosts D) (worker line : ℕ) (P : Tag → Type 0) (u v : Core D) (answer : Stage) where
  pages_of_call : (call : Call) → call ≢ Sync → StagesPage g worker line P u v answer → StagesPageOf g call worker line P u v answer
  pages_of_call (Mkdir path) off x = x
  pages_of_call (Rmdir path) off x = x
  pages_of_call (Create path) off x = x
  pages_of_call (Unlink path) off x = x
  pages_of_call (Rename from to) off x = x
  pages_of_call (Write path from bytes) off x = x
  pages_of_call (Fill path from len byte) off x = x
  pages_of_call (Read path from len) off x = x
  pages_of_call (Truncate path size) off x = x
  pages_of_call (Stat path) off x = x
  pages_of_call (ListCall path) off x = x
  pages_of_call Sync off x = absurd (off refl)
  pages_of_call Clean off x = x

  pages_of_page : (call : Call) → call ≢ Sync → StagesPageOf g call worker line P u v answer → StagesPage g worker line P u v answer
  pages_of_page (Mkdir path) off x = x
  pages_of_page (Rmdir path) off x = x
  pages_of_page (Create path) off x = x
  pages_of_page (Unlink path) off x = x
  pages_of_page (Rename from to) off x = x
  pages_of_page (Write path from bytes) off x = x
  pages_of_page (Fill path from len byte) off x = x
  pages_of_page (Read path from len) off x = x
  pages_of_page (Truncate path size) off x = x
  pages_of_page (Stat path) off x = x
  pages_of_page (ListCall path) off x = x
  pages_of_page Sync off x = absurd (off refl)
  pages_of_page Clean off x = x

  -- a staging that was stopped keeps the pages of the line
  pub pages_stopped : (call : Call) → KeepsLinePages worker line u.flight v.flight → StagesPageOf g call worker line P u v stage.Stopped
  pages_stopped (Mkdir path) x = x
  pages_stopped (Rmdir path) x = x
  pages_stopped (Create path) x = x
  pages_stopped (Unlink path) x = x
  pages_stopped (Rename from to) x = x
  pages_stopped (Write path from bytes) x = x
  pages_stopped (Fill path from len byte) x = x
  pages_stopped (Read path from len) x = x
  pages_stopped (Truncate path size) x = x
  pages_stopped (Stat path) x = x
  pages_stopped (ListCall path) x = x
  pages_stopped Sync x = x
  pages_stopped Clean x = x

  pub leaves_call : (call : Call) → call ≢ Sync → LeavesPage g worker line P u v answer → LeavesInFlight g worker line call P u v answer
  leaves_call call off x = record { line_is = x.line_is; pages = pages_of_call call off x.pages }

  pub leaves_page : (call : Call) → call ≢ Sync → LeavesInFlight g worker line call P u v answer → LeavesPage g worker line P u v answer
  leaves_page call off x = record { line_is = x.line_is; pages = pages_of_page call off x.pages }

-- ---- a page by its tag and its write sequence number

abbrev seen_as : FlightPage → Tag × ℕ
seen_as page = (page.tag, page.at.stamp)

abbrev bare : FlightPage → FlightPage
bare page = record page { at = nameless page.at }

seen_bare : (xs : List FlightPage) → map seen_as (map bare xs) ≡ map seen_as xs
seen_bare [] = refl
seen_bare (x ∷ xs) = λ i. seen_as x ∷ seen_bare xs i

seen_alike : (was now : InFlight) → nameless_line now ≡ nameless_line was → map seen_as now.pages ≡ map seen_as was.pages
seen_alike was now alike = sym (seen_bare now.pages) ∙ (ap (λ (x : InFlight). map seen_as x.pages) alike ∙ seen_bare was.pages)

-- ---- pages of the worker's line

-- a worker without a line has no pages
abbrev pub IsIdle : List InFlight → ℕ → Type 0
IsIdle flight worker = (of_worker flight worker).line ≡ 0 → (of_worker flight worker).pages ≡ []

module _ (flight : List InFlight) (worker line : ℕ) where
  at_line : (of_worker flight worker).line ≡ line → flight_for flight worker line ≡ flight_of flight worker
  at_line is = ap (λ b. cond b (flight_of flight worker) []) (eq-eqb (of_worker flight worker).line line is)

  off_line : (of_worker flight worker).line ≢ line → flight_for flight worker line ≡ []
  off_line far = ap (λ b. cond b (flight_of flight worker) []) (ne_eqb (of_worker flight worker).line line far)

  module _ (some : 0 < line) (has : HasLineOrNone flight worker line) where
    not_none : (of_worker flight worker).line ≡ 0 → (of_worker flight worker).line ≢ line
    not_none none same = let off : ⊥ = omega (arith, some, none, same) in off

    -- all that it has in flight is of this line
    pub own_pages : IsIdle flight worker → flight_of flight worker ≡ flight_for flight worker line
    own_pages idle = ⊎_elim (λ none. ap (map seen_as) (idle none) ∙ sym (off_line (not_none none))) (λ is. sym (at_line is)) has

    line_pages : map seen_as (line_of flight worker line).pages ≡ flight_for flight worker line
    line_pages = ⊎_elim (λ is. ap (λ (x : InFlight). map seen_as x.pages) is.1 ∙ sym (off_line (not_none is.0)))
        (λ is. ap (λ (x : InFlight). map seen_as x.pages) is.2 ∙ sym (at_line is.0)) (line_cases flight worker line has)

    line_number : (line_of flight worker line).line ≡ line
    line_number = ⊎_elim (λ is. ap (λ (x : InFlight). x.line) is.1) (λ is. ap (λ (x : InFlight). x.line) is.2 ∙ is.0) (line_cases flight worker line has)

-- ---- lines that are alike but for names

pub kept_pages : (u v : List InFlight) (worker line : ℕ) → map nameless_line v ≡ map nameless_line u → 0 < line → HasLineOrNone u worker line → IsIdle u worker → KeepsLinePages worker line u v
kept_pages u v worker line same some has idle = seen_alike (of_worker u worker) (of_worker v worker) (line_alike u v worker same) ∙ own_pages u worker line some has idle

-- ---- another line is dropped

pub dropped_pages : {D : Type 0} (g : Ghosts D) (worker line : ℕ) (u v : Core D) → IsCore g u → worker < 8 → (of_worker u.flight worker).line ≢ line → DropsLine g worker u v → KeepsLinePages worker line u.flight v.flight
dropped_pages g worker line u v core known far d =
    let eight = core.flight.eight in
    let gone : of_worker v.flight worker ≡ begun 0 = ap (λ (f : List InFlight). of_worker f worker) d.flight ∙ own_with u.flight worker (begun 0) (omega (arith, known, eight)) in
    ap (λ (x : InFlight). map seen_as x.pages) gone ∙ sym (off_line u.flight worker line far)

-- ---- a failure is noted

module _ {D : Type 0} (g : Ghosts D) (worker line : ℕ) (v : Core D) (core : IsCore g v) (known : worker < 8) (some : 0 < line) (has : HasLineOrNone v.flight worker line) where
  noted_own : of_worker (notes_fault g worker line v).flight worker ≡ record (line_of v.flight worker line) { fault = fault_sum (counts_of g v.device) }
  noted_own = let eight = core.flight.eight in own_with v.flight worker (record (line_of v.flight worker line) { fault = fault_sum (counts_of g v.device) }) (omega (arith, known, eight))

  noted_line : HasLineOrNone (notes_fault g worker line v).flight worker line
  noted_line = inr (ap (λ (x : InFlight). x.line) noted_own ∙ line_number v.flight worker line some has)

  noted_pages : flight_of (notes_fault g worker line v).flight worker ≡ flight_of v.flight worker
  noted_pages = ap (λ (x : InFlight). map seen_as x.pages) noted_own
      ∙ (line_pages v.flight worker line some has ∙ sym (own_pages v.flight worker line some has (λ none. (core.flight.idle worker none).0)))

  module _ (P : Tag → Type 0) (u : Core D) where
    noted_on : StagesPage g worker line P u v stage.Fault → StagesPage g worker line P u (notes_fault g worker line v) stage.Fault
    noted_on (inl k) = inl (noted_pages ∙ k)
    noted_on (inr x) = inr (x.0, x.1, record { stamp = x.2.stamp; is_new = x.2.is_new; pages = noted_pages ∙ x.2.pages })

    failed_on : (answer : Stage) → StagesPage g worker line P u v answer → StagesPage g worker line P u v stage.Fault
    failed_on stage.Staged x = inr x
    failed_on stage.Fault x = x
    failed_on stage.Whole k = inl k
    failed_on stage.Stopped k = inl k
    failed_on (stage.Lost wanted found) k = inl k

    pub leaves_noted : (answer : Stage) → StagesPage g worker line P u v answer → LeavesPage g worker line P u (notes_fault g worker line v) stage.Fault
    leaves_noted answer x = record { line_is = noted_line; pages = noted_on (failed_on answer x) }

-- how a staging ends that has reached the device
module _ {D : Type 0} (g : Ghosts D) (worker line : ℕ) (P : Tag → Type 0) (u v : Core D) (core : IsCore g v) (known : worker < 8) (some : 0 < line) where
  pub leaves_tried : (answer : Stage) → LeavesPage g worker line P u v answer → (w : Core D) (result : Stage) → EndsTried g worker line answer v w result → LeavesPage g worker line P u w result
  leaves_tried answer x w result (inl e) = subst (λ (r : Stage). LeavesPage g worker line P u w r) (sym e.0) (subst (λ (y : Core D). LeavesPage g worker line P u y answer) (sym e.1) x)
  leaves_tried answer x w result (inr e) =
      subst (λ (r : Stage). LeavesPage g worker line P u w r) (sym e.0)
      (subst (λ (y : Core D). LeavesPage g worker line P u y stage.Fault) (sym e.1) (leaves_noted g worker line v core known some x.line_is P u answer x.pages))

-- ---- no page is put in flight

module _ {D : Type 0} (g : Ghosts D) (worker line : ℕ) (P : Tag → Type 0) (u v : Core D) (some : 0 < line) (same : KeepsLines u v) (before : IsCore g u) (was : HasLineOrNone u.flight worker line) (has : HasLineOrNone v.flight worker line) where
  kept : KeepsLinePages worker line u.flight v.flight
  kept = kept_pages u.flight v.flight worker line same some was (λ none. (before.flight.idle worker none).0)

  pub leaves_whole : LeavesPage g worker line P u v stage.Whole
  leaves_whole = record { line_is = has; pages = kept }

  pub leaves_lost : (wanted found : ℕ) → LeavesPage g worker line P u v (stage.Lost wanted found)
  leaves_lost wanted found = record { line_is = has; pages = kept }

  pub leaves_failed : IsCore g v → worker < 8 → (w : Core D) → w ≡ notes_fault g worker line v → LeavesPage g worker line P u w stage.Fault
  leaves_failed after known w noted = subst (λ (x : Core D). LeavesPage g worker line P u x stage.Fault) (sym noted) (leaves_noted g worker line v after known some has P u stage.Whole kept)

-- ---- a page is put in flight

module _ {D : Type 0} (g : Ghosts D) (worker line : ℕ) (u v : Core D) (core : IsCore g u) (known : worker < 8) (some : 0 < line) (tag : Tag) (main : List ℕ) (p : PutsInFlight g worker line tag main u v) (has : HasLineOrNone u.flight worker line) where
  abbrev put : InFlight
  put = behind (line_of u.flight worker line) tag p.at

  in_u : worker < length u.flight
  in_u = let eight = core.flight.eight in omega (arith, known, eight)

  own_alike : nameless_line (of_worker v.flight worker) ≡ nameless_line put
  own_alike = line_alike (with_page u.flight worker line tag p.at) v.flight worker p.flight ∙ ap nameless_line (own_with u.flight worker put in_u)

  other_alike : (w : ℕ) → w ≢ worker → nameless_line (of_worker v.flight w) ≡ nameless_line (of_worker u.flight w)
  other_alike w far = line_alike (with_page u.flight worker line tag p.at) v.flight w p.flight ∙ ap nameless_line (other_with u.flight worker w put far)

  pub put_line : HasLineOrNone v.flight worker line
  put_line = inr (same_line put (of_worker v.flight worker) own_alike ∙ line_number u.flight worker line some has)

  put_pages : flight_of v.flight worker ≡ flight_for u.flight worker line ++ (tag, p.at.stamp) ∷ []
  put_pages =
      seen_alike put (of_worker v.flight worker) own_alike
      ∙ (maps_apart seen_as (line_of u.flight worker line).pages (record { index = tag.index; at = p.at; tag = tag } ∷ [])
      ∙ ap (λ xs. xs ++ (tag, p.at.stamp) ∷ []) (line_pages u.flight worker line some has))

  -- no staging failed yet
  pub put_fault : FaultsStay u.flight v.flight
  put_fault w = by (cases_eq w worker)
    where
      here : ((of_worker v.flight worker).fault ≡ (of_worker u.flight worker).fault) ⊎ ((of_worker v.flight worker).fault ≡ 0)
      here = ⊎_elim (λ none. inr (same_fault put (of_worker v.flight worker) own_alike ∙ ap (λ (x : InFlight). x.fault) none.1))
          (λ is. inl (same_fault put (of_worker v.flight worker) own_alike ∙ ap (λ (x : InFlight). x.fault) is.2)) (line_cases u.flight worker line has)

      by : (w ≡ worker) ⊎ (w ≢ worker) → ((of_worker v.flight w).fault ≡ (of_worker u.flight w).fault) ⊎ ((of_worker v.flight w).fault ≡ 0)
      by (inl at) = subst (λ x. ((of_worker v.flight x).fault ≡ (of_worker u.flight x).fault) ⊎ ((of_worker v.flight x).fault ≡ 0)) (sym at) here
      by (inr far) = inl (same_fault (of_worker u.flight w) (of_worker v.flight w) (other_alike w far))

  pub leaves_staged : LeavesPage g worker line (λ owner. owner ≡ tag) u v stage.Staged
  leaves_staged = record { line_is = put_line; pages = (tag, refl, record { stamp = p.at.stamp; is_new = p.is_new; pages = put_pages }) }

-- ---- one part after the other

module _ {D : Type 0} (g : Ghosts D) (worker line : ℕ) (P Q : Tag → Type 0) (u v w : Core D) (each : (tag : Tag) → P tag → Q tag) (same : flight_for v.flight worker line ≡ flight_for u.flight worker line) (low : g.next_stamp u.device ≤ g.next_stamp v.device) where
  added_from : (tag : Tag) → AddsLinePage g worker line tag v w → AddsLinePage g worker line tag u w
  added_from tag x = record { stamp = x.stamp; is_new = let new = x.is_new in omega (arith, low, new); pages = x.pages ∙ ap (λ xs. xs ++ (tag, x.stamp) ∷ []) same }

  pages_from : (answer : Stage) → StagesPage g worker line P v w answer → StagesPage g worker line Q u w answer
  pages_from stage.Staged x = (x.0, each x.0 x.1, added_from x.0 x.2)
  pages_from stage.Fault (inl k) = inl (k ∙ same)
  pages_from stage.Fault (inr x) = inr (x.0, each x.0 x.1, added_from x.0 x.2)
  pages_from stage.Whole k = k ∙ same
  pages_from stage.Stopped k = k ∙ same
  pages_from (stage.Lost wanted found) k = k ∙ same

  pub leaves_from : (answer : Stage) → LeavesPage g worker line P v w answer → LeavesPage g worker line Q u w answer
  leaves_from answer x = record { line_is = x.line_is; pages = pages_from answer x.pages }

-- ---- writes that failed

-- a part that is done before, in which no write failed
pub writable_from : {D : Type 0} (g : Ghosts D) (u v w : Core D) → g.write_faults v.device ≡ g.write_faults u.device → StaysWritable g v w → StaysWritable g u w
writable_from g u v w same x = record { writes = x.writes; count = x.count ∙ same }

module _ {D : Type 0} (g : Ghosts D) (n : ℕ) (u v : Core D) (goes : PreservesVolume g n u v) where
  stays_writable : v.stopped ≡ 0 → StaysWritable g u v
  stays_writable none = record {
    writes = none;
    count = ⊎_elim (λ low. absurd (goes.stops.none none (omega (arith, low)))) (λ high. let later = goes.writes in omega (arith, high, later)) (cases_lt (g.write_faults u.device) (g.write_faults v.device));
  }

  pub tried_writable : (worker line : ℕ) (answer : Stage) (w : Core D) (result : Stage) → EndsTried g worker line answer v w result → result ≢ stage.Fault → StaysWritable g u w
  tried_writable worker line answer w result (inl e) far = subst (λ (x : Core D). StaysWritable g u x) (sym e.1) (stays_writable e.2)
  tried_writable worker line answer w result (inr e) far = absurd (far e.0)

-- it ends with the answer or with a failure
pub tried_not : {D : Type 0} (g : Ghosts D) (worker line : ℕ) (answer : Stage) (v w : Core D) (result : Stage) → EndsTried g worker line answer v w result → (other : Stage) → answer ≢ other → stage.Fault ≢ other → result ≢ other
tried_not g worker line answer v w result (inl e) other far off = λ is. far (sym e.0 ∙ is)
tried_not g worker line answer v w result (inr e) other far off = λ is. off (sym e.0 ∙ is)

-- ---- pages are read before

module _ {D : Type 0} (g : Ghosts D) (worker line : ℕ) (u v : Core D) (on : ReadsOn g u v) where
  flight_read : v.flight ≡ u.flight
  flight_read = ap (λ (x : Core D). x.flight) on.others

  lines_read : KeepsLines u v
  lines_read = ap (λ (f : List InFlight). map nameless_line f) flight_read

  pub read_leaves : (P Q : Tag → Type 0) → ((tag : Tag) → P tag → Q tag) → (w : Core D) (answer : Stage) → LeavesPage g worker line P v w answer → LeavesPage g worker line Q u w answer
  read_leaves P Q each w answer x =
      leaves_from g worker line P Q u v w each (ap (λ (f : List InFlight). flight_for f worker line) flight_read) (let same = on.runs.reads.medium.next_stamp in omega (arith, same)) answer x

  pub read_writable : (w : Core D) → StaysWritable g v w → StaysWritable g u w
  read_writable w x = writable_from g u v w on.runs.reads.medium.write_faults x

  pub read_stays : u.stopped ≡ 0 → StaysWritable g u v
  read_stays none = record { writes = ap (λ (x : Core D). x.stopped) on.others ∙ none; count = on.runs.reads.medium.write_faults }

  module _ (P : Tag → Type 0) (some : 0 < line) (core : IsCore g u) (has : HasLineOrNone u.flight worker line) where
    has_read : HasLineOrNone v.flight worker line
    has_read = subst (λ (f : List InFlight). HasLineOrNone f worker line) (sym flight_read) has

    pub read_whole : LeavesPage g worker line P u v stage.Whole
    read_whole = leaves_whole g worker line P u v some lines_read core has has_read

    pub read_lost : (wanted found : ℕ) → LeavesPage g worker line P u v (stage.Lost wanted found)
    read_lost = leaves_lost g worker line P u v some lines_read core has has_read

    pub read_failed : IsCore g v → worker < 8 → (w : Core D) → w ≡ notes_fault g worker line v → LeavesPage g worker line P u w stage.Fault
    read_failed = leaves_failed g worker line P u v some lines_read core has has_read
