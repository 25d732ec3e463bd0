-- What is in flight stays in order as a line is dropped, and as a page is put behind the others of one.
use Rattle.std.proofs.Common.{◌≡◌, ◌≢◌, ◌⊎◌, inl, inr, ⊎_elim, ℕ, ◌+◌, ◌<◌, ◌≤◌, ◌==◌, List, [], ◌∷◌, ◌++◌, length, Option, Some, sym, ap, subst, ◌∙◌, arith, length-append, eq-eqb, ne_eqb}
use Rattle.std.specs.Prelude.{IsSome, is_some, option_map, slice_get, unwrap_or}
use Rattle.std.proofs.lemmas.Bool.{cases_eq, cases_lt, cond-false, cond-true}
use Rattle.std.proofs.lemmas.List.{get_or-set_other, get_or-set_same}
use Rattle.std.proofs.lemmas.Option.{slice_get_within}
use Rattle.nl_field.specs.declared.pointer.Tag.{Tag}
use Rattle.nl_tree.specs.Causes.{IsSumSince}
use Rattle.nl_tree.specs.Event.{page_given}
use Rattle.nl_tree.specs.Tree.{Tree}
use Rattle.nl_tree.specs.declared.call.Call.{Call}
use Rattle.nl_tree.specs.declared.call.Line.{Line}
use Rattle.nl_tree.proofs.FaultProofs.{fault_laws}
use Rattle.nl_core_callbacks.specs.Handled.{nameless_line}
use Rattle.nl_flight.specs.Flight.{InFlight, begun, carried, of_worker, with_line}
use Rattle.nl_flight.specs.declared.page.FlightPage.{FlightPage}
use Rattle.nl_iface.specs.Names.{Has, place_of}
use Rattle.nl_iface.specs.declared.counts.Counts.{Ghosts}
use Rattle.nl_meta.specs.Consistent.{PageOfStamp}
use Rattle.nl_core.specs.Core.{IsCore, names_of}
use Rattle.nl_core.specs.Dropping.{DropsLine}
use Rattle.nl_core.specs.Goes.{PreservesVolume}
use Rattle.nl_core.specs.Programming.{HasLineOrNone, PutsInFlight, behind, line_of, with_page}
use Rattle.nl_core.specs.Trees.{CoreRepresentsTree}
use Rattle.nl_core.specs.declared.state.Core.{Core}
use Rattle.nl_turns.specs.History.{Opening, opening_counts}
use Rattle.nl_turns.specs.Served.{IsLineOf}
use Rattle.nl_calls_steps.specs.Calls.{counts_of}
use Rattle.nl_calls_write.specs.Calls.{IsStagedPage}
use Rattle.nl_volume_stage.specs.Standing.{FlightIsOfLines, IsInFlight, first_whole}
use Rattle.nl_volume_stage.specs.Turns.{FaultsStay}
use Rattle.nl_volume_stage.proofs.Histories.{at_before, at_last}
use Rattle.nl_volume_stage.proofs.Alike.{line_alike}
use Rattle.nl_volume_stage.proofs.Flights.{goes_keeps, has_found, in_carried, leads, one_on, same_fault, same_line, staged_on, strip, was_page}

-- ---- lines of a flight with another one

pub own_with : (flight : List InFlight) (worker : ℕ) (now : InFlight) → worker < length flight → of_worker (with_line flight worker now) worker ≡ now
own_with flight worker now known = get_or-set_same flight worker now (begun 0) known

pub other_with : (flight : List InFlight) (worker w : ℕ) (now : InFlight) → w ≢ worker → of_worker (with_line flight worker now) w ≡ of_worker flight w
other_with flight worker w now far = get_or-set_other flight worker w now (begun 0) far

-- one number has one call
pub one_call_of : (o : Opening) (worker worker' line : ℕ) (call call' : Call) → IsLineOf o worker line call → IsLineOf o worker' line call' → call ≡ call'
one_call_of o worker worker' line call call' is is' =
    let same : is.found.0 ≡ is'.found.0 = cc (is.found.1, is'.found.1) in
    sym is.found.3 ∙ (ap (λ (l : Line). l.call) same ∙ is'.found.3)

-- what the line is: one of before, or a new one
pub line_cases : (flight : List InFlight) (worker line : ℕ) → HasLineOrNone flight worker line → (((of_worker flight worker).line ≡ 0) × (line_of flight worker line ≡ begun line)) ⊎ (((of_worker flight worker).line ≡ line) × ((of_worker flight worker).line ≢ 0) × (line_of flight worker line ≡ of_worker flight worker))
line_cases flight worker line has = by (cases_eq (of_worker flight worker).line 0)
  where
    by : ((of_worker flight worker).line ≡ 0) ⊎ ((of_worker flight worker).line ≢ 0)
        → (((of_worker flight worker).line ≡ 0) × (line_of flight worker line ≡ begun line)) ⊎ (((of_worker flight worker).line ≡ line) × ((of_worker flight worker).line ≢ 0) × (line_of flight worker line ≡ of_worker flight worker))
    by (inl none) = inl (none, cond-true ((of_worker flight worker).line == 0) (begun line) (of_worker flight worker) (eq-eqb (of_worker flight worker).line 0 none))
    by (inr some) = inr (⊎_elim (λ none. absurd (some none)) (λ is. is) has, some, cond-false ((of_worker flight worker).line == 0) (begun line) (of_worker flight worker) (ne_eqb (of_worker flight worker).line 0 some))

module _ {D : Type 0} (g : Ghosts D) (o : Opening) (n : ℕ) (u v : Core D) (before : IsCore g u) (after : IsCore g v) (goes : PreservesVolume g n u v) (runs : g.tells → (page_of_stamp : ℕ → Option PageOfStamp) × (tree : Tree) × CoreRepresentsTree g u page_of_stamp tree) (worker : ℕ) (known : worker < 8) where
  in_u : worker < length u.flight
  in_u = let eight = before.flight.eight in omega (arith, known, eight)

  -- ---- a line is dropped

  module _ (d : DropsLine g worker u v) where
    gone : of_worker v.flight worker ≡ begun 0
    gone = ap (λ (f : List InFlight). of_worker f worker) d.flight ∙ own_with u.flight worker (begun 0) in_u

    stays : (w : ℕ) → w ≢ worker → of_worker v.flight w ≡ of_worker u.flight w
    stays w far = ap (λ (f : List InFlight). of_worker f w) d.flight ∙ other_with u.flight worker w (begun 0) far

    pub dropped_stands : FlightIsOfLines g o u.device u.flight → FlightIsOfLines g o v.device v.flight
    dropped_stands stands w = by (cases_eq w worker)
      where
        by : (w ≡ worker) ⊎ (w ≢ worker) → (((of_worker v.flight w).line ≡ 0) × ((of_worker v.flight w).fault ≡ 0)) ⊎ IsInFlight g o v.device w (of_worker v.flight w)
        by (inl here) = let is : of_worker v.flight w ≡ begun 0 = ap (of_worker v.flight) here ∙ gone in inl (ap (λ (x : InFlight). x.line) is, ap (λ (x : InFlight). x.fault) is)
        by (inr far) = one_on g o u v before after (goes_keeps g n u v goes) runs w (ap nameless_line (stays w far)) (stands w)

    pub dropped_faults : FaultsStay u.flight v.flight
    dropped_faults w = by (cases_eq w worker)
      where
        by : (w ≡ worker) ⊎ (w ≢ worker) → ((of_worker v.flight w).fault ≡ (of_worker u.flight w).fault) ⊎ ((of_worker v.flight w).fault ≡ 0)
        by (inl here) = inr (ap (λ (x : InFlight). x.fault) (ap (of_worker v.flight) here ∙ gone))
        by (inr far) = inl (ap (λ (x : InFlight). x.fault) (stays w far))

  -- ---- a page is put behind the others of a line

  module _ (line : ℕ) (tag : Tag) (main : List ℕ) (call : Call) (p : PutsInFlight g worker line tag main u v) (has : HasLineOrNone u.flight worker line) (of : IsLineOf o worker line call)
      (index : tag.index ≡ first_whole call + length (of_worker u.flight worker).pages) (given : page_given call tag.index ≡ Some main) (stands : FlightIsOfLines g o u.device u.flight) where
    abbrev put : InFlight
    put = behind (line_of u.flight worker line) tag p.at

    abbrev page : FlightPage
    page = record { index = tag.index; at = p.at; tag = tag }

    abbrev now : InFlight
    now = of_worker v.flight worker

    alike : nameless_line now ≡ nameless_line put
    alike = line_alike (with_page u.flight worker line tag p.at) v.flight worker p.flight ∙ ap nameless_line (own_with u.flight worker put in_u)

    others : (w : ℕ) → w ≢ worker → nameless_line (of_worker v.flight w) ≡ nameless_line (of_worker u.flight w)
    others w far = line_alike (with_page u.flight worker line tag p.at) v.flight w p.flight ∙ ap nameless_line (other_with u.flight worker w put far)

    put_line : put.line ≡ line
    put_line = ⊎_elim (λ is. ap (λ (x : InFlight). x.line) is.1) (λ is. ap (λ (x : InFlight). x.line) is.2 ∙ is.0) (line_cases u.flight worker line has)

    old_pages : (line_of u.flight worker line).pages ≡ (of_worker u.flight worker).pages
    old_pages = ⊎_elim (λ is. ap (λ (x : InFlight). x.pages) is.1 ∙ sym (before.flight.idle worker is.0).0) (λ is. ap (λ (x : InFlight). x.pages) is.2) (line_cases u.flight worker line has)

    -- the bytes of a page in flight under the stamp of the new one
    new_bytes : g.tells → (q : FlightPage) → Has (carried v.flight) (q.tag, q.at) → q.at.stamp ≡ p.at.stamp → g.bytes v.device (place_of (names_of g v) q.at) ≡ main
    new_bytes tells q is same =
        let k = runs tells in
        let r = (goes.runs tells k.0 k.1 k.2).runs in
        let pages = (goes.runs tells k.0 k.1 k.2).pages in
        let one = r.shows (place_of (names_of g v) q.at) (record { tag = q.tag; stamp = q.at.stamp }) (leads g v after (q.tag, q.at) is) in
        let two = r.shows p.at.name (record { tag = tag; stamp = p.at.stamp }) p.is_live in
        ap (λ (x : Option PageOfStamp). unwrap_or (option_map (λ y. y.bytes) x) []) (sym one ∙ (ap pages same ∙ two)) ∙ p.bytes tells

    -- the worker's line of before is this one, where it has one
    same_number : (of_worker u.flight worker).line ≢ 0 → (of_worker u.flight worker).line ≡ line
    same_number some = ⊎_elim (λ none. absurd (some none.0)) (λ is. is.0) (line_cases u.flight worker line has)

    was_staged : (place : ℕ) (q : FlightPage) → slice_get (of_worker u.flight worker).pages place ≡ Some q → IsStagedPage g u.device call place q
    was_staged place q at = by (stands worker)
      where
        by : (((of_worker u.flight worker).line ≡ 0) × ((of_worker u.flight worker).fault ≡ 0)) ⊎ IsInFlight g o u.device worker (of_worker u.flight worker) → IsStagedPage g u.device call place q
        by (inl none) = absurd (cc (subst (λ (xs : List FlightPage). slice_get xs place ≡ Some q) (before.flight.idle worker none.0).0 at))
        by (inr is) =
            let some : (of_worker u.flight worker).line ≢ 0 = λ none. let n = is.known.numbered in let off : ⊥ = omega (arith, n, none) in off in
            subst (λ c. IsStagedPage g u.device c place q) (one_call_of o worker worker line is.call call (subst (λ l. IsLineOf o worker l is.call) (same_number some) is.known) of) (is.staged place q at)

    -- a page of the line is one of before at its place, or the new one behind them
    staged_now : (place : ℕ) (q : FlightPage) → slice_get now.pages place ≡ Some q → IsStagedPage g v.device call place q
    staged_now place q at = by (cases_lt place (length (of_worker u.flight worker).pages))
      where
        k : (r : FlightPage) × (slice_get put.pages place ≡ Some r) × (strip put now alike q ≡ strip put now alike r)
        k = was_page put now alike place q at

        in_put : slice_get ((of_worker u.flight worker).pages ++ page ∷ []) place ≡ Some k.0
        in_put = ap (λ (xs : List FlightPage). slice_get (xs ++ page ∷ []) place) (sym old_pages) ∙ k.1

        by : (place < length (of_worker u.flight worker).pages) ⊎ (length (of_worker u.flight worker).pages ≤ place) → IsStagedPage g v.device call place q
        by (inl low) =
            let was = sym (at_before (of_worker u.flight worker).pages page place low) ∙ in_put in
            staged_on g o u v before after (goes_keeps g n u v goes) runs worker worker place place call place k.0 q was at (ap (λ (x : FlightPage). x.index) k.2) (ap (λ (x : FlightPage). x.tag) k.2) (ap (λ (x : FlightPage). x.at.stamp) k.2) (was_staged place k.0 was)
        by (inr high) =
            let len = length-append (of_worker u.flight worker).pages (page ∷ []) in
            let within = slice_get_within ((of_worker u.flight worker).pages ++ page ∷ []) place k.0 in_put in
            let end : place ≡ length (of_worker u.flight worker).pages = omega (arith, high, within, len) in
            let is : page ≡ k.0 = cc (sym (at_last (of_worker u.flight worker).pages page) ∙ (ap (slice_get ((of_worker u.flight worker).pages ++ page ∷ [])) (sym end) ∙ in_put)) in
            let same : strip put now alike q ≡ strip put now alike page = k.2 ∙ ap (strip put now alike) (sym is) in
            let at_index : q.index ≡ tag.index = ap (λ (x : FlightPage). x.index) same in
            record {
              index = at_index ∙ (index ∙ ap (λ n. first_whole call + n) (sym end));
              tagged = ap (λ (x : FlightPage). x.tag.index) same ∙ sym at_index;
              whole = subst (λ n. IsSome (page_given call n)) (sym at_index) (ap is_some given);
              given = λ tells. ap (page_given call) at_index ∙ (given ∙ ap Some (sym (new_bytes tells q (in_carried v.flight worker q (has_found now.pages place q at)) (ap (λ (x : FlightPage). x.at.stamp) same))));
            }

    fault_now : now.fault ≢ 0 → IsSumSince (opening_counts o) (counts_of g v.device) now.fault
    fault_now some = by (line_cases u.flight worker line has)
      where
        same : now.fault ≡ (line_of u.flight worker line).fault
        same = same_fault put now alike

        by : (((of_worker u.flight worker).line ≡ 0) × (line_of u.flight worker line ≡ begun line)) ⊎ (((of_worker u.flight worker).line ≡ line) × ((of_worker u.flight worker).line ≢ 0) × (line_of u.flight worker line ≡ of_worker u.flight worker)) → IsSumSince (opening_counts o) (counts_of g v.device) now.fault
        by (inl none) = absurd (some (same ∙ ap (λ (x : InFlight). x.fault) none.1))
        by (inr is) =
            let was : now.fault ≡ (of_worker u.flight worker).fault = same ∙ ap (λ (x : InFlight). x.fault) is.2 in
            ⊎_elim (λ none. absurd (is.1 none.0))
            (λ (f : IsInFlight g o u.device worker (of_worker u.flight worker)). subst (IsSumSince (opening_counts o) (counts_of g v.device)) (sym was) (fault_laws.stays (opening_counts o) (counts_of g u.device) (counts_of g v.device) (of_worker u.flight worker).fault (f.fault (λ none. some (was ∙ none))) (goes_keeps g n u v goes).later))
            (stands worker)

    pub put_stands : FlightIsOfLines g o v.device v.flight
    put_stands w = by (cases_eq w worker)
      where
        here_stands : IsInFlight g o v.device worker now
        here_stands = record { call = call; known = subst (λ l. IsLineOf o worker l call) (sym (same_line put now alike ∙ put_line)) of; staged = staged_now; fault = fault_now }

        by : (w ≡ worker) ⊎ (w ≢ worker) → (((of_worker v.flight w).line ≡ 0) × ((of_worker v.flight w).fault ≡ 0)) ⊎ IsInFlight g o v.device w (of_worker v.flight w)
        by (inl here) = inr (subst (λ x. IsInFlight g o v.device x (of_worker v.flight x)) (sym here) here_stands)
        by (inr far) = one_on g o u v before after (goes_keeps g n u v goes) runs w (others w far) (stands w)

    pub put_faults : FaultsStay u.flight v.flight
    put_faults w = by (cases_eq w worker)
      where
        here_fault : (now.fault ≡ (of_worker u.flight worker).fault) ⊎ (now.fault ≡ 0)
        here_fault = ⊎_elim (λ none. inr (same_fault put now alike ∙ ap (λ (x : InFlight). x.fault) none.1)) (λ is. inl (same_fault put now alike ∙ ap (λ (x : InFlight). x.fault) is.2)) (line_cases u.flight worker line has)

        by : (w ≡ worker) ⊎ (w ≢ worker) → ((of_worker v.flight w).fault ≡ (of_worker u.flight w).fault) ⊎ ((of_worker v.flight w).fault ≡ 0)
        by (inl here) = subst (λ x. ((of_worker v.flight x).fault ≡ (of_worker u.flight x).fault) ⊎ ((of_worker v.flight x).fault ≡ 0)) (sym here) here_fault
        by (inr far) = inl (same_fault (of_worker u.flight w) (of_worker v.flight w) (others w far))

-- ---- the pages of a worker's line are those that were staged for its call

pub staged_for : {D : Type 0} (g : Ghosts D) (o : Opening) (v : Core D) (worker line : ℕ) (call : Call) → IsCore g v → FlightIsOfLines g o v.device v.flight → HasLineOrNone v.flight worker line → IsLineOf o worker line call → (place : ℕ) (q : FlightPage)
    → slice_get (of_worker v.flight worker).pages place ≡ Some q → IsStagedPage g v.device call place q
staged_for g o v worker line call core stands has of place q at = by (stands worker)
  where
    by : (((of_worker v.flight worker).line ≡ 0) × ((of_worker v.flight worker).fault ≡ 0)) ⊎ IsInFlight g o v.device worker (of_worker v.flight worker) → IsStagedPage g v.device call place q
    by (inl none) = absurd (cc (subst (λ (xs : List FlightPage). slice_get xs place ≡ Some q) (core.flight.idle worker none.0).0 at))
    by (inr is) =
        let some : (of_worker v.flight worker).line ≢ 0 = λ none. let n = is.known.numbered in let off : ⊥ = omega (arith, n, none) in off in
        let same : (of_worker v.flight worker).line ≡ line = ⊎_elim (λ none. absurd (some none)) (λ k. k) has in
        subst (λ c. IsStagedPage g v.device c place q) (one_call_of o worker worker line is.call call (subst (λ l. IsLineOf o worker l is.call) same is.known) of) (is.staged place q at)
