-- A page is tried again behind rounds of reclaiming, until it is placed.
use Rattle.std.proofs.Common.{◌≡◌, ◌≢◌, ◌⊎◌, inl, inr, ⊎_elim, ℕ, ◌+◌, ◌*◌, ◌<◌, ◌≤◌, ◌^◌, ◌==◌, List, [], ◌∷◌, length, map, Some, refl, sym, ap, subst, ◌∙◌, arith}
use Rattle.std.specs.List.{sum_by}
use Rattle.std.specs.Prelude.{slice_set}
use Rattle.std.proofs.lemmas.Bool.{cases_eq, cond-false, cond-true, eq-eqb, ne_eqb}
use Rattle.std.proofs.lemmas.List.{length-map, map-append, map-set}
use Rattle.nl_field.specs.declared.answers.Named.{Named}
use Rattle.nl_field.specs.declared.answers.Named.TheVariants as named
use Rattle.nl_field.specs.declared.pointer.Pointer.{Pointer}
use Rattle.nl_field.specs.declared.pointer.Tag.{Tag}
use Rattle.nl_core_callbacks.specs.Handled.{nameless, nameless_line}
use Rattle.nl_flight.specs.Flight.{HasFlightRoom, InFlight, begun, carried, extra, of_worker}
use Rattle.nl_flight.specs.declared.page.FlightPage.{FlightPage}
use Rattle.nl_iface.specs.Answers.{IfPlaced, IfRefused, IsPlaced}
use Rattle.nl_iface.specs.Calls.{OnlyReads}
use Rattle.nl_iface.specs.Device.{IsVolumeShape}
use Rattle.nl_iface.specs.Names.{Has, IsNames, Names}
use Rattle.nl_iface.specs.Space.{Space}
use Rattle.nl_meta_running.proofs.Holds.{bounds-of}
use Rattle.nl_iface.specs.declared.counts.Counts.{Ghosts}
use Rattle.nl_iface.specs.declared.moving_pages.MovingPages.{Ghosts as Moving}
use Rattle.nl_core.specs.Calls.{FailureIsCounted, KeepsLines}
use Rattle.nl_core.specs.Core.{IsCore, names_of}
use Rattle.nl_core.specs.Goes.{PreservesVolume}
use Rattle.nl_core.specs.Programming.{HasLineOrNone, PutsInFlight, PutsNone, PutsPage, behind, line_of, with_page}
use Rattle.nl_core.specs.Rounds.{ReclaimPassIsDone}
use Rattle.nl_core.specs.declared.state.Core.{Core}
use Rattle.nl_core.proofs.Lines.{gains_put}
use Rattle.nl_core.proofs.Nearer.{less_left, nearer, round_keeps, rounds_left, tries_left}
use Rattle.nl_core.proofs.Onward.{cause_then, goes_then}
use Rattle.nl_core.proofs.Tried.{bare_page, extra_bare, same_line}

-- ---- lines that are the same but for names

module _ (old new : List InFlight) (same : map nameless_line new ≡ map nameless_line old) (worker line : ℕ) where
  number_stays : (of_worker new worker).line ≡ (of_worker old worker).line
  number_stays = ap (λ (x : InFlight). x.line) (same_line old new same worker)

  pub has_line_stays : HasLineOrNone old worker line → HasLineOrNone new worker line
  has_line_stays (inl none) = inl (number_stays ∙ none)
  has_line_stays (inr is) = inr (number_stays ∙ is)

  pub has_place_stays : HasFlightRoom old worker → HasFlightRoom new worker
  has_place_stays place = ⊎_elim
      (λ few. inl (subst (λ n. n < 16) (sym as_many) few))
      (λ less. inr (subst (λ n. n < 2) (sym (sym (extra_bare new) ∙ ap (λ (xs : List InFlight). sum_by extra xs) same ∙ extra_bare old)) less))
      place
    where
      as_many : length (of_worker new worker).pages ≡ length (of_worker old worker).pages
      as_many = sym (length-map (of_worker new worker).pages bare_page) ∙ ap (λ (x : InFlight). length x.pages) (same_line old new same worker) ∙ length-map (of_worker old worker).pages bare_page

  same_begun : nameless_line (line_of new worker line) ≡ nameless_line (line_of old worker line)
  same_begun = by (cases_eq (of_worker old worker).line 0)
    where
      by : ((of_worker old worker).line ≡ 0) ⊎ ((of_worker old worker).line ≢ 0) → nameless_line (line_of new worker line) ≡ nameless_line (line_of old worker line)
      by (inl none) =
          ap nameless_line (cond-true ((of_worker new worker).line == 0) (begun line) (of_worker new worker) (eq-eqb (of_worker new worker).line 0 (number_stays ∙ none)))
          ∙ sym (ap nameless_line (cond-true ((of_worker old worker).line == 0) (begun line) (of_worker old worker) (eq-eqb (of_worker old worker).line 0 none)))
      by (inr has) =
          ap nameless_line (cond-false ((of_worker new worker).line == 0) (begun line) (of_worker new worker) (ne_eqb (of_worker new worker).line 0 (λ z. has (sym number_stays ∙ z))))
          ∙ same_line old new same worker
          ∙ sym (ap nameless_line (cond-false ((of_worker old worker).line == 0) (begun line) (of_worker old worker) (ne_eqb (of_worker old worker).line 0 has)))

  bare_behind : (y : InFlight) (tag : Tag) (at : Pointer) → nameless_line (behind y tag at) ≡ behind (nameless_line y) tag (nameless at)
  bare_behind y tag at = ap (λ (pages : List FlightPage). record y { pages = pages }) (map-append bare_page y.pages (record { index = tag.index; at = at; tag = tag } ∷ []))

  -- with a page behind the others too
  pub with_page_stays : (tag : Tag) (at : Pointer) → map nameless_line (with_page new worker line tag at) ≡ map nameless_line (with_page old worker line tag at)
  with_page_stays tag at =
      map-set nameless_line new worker (behind (line_of new worker line) tag at)
      ∙ ap (λ (xs : List InFlight). slice_set xs worker (nameless_line (behind (line_of new worker line) tag at))) same
      ∙ ap (λ (y : InFlight). slice_set (map nameless_line old) worker y)
      (bare_behind (line_of new worker line) tag at ∙ ap (λ (y : InFlight). behind y tag (nameless at)) same_begun ∙ sym (bare_behind (line_of old worker line) tag at))
      ∙ sym (map-set nameless_line old worker (behind (line_of old worker line) tag at))

-- where there was no room, nothing was written
pub space_stays : {D : Type 0} (g : Ghosts D) (u w : Core D) (answer : Named) → ((IsPlaced answer → ⊥) → PutsNone g answer u w) → answer ≡ named.NoPage → (names_of g w).space ≡ (names_of g u).space
space_stays g u w answer none is = ap (λ (n : Names). n.space) (subst (λ (x : Named). IfRefused x (OnlyReads g u.device w.device)) is (none (λ p. subst IsPlaced is p)).refused).names

-- ---- what is known between two tries

-- the numbers that a round and a try may take
abbrev pub round_cost : ℕ
round_cost = 2 ^ 20 + 1

pub record Tries {D : Type 0} (g : Ghosts D) (worker line : ℕ) (tag : Tag) (main : List ℕ) (start now : Core D) (answer : Named) : Type 0 where
  pub core : IsCore g now
  pub taken : ℕ
  pub goes : PreservesVolume g taken start now
  pub paid : taken + round_cost * tries_left answer (names_of g now).space ≤ round_cost * 772
  pub no_room : answer ≡ named.NoPage → (now.stopped ≡ 0) × ((names_of g now).space.room ≡ 0)
  pub not_live : answer ≡ named.NotLive → ⊥
  pub placed : IfPlaced answer (λ at. PutsInFlight g worker line tag main start now)
  pub lines : (IsPlaced answer → ⊥) → KeepsLines start now
  pub cause : FailureIsCounted g (answer ≡ named.Fault) start now

module _ {D : Type 0} (g : Ghosts D) (worker line : ℕ) (tag : Tag) (main : List ℕ) (start u w : Core D) (answer : Named) (n : ℕ) (a : PreservesVolume g n start u) (lines : KeepsLines start u)
    (core_u : IsCore g u) (runs : u.stopped ≡ 0) (known : worker < 8)
    (core_w : IsCore g w) (b : PreservesVolume g 1 u w) (no_page : answer ≡ named.NoPage → (names_of g u).space.room ≡ 0)
    (placed : IfPlaced answer (PutsPage g worker line tag main u w)) (none : (IsPlaced answer → ⊥) → PutsNone g answer u w) (cause : FailureIsCounted g (answer ≡ named.Fault) u w) where
  is_put : (at : Pointer) → PutsPage g worker line tag main u w at → PutsInFlight g worker line tag main start w
  is_put at p = record {
    at = at;
    flight = ap (map nameless_line) p.flight ∙ with_page_stays start.flight u.flight lines worker line tag at;
    is_in_flight = subst (λ (f : List InFlight). Has (carried f) (tag, at)) (sym p.flight) (gains_put u.flight worker line tag at core_u.flight known).has;
    is_live = p.places.names.live at.name
        ∙ cond-true (at.name == at.name) (Some (record { tag = tag; stamp = g.next_stamp u.device })) ((names_of g u).live at.name) (eq-eqb at.name at.name refl)
        ∙ ap (λ s. Some (record { tag = tag; stamp = s })) (sym p.places.stamp);
    is_new = let low = a.stamps.never_falls in let same = p.places.stamp in omega (arith, low, same);
    bytes = p.places.bytes;
  }

  puts : (x : Named) → IfPlaced x (PutsPage g worker line tag main u w) → IfPlaced x (λ at. PutsInFlight g worker line tag main start w)
  puts (named.Placed at) p = is_put at p
  puts named.NotLive p = tt
  puts named.NoPage p = tt
  puts named.Fault p = tt

  same_lines : (IsPlaced answer → ⊥) → KeepsLines start w
  same_lines off = ap (λ (x : Core D). map nameless_line x.flight) (none off).others ∙ lines

  -- where there was no room, nothing was written
  module _ (is : answer ≡ named.NoPage) where
    off : IsPlaced answer → ⊥
    off p = subst IsPlaced is p

    reads : OnlyReads g u.device w.device
    reads = subst (λ (x : Named). IfRefused x (OnlyReads g u.device w.device)) is (none off).refused

    pub same_names : names_of g w ≡ names_of g u
    same_names = reads.names

    still_runs : w.stopped ≡ 0
    still_runs = ⊎_elim (λ z. z)
        (λ some.
        let rose = (b.stops.some runs some).0 in
        let same = reads.medium.write_faults in
        let low = (core_u.writes runs).counts in
        absurd (let no : ⊥ = omega (arith, rose, same, low) in no))
        (cases_eq w.stopped 0)

  pub tried : n + 1 + round_cost * tries_left answer (names_of g w).space ≤ round_cost * 772 → Tries g worker line tag main start w answer
  tried paid = record {
    core = core_w;
    taken = n + 1;
    goes = goes_then g start u w n 1 a b;
    paid = paid;
    no_room = λ is. (still_runs is, ap (λ (x : Names). x.space.room) (same_names is) ∙ no_page is);
    not_live = λ is. (none (λ p. subst IsPlaced is p)).not_live is;
    placed = puts answer placed;
    lines = same_lines;
    cause = cause_then g (answer ≡ named.Fault) (answer ≡ named.Fault) start u w n a cause (λ f. f);
  }

-- ---- a round, and the next try

module _ {D : Type 0} (g : Ghosts D) (worker line : ℕ) (tag : Tag) (main : List ℕ) (start s u : Core D) (t : Tries g worker line tag main start s named.NoPage)
    (b : PreservesVolume g (2 ^ 20) s u) (lines : KeepsLines s u) where
  abbrev pub taken_then : ℕ
  taken_then = t.taken + 2 ^ 20

  pub goes_round : PreservesVolume g taken_then start u
  goes_round = goes_then g start s u t.taken (2 ^ 20) t.goes b

  pub lines_round : KeepsLines start u
  lines_round = lines ∙ t.lines (λ p. p)

  -- where a further try takes fewer rounds, it is paid for
  pub paid_then : (w : Core D) (answer : Named) → tries_left answer (names_of g w).space < tries_left named.NoPage (names_of g s).space
      → taken_then + 1 + round_cost * tries_left answer (names_of g w).space ≤ round_cost * 772
  paid_then w answer less = let paid = t.paid in omega (arith, paid, less)

-- one that is nearer
pub nearer_then : {D : Type 0} (g : Ghosts D) (m : Moving D) (s u w : Core D) (answer : Named) → IsVolumeShape (g.shape s.device) → IsNames (g.shape s.device) (g.next_stamp s.device) (names_of g s)
    → IsNames (g.shape u.device) (g.next_stamp u.device) (names_of g u) → (names_of g s).space.room ≡ 0 → ReclaimPassIsDone g m s u → (answer ≡ named.NoPage → (names_of g u).space.room ≡ 0)
    → ((IsPlaced answer → ⊥) → PutsNone g answer u w) → tries_left answer (names_of g w).space < tries_left named.NoPage (names_of g s).space
nearer_then g m s u w answer volume names_s names_u full r no_page none =
    less_left (names_of g s).space (names_of g w).space answer
    (λ is. subst (λ (x : Space). rounds_left x < rounds_left (names_of g s).space) (sym (space_stays g u w answer none is))
    (nearer (names_of g s).space (names_of g u).space names_s.space names_u.space (round_keeps (names_of g s).space (names_of g u).space r.round)
    (let pages = (bounds-of (g.shape s.device) volume).least_pages in let block = names_s.block in omega (arith, pages, block)) full (no_page is) r.none_in_hand r.few_wait r.gains))
