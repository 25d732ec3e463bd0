-- What is in flight stays in order.
use Rattle.std.proofs.Common.{◌≡◌, ◌⊎◌, inl, inr, ℕ, zero, suc, List, [], ◌∷◌, ◌++◌, map, Option, Some, refl, sym, ap, subst, ◌∙◌}
use Rattle.std.specs.Prelude.{IsSome, option_map, slice_get, unwrap_or}
use Rattle.std.proofs.lemmas.List.Concat.{flat_map-cons}
use Rattle.nl_field.specs.declared.pointer.Pointer.{Pointer}
use Rattle.nl_field.specs.declared.pointer.Tag.{Tag}
use Rattle.nl_tree.specs.Causes.{IsSumSince, NeverFall}
use Rattle.nl_tree.specs.Event.{page_given}
use Rattle.nl_tree.specs.Tree.{Tree}
use Rattle.nl_tree.specs.declared.call.Call.{Call}
use Rattle.nl_tree.proofs.FaultProofs.{fault_laws}
use Rattle.nl_core_callbacks.specs.Handled.{nameless_line}
use Rattle.nl_flight.specs.Flight.{InFlight, carried, of_worker}
use Rattle.nl_flight.specs.declared.page.FlightPage.{FlightPage}
use Rattle.nl_iface.specs.Names.{Has, Names, place_of}
use Rattle.nl_iface.specs.declared.counts.Counts.{Ghosts}
use Rattle.nl_meta.specs.Consistent.{PageOfStamp}
use Rattle.nl_core.specs.Calls.{KeepsLines}
use Rattle.nl_core.specs.Core.{IsCore, names_of}
use Rattle.nl_core.specs.Goes.{PreservesVolume, PreservesTree}
use Rattle.nl_core.specs.Trees.{CoreRepresentsTree}
use Rattle.nl_core.specs.declared.state.Core.{Core}
use Rattle.nl_core.proofs.Lines.{of_line}
use Rattle.nl_volume_stage.proofs.Alike.{line_alike}
use Rattle.nl_turns.specs.History.{Opening, opening_counts}
use Rattle.nl_turns.specs.Served.{IsLineOf}
use Rattle.nl_calls_steps.specs.Calls.{counts_of}
use Rattle.nl_calls_write.specs.Calls.{IsStagedPage}
use Rattle.nl_volume_stage.specs.Standing.{FlightIsOfLines, IsInFlight}
use Rattle.nl_volume_stage.specs.Turns.{FaultsStay}

-- ---- members

has_left : {X : Type 0} (xs ys : List X) (x : X) → Has xs x → Has (xs ++ ys) x
has_left [] ys x none = absurd none
has_left (y ∷ xs) ys x (inl e) = inl e
has_left (y ∷ xs) ys x (inr has) = inr (has_left xs ys x has)

has_right : {X : Type 0} (xs ys : List X) (x : X) → Has ys x → Has (xs ++ ys) x
has_right [] ys x has = has
has_right (y ∷ xs) ys x has = inr (has_right xs ys x has)

has_map : {X Y : Type 0} (f : X → Y) (xs : List X) (x : X) → Has xs x → Has (map f xs) (f x)
has_map f [] x none = none
has_map f (y ∷ xs) x (inl e) = inl (ap f e)
has_map f (y ∷ xs) x (inr has) = inr (has_map f xs x has)

pub has_found : {X : Type 0} (xs : List X) (i : ℕ) (x : X) → slice_get xs i ≡ Some x → Has xs x
has_found [] i x at = absurd (cc at)
has_found (y ∷ xs) zero x at = inl (cc at)
has_found (y ∷ xs) (suc i) x at = inr (has_found xs i x at)

-- of two lists that are alike under f, what is at a place of the first has a counterpart there in the second
pub found_alike : {X Y : Type 0} (f : X → Y) (xs ys : List X) (i : ℕ) (x : X) → map f xs ≡ map f ys → slice_get xs i ≡ Some x → (y : X) × (slice_get ys i ≡ Some y) × (f x ≡ f y)
found_alike f [] ys i x same at = absurd (cc at)
found_alike f (z ∷ xs) [] i x same at = absurd (cc same)
found_alike f (z ∷ xs) (y ∷ ys) zero x same at = let is : z ≡ x = cc at in (y, refl, ap f (sym is) ∙ cc same)
found_alike f (z ∷ xs) (y ∷ ys) (suc i) x same at = found_alike f xs ys i x (cc same) at

-- ---- pages in flight are live

pub in_carried : (flight : List InFlight) (worker : ℕ) (page : FlightPage) → Has (of_worker flight worker).pages page → Has (carried flight) (page.tag, page.at)
unfolding carried
in_carried [] worker page none = absurd none
in_carried (now ∷ flight) zero page has =
    subst (λ xs. Has xs (page.tag, page.at)) (sym (flat_map-cons of_line now flight)) (has_left (of_line now) (carried flight) (page.tag, page.at) (has_map (λ (p : FlightPage). (p.tag, p.at)) now.pages page has))
in_carried (now ∷ flight) (suc worker) page has =
    subst (λ xs. Has xs (page.tag, page.at)) (sym (flat_map-cons of_line now flight)) (has_right (of_line now) (carried flight) (page.tag, page.at) (in_carried flight worker page has))

module _ {D : Type 0} (g : Ghosts D) (v : Core D) (core : IsCore g v) where
  pub leads : (x : Tag × Pointer) → Has (carried v.flight) x → (names_of g v).live (place_of (names_of g v) x.1) ≡ Some (record { tag = x.0; stamp = x.1.stamp })
  leads x has =
      let h = core.held in
      let l = (h.holds.held.flight x (subst (λ xs. Has xs x) (sym h.in_flight) has)).leads in
      let names = h.is_of.runs.names in
      ap (λ (m : Names). m.live (place_of m x.1)) (sym names) ∙ (l.1 ∙ (λ i. Some (record { tag = l.2.0 i; stamp = l.2.1 i })))

-- Counts of the medium do not fall, and where the core ran as a tree it runs as one, with each page that was programmed before.
pub record KeepsPages {D : Type 0} (g : Ghosts D) (u v : Core D) : Type 0 where
  pub later : NeverFall (counts_of g u.device) (counts_of g v.device)
  pub runs : g.tells → (page_of_stamp : ℕ → Option PageOfStamp) (tree : Tree) → CoreRepresentsTree g u page_of_stamp tree → (t : Tree) × PreservesTree g v page_of_stamp t

pub goes_keeps : {D : Type 0} (g : Ghosts D) (n : ℕ) (u v : Core D) → PreservesVolume g n u v → KeepsPages g u v
goes_keeps g n u v goes = record { later = record { clock = goes.clock; read_faults = goes.reads; write_faults = goes.writes }; runs = λ tells page_of_stamp tree at. (tree, goes.runs tells page_of_stamp tree at) }

-- A page in flight keeps its bytes, wherever it is.
module _ {D : Type 0} (g : Ghosts D) (u v : Core D) (before : IsCore g u) (after : IsCore g v) (keeps : KeepsPages g u v) (tells : g.tells) (page_of_stamp : ℕ → Option PageOfStamp) (tree : Tree) (at : CoreRepresentsTree g u page_of_stamp tree) where
  pub same_bytes : (x y : Tag × Pointer) → Has (carried u.flight) x → Has (carried v.flight) y → y.1.stamp ≡ x.1.stamp → g.bytes v.device (place_of (names_of g v) y.1) ≡ g.bytes u.device (place_of (names_of g u) x.1)
  same_bytes x y was is same =
      let k = (keeps.runs tells page_of_stamp tree at).1 in
      let old = k.extends x.1.stamp (record { tag = x.0; bytes = g.bytes u.device (place_of (names_of g u) x.1) }) (at.shows (place_of (names_of g u) x.1) (record { tag = x.0; stamp = x.1.stamp }) (leads g u before x was)) in
      let new = k.runs.shows (place_of (names_of g v) y.1) (record { tag = y.0; stamp = y.1.stamp }) (leads g v after y is) in
      ap (λ (o : Option PageOfStamp). unwrap_or (option_map (λ p. p.bytes) o) []) (sym new ∙ (ap k.pages same ∙ old))

-- ---- lines that are alike but for names

module _ (was now : InFlight) (alike : nameless_line now ≡ nameless_line was) where
  pub same_line : now.line ≡ was.line
  same_line = ap (λ (x : InFlight). x.line) alike

  pub same_fault : now.fault ≡ was.fault
  same_fault = ap (λ (x : InFlight). x.fault) alike

  abbrev pub strip : FlightPage → FlightPage
  strip page = record page { at = record { name = 0; stamp = page.at.stamp } }

  pub same_pages : map strip now.pages ≡ map strip was.pages
  same_pages = ap (λ (x : InFlight). x.pages) alike

  -- each page was in flight at its place, under some name
  pub was_page : (i : ℕ) (page : FlightPage) → slice_get now.pages i ≡ Some page → (p : FlightPage) × (slice_get was.pages i ≡ Some p) × (strip page ≡ strip p)
  was_page i page at = found_alike strip now.pages was.pages i page same_pages at

-- ---- what is in flight stands on

module _ {D : Type 0} (g : Ghosts D) (o : Opening) (u v : Core D) (before : IsCore g u) (after : IsCore g v) (keeps : KeepsPages g u v) (runs : g.tells → (page_of_stamp : ℕ → Option PageOfStamp) × (tree : Tree) × CoreRepresentsTree g u page_of_stamp tree) where
  -- a page that was staged is so, under the name that it has now
  pub staged_on : (worker worker' i i' : ℕ) (call : Call) (place : ℕ) (p page : FlightPage) → slice_get (of_worker u.flight worker).pages i ≡ Some p → slice_get (of_worker v.flight worker').pages i' ≡ Some page → page.index ≡ p.index → page.tag ≡ p.tag
      → page.at.stamp ≡ p.at.stamp → IsStagedPage g u.device call place p → IsStagedPage g v.device call place page
  staged_on worker worker' i i' call place p page was is index tag stamp at = record {
    index = index ∙ at.index;
    tagged = ap (λ (t : Tag). t.index) tag ∙ (at.tagged ∙ sym index);
    whole = subst (λ n. IsSome (page_given call n)) (sym index) at.whole;
    given = λ tells.
        let k = runs tells in
        ap (page_given call) index
        ∙ (at.given tells ∙ ap Some (sym (same_bytes g u v before after keeps tells k.0 k.1 k.2 (p.tag, p.at) (page.tag, page.at) (in_carried u.flight worker p (has_found (of_worker u.flight worker).pages i p was)) (in_carried v.flight worker' page (has_found (of_worker v.flight worker').pages i' page is)) stamp)));
  }

  -- a line whose pages are those of before but for names
  pub line_on : (worker : ℕ) → nameless_line (of_worker v.flight worker) ≡ nameless_line (of_worker u.flight worker) → IsInFlight g o u.device worker (of_worker u.flight worker) → IsInFlight g o v.device worker (of_worker v.flight worker)
  line_on worker alike is = record {
    call = is.call;
    known = subst (λ l. IsLineOf o worker l is.call) (sym (same_line (of_worker u.flight worker) (of_worker v.flight worker) alike)) is.known;
    staged = λ i page at.
        let k = was_page (of_worker u.flight worker) (of_worker v.flight worker) alike i page at in
        staged_on worker worker i i is.call i k.0 page k.1 at (ap (λ (p : FlightPage). p.index) k.2) (ap (λ (p : FlightPage). p.tag) k.2) (ap (λ (p : FlightPage). p.at.stamp) k.2) (is.staged i k.0 k.1);
    fault = λ some.
        let same = same_fault (of_worker u.flight worker) (of_worker v.flight worker) alike in
        subst (IsSumSince (opening_counts o) (counts_of g v.device)) (sym same) (fault_laws.stays (opening_counts o) (counts_of g u.device) (counts_of g v.device) (of_worker u.flight worker).fault (is.fault (λ none. some (same ∙ none))) keeps.later);
  }

  pub one_on : (worker : ℕ) → nameless_line (of_worker v.flight worker) ≡ nameless_line (of_worker u.flight worker)
      → (((of_worker u.flight worker).line ≡ 0) × ((of_worker u.flight worker).fault ≡ 0)) ⊎ IsInFlight g o u.device worker (of_worker u.flight worker)
      → (((of_worker v.flight worker).line ≡ 0) × ((of_worker v.flight worker).fault ≡ 0)) ⊎ IsInFlight g o v.device worker (of_worker v.flight worker)
  one_on worker alike (inl none) = inl (same_line (of_worker u.flight worker) (of_worker v.flight worker) alike ∙ none.0, same_fault (of_worker u.flight worker) (of_worker v.flight worker) alike ∙ none.1)
  one_on worker alike (inr is) = inr (line_on worker alike is)

  -- where all lines are those of before but for names
  pub flight_on : KeepsLines u v → FlightIsOfLines g o u.device u.flight → FlightIsOfLines g o v.device v.flight
  flight_on same stands worker = one_on worker (line_alike u.flight v.flight worker same) (stands worker)

pub faults_on : {D : Type 0} (u v : Core D) → KeepsLines u v → FaultsStay u.flight v.flight
faults_on u v same worker = inl (same_fault (of_worker u.flight worker) (of_worker v.flight worker) (line_alike u.flight v.flight worker same))
