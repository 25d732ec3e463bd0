-- One callback is handled, and marked.
use Rattle.std.proofs.Common.{◌≡◌, ◌≢◌, ◌⊎◌, inl, inr, ⊎_elim, ℕ, ◌+◌, ◌≤◌, ◌<◌, Bool, true, false, List, length, map, Option, Some, None, refl, sym, ap, subst, ◌∙◌}
use Rattle.std.proofs.lemmas.Bool.{both_ways, cases_Bool, cases_eq}
use Rattle.nl_field.specs.Graph.{Graph}
use Rattle.nl_field.specs.Numbers.{ShapeBounds}
use Rattle.nl_field.specs.declared.pointer.Pointer.{Pointer}
use Rattle.nl_field.specs.declared.pointer.Tag.{Tag}
use Rattle.nl_flight.specs.Flight.{InFlight, carried, has_stamp, renamed, renamed_pointer}
use Rattle.nl_spec_holders.specs.Holding.{Holding, HoldsPages}
use Rattle.nl_spec_holders.specs.Laws.{PreservesHolding}
use Rattle.nl_spec_holders.specs.Lists.{Renames}
use Rattle.nl_spec_holders.proofs.LawProofs.{handle_keeps}
use Rattle.nl_iface.proofs.Stops.{keeps_medium_then}
use Rattle.nl_iface.specs.Calls.{KeepsMedium}
use Rattle.nl_iface.specs.Holders.{tagged, wants_tagged}
use Rattle.nl_iface.specs.Moves.{IsUnhandled, MarksHandled, first_handled}
use Rattle.nl_iface.specs.Names.{Has, Names, led}
use Rattle.nl_iface.specs.declared.Callback.{Callback}
use Rattle.nl_iface.specs.declared.counts.Counts.{Ghosts}
use Rattle.nl_meta.specs.Pages.{Pages}
use Rattle.nl_meta.specs.PointerLists.{tagged_in}
use Rattle.nl_meta.specs.Steps.{ChangesRunningPages}
use Rattle.nl_meta.proofs.PageProofs.{none}
use Rattle.nl_meta_running.specs.Running.{RunningIsRight, PreservesRunning, running_on}
use Rattle.nl_handler.specs.Handling.{CannotBeDirty, HandlesStored, IsElsewhere, list_has}
use Rattle.nl_handler.specs.Laws.{FlightRenames, FreeingRenames, HandledHolders, HandlerChangesPages, HandlerKeeps, HandlerAnswers}
use Rattle.nl_handler.specs.declared.answer.Handled.{Handled}
use Rattle.nl_handler.specs.declared.answer.Handled.TheVariants as handled
use Rattle.nl_core_callbacks.specs.Blocked.{IsBlocked}
use Rattle.nl_core_callbacks.specs.Handled.{HandlesSome, MarksSomeHandled, Volume, holding_on, nameless_body, volume}
use Rattle.nl_core_callbacks.proofs.Free.{free-stays}
use Rattle.nl_core_callbacks.proofs.Joined.{free-then, keeps-itself, marks-none}
use Rattle.nl_core_callbacks.proofs.Marked.{still-graph, still-runs, still-tagged, still-uses, tagged-same}
use Rattle.nl_core_callbacks.proofs.Nameless.{flight-nameless, flight-unmoved, freeing-nameless, freeing-unmoved}
use Rattle.nl_core_callbacks.proofs.Pages.{Alters, alters, alters-none, full-not, read-graph, still-full}

-- a callback that is marked by its number
pub marks-of : (c d : Callback) (transaction : ℕ) (s t u : Names) → t ≡ s → Has s.pending c → d.number ≡ c.number → MarksHandled d transaction t u → MarksHandled c transaction s u
marks-of c d transaction s t u same has number m = subst (λ (n : Names). MarksHandled c transaction n u) same (record {
  has = subst (λ (n : Names). Has n.pending c) (sym same) has;
  live = m.live;
  pairs = m.pairs;
  pending = m.pending;
  posted = m.posted;
  space = m.space;
  here = ap u.handled (sym number) ∙ m.here ∙ ap (λ (n : ℕ). first_handled (t.handled n) transaction) number;
  elsewhere = λ n off. m.elsewhere n (λ e. off (e ∙ number));
})

pub marks-some : (c : Callback) (transaction : ℕ) (s t : Names) → MarksHandled c transaction s t → MarksSomeHandled transaction s t
marks-some c transaction s t m = record {
  live = m.live;
  pairs = m.pairs;
  pending = m.pending;
  posted = m.posted;
  space = m.space;
  handled = λ n. by n (cases_eq n c.number) (s.handled c.number) refl;
}
  where
    by : (n : ℕ) → (n ≡ c.number) ⊎ (n ≢ c.number) → (o : Option ℕ) → s.handled c.number ≡ o → (t.handled n ≡ s.handled n) ⊎ (IsUnhandled s n × (t.handled n ≡ Some transaction))
    by n (inr off) o is = inl (m.elsewhere n off)
    by n (inl e) None none = inr ((c, m.has, sym e, ap s.handled e ∙ none), ap t.handled e ∙ m.here ∙ ap (λ (k : Option ℕ). first_handled k transaction) none)
    by n (inl e) (Some earlier) is = inl (ap t.handled e ∙ m.here ∙ ap (λ (k : Option ℕ). first_handled k transaction) is ∙ sym (ap s.handled e ∙ is))

-- no page elsewhere has the sequence number
nowhere-parts : (stamp : ℕ) (flight : List InFlight) (freeing : List Pointer) → (IsElsewhere stamp flight freeing → ⊥) → (has_stamp flight stamp ≡ false) × (list_has stamp freeing ≡ false)
nowhere-parts stamp flight freeing nowhere = (by (has_stamp flight stamp) refl, also (list_has stamp freeing) refl)
  where
    by : (b : Bool) → has_stamp flight stamp ≡ b → has_stamp flight stamp ≡ false
    by false e = e
    by true e = absurd (nowhere (inl e))

    also : (b : Bool) → list_has stamp freeing ≡ b → list_has stamp freeing ≡ false
    also false e = e
    also true e = absurd (nowhere (inr e))

elsewhere-or : (stamp : ℕ) (flight : List InFlight) (freeing : List Pointer) → IsElsewhere stamp flight freeing ⊎ (IsElsewhere stamp flight freeing → ⊥)
elsewhere-or stamp flight freeing = by (cases_Bool (has_stamp flight stamp)) (cases_Bool (list_has stamp freeing))
  where
    by : (has_stamp flight stamp ≡ true) ⊎ (has_stamp flight stamp ≡ false) → (list_has stamp freeing ≡ true) ⊎ (list_has stamp freeing ≡ false)
        → IsElsewhere stamp flight freeing ⊎ (IsElsewhere stamp flight freeing → ⊥)
    by (inl f) any = inl (inl f)
    by (inr f) (inl e) = inl (inr e)
    by (inr f) (inr e) = inr neither
      where
        neither : IsElsewhere stamp flight freeing → ⊥
        neither (inl x) = both_ways (has_stamp flight stamp) f x
        neither (inr x) = both_ways (list_has stamp freeing) e x

-- A call of the handler for a pending callback, over a volume that runs.
pub record Call {D : Type 0} (g : Ghosts D) (s : D) (p : Pages) (t : D) (q : Pages) (flight : List InFlight) (freeing : List Pointer) (c : Callback) (answer : Handled) : Type 0 where
  pub bounds : ShapeBounds (g.shape s)
  pub runs : RunningIsRight g s p
  pub pending : Has (g.names s).pending c
  pub does : HandlerAnswers g s p t q flight freeing c answer
  pub changes : HandlerChangesPages g

-- the volume after it: the lines in flight and the pointers that await their free have the name
abbrev pub volume_after : {D : Type 0} → Ghosts D → D → D → Pages → List InFlight → List Pointer → Callback → Volume D
volume_after g s u q flight freeing c = volume u q (renamed c.stamp (led (g.names s) c.before) flight) (map (renamed_pointer c.stamp (led (g.names s) c.before)) freeing)

-- What marks the callback after it.
pub record Mark {D : Type 0} (g : Ghosts D) (s t u : D) (q : Pages) (c : Callback) (answer : Handled) (transaction : ℕ) : Type 0 where
  pub is : (answer ≡ handled.Renamed) ⊎ (answer ≡ handled.Gone)
  pub runs : RunningIsRight g t q
  pub marks : MarksHandled c transaction (g.names s) (g.names u)
  pub kept : KeepsMedium g t u

-- the laws of those that hold pages
pub record HolderLaws {D : Type 0} (g : Ghosts D) : Type 0 where
  pub keeps : HandlerKeeps g
  pub flies : FlightRenames
  pub awaits : FreeingRenames

module _ {D : Type 0} {g : Ghosts D} {s : D} {p : Pages} {t : D} {q : Pages} {flight : List InFlight} {freeing : List Pointer} {c : Callback} {answer : Handled}
    (call : Call g s p t q flight freeing c answer) where
  abbrev place : ℕ
  place = led (g.names s) c.before

  abbrev before : Volume D
  before = volume s p flight freeing

  pub altered : Alters g s p t q
  altered = by (elsewhere-or c.stamp flight freeing)
    where
      by : IsElsewhere c.stamp flight freeing ⊎ (IsElsewhere c.stamp flight freeing → ⊥) → Alters g s p t q
      by (inl here) = let x = call.does.elsewhere here in alters-none g s p t q call.bounds call.runs x.1 x.2
      by (inr nowhere) = alters g s p t q call.bounds call.runs c.tag c.stamp place answer (call.does.stored nowhere)

  pages-changed : ChangesRunningPages p q
  pages-changed = by (elsewhere-or c.stamp flight freeing)
    where
      by : IsElsewhere c.stamp flight freeing ⊎ (IsElsewhere c.stamp flight freeing → ⊥) → ChangesRunningPages p q
      by (inl here) = subst (ChangesRunningPages p) (sym (call.does.elsewhere here).1) (none p)
      by (inr nowhere) = call.changes s p t q c.tag c.stamp place answer (call.does.stored nowhere)

  pub handled-few : length q.dirty ≤ length p.dirty + 1
  handled-few = altered.few

  -- ---- it was handled

  module _ {u : D} {transaction : ℕ} (mark : Mark g s t u q c answer transaction) where
    after-bounds : ShapeBounds (g.shape t)
    after-bounds = subst ShapeBounds (sym altered.reads.medium.virtual.same_shape) call.bounds

    pub handled-runs : RunningIsRight g u q
    handled-runs = still-runs g t u q after-bounds mark.runs mark.kept.virtual

    same-tagged : tagged_in (g.shape u) (running_on g u q) ≡ tagged_in (g.shape t) (running_on g t q)
    same-tagged = still-tagged g t u q after-bounds mark.runs mark.kept.virtual

    renames-running : HandledHolders g s p t q c answer → (answer ≡ handled.Renamed) ⊎ (answer ≡ handled.Gone)
        → Renames tagged wants_tagged c.stamp place (tagged_in (g.shape s) (running_on g s p)) (tagged_in (g.shape u) (running_on g u q))
    renames-running holders (inl e) = subst (λ (list : List (Tag × Pointer)). Renames tagged wants_tagged c.stamp place (tagged_in (g.shape s) (running_on g s p)) list) (sym same-tagged) (holders.running e)
    renames-running holders (inr e) = absurd (holders.never_gone e)

    holders-keep : HolderLaws g → (h : Holding) → h.number < transaction → HoldsPages (holding_on g before h) → PreservesHolding (holding_on g before h) (holding_on g (volume_after g s u q flight freeing c) h)
    holders-keep laws h later f =
        let rest = laws.awaits c.stamp place freeing in
        handle_keeps (holding_on g before h) (g.names u) c transaction later mark.marks
        (tagged_in (g.shape u) (running_on g u q)) (carried (renamed c.stamp place flight)) (map (renamed_pointer c.stamp place) freeing)
        (renames-running (laws.keeps s p t q flight freeing c answer call.runs f.table f.held call.pending call.does) mark.is) (laws.flies c.stamp place flight) rest.0 rest.1

    pub handled-some : HolderLaws g → HandlesSome g transaction before (volume_after g s u q flight freeing c)
    handled-some laws = record {
      marks = marks-some c transaction (g.names s) (g.names u) mark.marks;
      holders = λ h later. record { holds = λ f. (holders-keep laws h later f).holds f; committed = λ f safe. (holders-keep laws h later f).committed f safe };
      nodes = let same = still-graph g t u q after-bounds mark.runs mark.kept.virtual in record {
        generation = λ n. ap (λ (graph : Graph). (graph n).generation) same ∙ altered.nodes.generation n;
        body = λ n. ap (λ (graph : Graph). nameless_body (graph n).body) same ∙ altered.nodes.body n;
      };
      free = free-then g before (volume t q flight freeing) (volume_after g s u q flight freeing c)
          (free-stays g before (volume t q flight freeing) altered.reads.medium.virtual.same_shape altered.uses)
          (free-stays g (volume t q flight freeing) (volume_after g s u q flight freeing c) mark.kept.virtual.same_shape (still-uses g t u q after-bounds mark.runs mark.kept.virtual));
      pages = pages-changed;
      dirty = altered.dirty;
      flight = flight-nameless c.stamp place flight;
      names = λ x has. ⊎_elim (λ off. inl off.1) (λ here. inr (c, call.pending, here.0)) ((laws.flies c.stamp place flight).each x has);
      freeing = freeing-nameless c.stamp place freeing;
      medium = keeps_medium_then g s t u altered.reads.medium mark.kept;
    }

    pub handled-not-full : IsBlocked g before c → ⊥
    handled-not-full b = full-not g s p t q call.bounds call.runs c.tag c.stamp place answer mark.is (call.does.stored b.nowhere) b.full

  -- ---- it was left

  module _ (other : answer ≡ handled.Renamed → ⊥) (on : PreservesRunning g s p t q) where
    nowhere : IsElsewhere c.stamp flight freeing → ⊥
    nowhere here = other (call.does.elsewhere here).0

    same-flight : renamed c.stamp place flight ≡ flight
    same-flight = flight-unmoved c.stamp place flight (nowhere-parts c.stamp flight freeing nowhere).0

    same-freeing : map (renamed_pointer c.stamp place) freeing ≡ freeing
    same-freeing = freeing-unmoved c.stamp place freeing (nowhere-parts c.stamp flight freeing nowhere).1

    same-holding : (h : Holding) → holding_on g (volume_after g s t q flight freeing c) h ≡ holding_on g before h
    same-holding h =
        let lists = tagged-same (g.shape s) (g.shape t) (running_on g s p) (running_on g t q) on.reads.medium.virtual.same_shape (read-graph g s p t q call.bounds call.runs on) in
        λ i. record h { names = on.reads.names i; running = lists i; flight = carried (same-flight i); freeing = same-freeing i }

    pub left-same : (g.names t ≡ g.names s) × (q.dirty ≡ p.dirty)
    left-same = (on.reads.names, on.dirty)

    pub left-some : (transaction : ℕ) → HandlesSome g transaction before (volume_after g s t q flight freeing c)
    left-some transaction = record {
      marks = marks-none transaction (g.names s) (g.names t) on.reads.names;
      holders = λ h later. subst (λ (k : Holding). PreservesHolding (holding_on g before h) k) (sym (same-holding h)) (keeps-itself (holding_on g before h));
      nodes = altered.nodes;
      free = free-stays g before (volume_after g s t q flight freeing c) altered.reads.medium.virtual.same_shape altered.uses;
      pages = pages-changed;
      dirty = altered.dirty;
      flight = flight-nameless c.stamp place flight;
      names = λ x has. inl (subst (λ (fs : List InFlight). Has (carried fs) x) same-flight has);
      freeing = freeing-nameless c.stamp place freeing;
      medium = on.reads.medium;
    }

    pub left-blocked : CannotBeDirty (g.shape s) (running_on g s p) p c.tag c.stamp → IsBlocked g (volume_after g s t q flight freeing c) c
    left-blocked full = record {
      nowhere = λ here. nowhere (subst (λ (fs : List InFlight). IsElsewhere c.stamp fs freeing) same-flight
          (subst (λ (ps : List Pointer). IsElsewhere c.stamp (renamed c.stamp place flight) ps) same-freeing here));
      full = still-full g s p t q call.bounds call.runs on c.tag c.stamp full;
    }

  -- by the answer
  pub left-as : (a : Handled) → (a ≡ handled.Renamed → ⊥) → answer ≡ a → (answer ≡ handled.Renamed → ⊥) × HandlesStored g s p t q c.tag c.stamp place a
  left-as a off e = (λ r. off (sym e ∙ r), subst (λ (b : Handled). HandlesStored g s p t q c.tag c.stamp place b) e (call.does.stored (λ here. off (sym e ∙ (call.does.elsewhere here).0))))

-- an answer that is another one
pub no-room-other : handled.NoRoom ≡ handled.Renamed → ⊥
no-room-other e = cc

pub fault-other : handled.Fault ≡ handled.Renamed → ⊥
fault-other e = cc

pub lost-other : (w f : ℕ) → handled.Lost w f ≡ handled.Renamed → ⊥
lost-other w f e = cc

-- the mark of a device, which names the callback by its number
pub marks-by : (c : Callback) (transaction : ℕ) (s t u : Names) (answer : Bool) → t ≡ s → Has s.pending c → (answer ≡ true → (d : Callback) × (d.number ≡ c.number) × MarksHandled d transaction t u)
    → (answer ≡ false → (d : Callback) → Has t.pending d → d.number ≢ c.number) → MarksHandled c transaction s u
marks-by c transaction s t u answer same has marked none = by (cases_Bool answer)
  where
    by : (answer ≡ true) ⊎ (answer ≡ false) → MarksHandled c transaction s u
    by (inl e) = let m = marked e in marks-of c m.0 transaction s t u same has m.1 m.2
    by (inr e) = absurd (none e c (subst (λ (n : Names). Has n.pending c) (sym same) has) refl)

-- what is said of a volume whose lines and pointers are given
pub as-after : {D : Type 0} (g : Ghosts D) (transaction : ℕ) (v : Volume D) (u : D) (q : Pages) (fs gs : List InFlight) (ps rs : List Pointer) → gs ≡ fs → rs ≡ ps
    → HandlesSome g transaction v (volume u q fs ps) → HandlesSome g transaction v (volume u q gs rs)
as-after {D} g transaction v u q fs gs ps rs lines pointers h = subst (λ (w : Volume D). HandlesSome g transaction v w) (λ i. volume u q (sym lines i) (sym pointers i)) h

pub blocked-after : {D : Type 0} (g : Ghosts D) (c : Callback) (u : D) (q : Pages) (fs gs : List InFlight) (ps rs : List Pointer) → gs ≡ fs → rs ≡ ps
    → IsBlocked g (volume u q fs ps) c → IsBlocked g (volume u q gs rs) c
blocked-after {D} g c u q fs gs ps rs lines pointers h = subst (λ (w : Volume D). IsBlocked g w c) (λ i. volume u q (sym lines i) (sym pointers i)) h
