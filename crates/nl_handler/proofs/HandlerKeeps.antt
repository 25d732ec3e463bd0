-- A volume that holds its pages still does where a callback was handled.
use Rattle.std.proofs.Common.{◌≡◌, ◌≢◌, ◌⊎◌, inl, inr, ℕ, ◌+◌, ◌≤◌, ◌==◌, ◌&&◌, ◌||◌, Bool, true, false, not, List, [], ◌∷◌, map, Some, refl, sym, ap, subst, ◌∙◌, arith}
use Rattle.std.proofs.lemmas.Bool.{and_from, both_ways, cases_Bool, cases_eq, eq-eqb, ne_eqb}
use Rattle.std.specs.List.{list_any}
use Rattle.nl_field.specs.Pointers.{is_none_pointer}
use Rattle.nl_field.specs.declared.pointer.Pointer.{Pointer}
use Rattle.nl_field.specs.declared.pointer.Tag.{Tag}
use Rattle.nl_field.specs.declared.shape.Shape.{Shape}
use Rattle.nl_flight.specs.Flight.{InFlight, carried, has_stamp, line_has_stamp}
use Rattle.nl_flight.specs.declared.page.FlightPage.{FlightPage}
use Rattle.nl_spec_holders.specs.Lists.{Renames}
use Rattle.nl_spec_holders.proofs.Lists.{one_no, one_yes, renames_none, times_append, times_has}
use Rattle.nl_iface.specs.Holders.{IsHeld, IsRef, always, one, plain, tagged, times, wants_tagged}
use Rattle.nl_iface.specs.Names.{Has, IsTableOfNames, LivePage, led, told_page}
use Rattle.nl_iface.specs.declared.Callback.{Callback}
use Rattle.nl_iface.specs.declared.counts.Counts.{Ghosts}
use Rattle.nl_meta.specs.Nodes.{pointer_at}
use Rattle.nl_meta.specs.Pages.{Pages}
use Rattle.nl_meta.specs.PointerLists.{tagged_in}
use Rattle.nl_meta.proofs.Lists.{some_in}
use Rattle.nl_meta_running.specs.Running.{RunningIsRight, running_on}
use Rattle.nl_handler.specs.Handling.{HandlesStored, HoldsTagged, IsElsewhere, RenamesOn, TagsFile, list_has}
use Rattle.nl_handler.specs.Laws.{HandledHolders, HandlerKeeps, HandlerAnswers, holders_on}
use Rattle.nl_handler.specs.declared.answer.Handled.{Handled}
use Rattle.nl_handler.specs.declared.answer.Handled.TheVariants as handled
use Rattle.nl_handler.proofs.HolderPlace.{StandsAt, stands}
use Rattle.nl_handler.proofs.HoldersRenamed.{stored_renames}

-- ---- how often a sequence number stands in a list

any-true : {X : Type 0} (at : X → Pointer) (s : ℕ) (xs : List X) → list_any (λ x. (at x).stamp == s) xs ≡ true → 1 ≤ times at s xs
any-true at s [] e = absurd (both_ways false refl e)
any-true {X} at s (x ∷ xs) e = by (any-true at s xs) (cases_eq (at x).stamp s)
  where
    by : (list_any (λ y. (at y).stamp == s) xs ≡ true → 1 ≤ times at s xs) → ((at x).stamp ≡ s) ⊎ ((at x).stamp ≢ s) → 1 ≤ one (at x).stamp s + times at s xs
    by rest (inl same) = let n = one_yes (at x).stamp s same in omega (arith, n)
    by rest (inr far) =
        let h = rest (ap (λ (b : Bool). b || list_any (λ y. (at y).stamp == s) xs) (sym (ne_eqb (at x).stamp s far)) ∙ e) in
        omega (arith, h)

any-false : {X : Type 0} (at : X → Pointer) (s : ℕ) (xs : List X) → list_any (λ x. (at x).stamp == s) xs ≡ false → times at s xs ≡ 0
any-false at s [] e = refl
any-false {X} at s (x ∷ xs) e = by (any-false at s xs) (cases_eq (at x).stamp s)
  where
    by : (list_any (λ y. (at y).stamp == s) xs ≡ false → times at s xs ≡ 0) → ((at x).stamp ≡ s) ⊎ ((at x).stamp ≢ s) → one (at x).stamp s + times at s xs ≡ 0
    by rest (inl same) = absurd (both_ways (((at x).stamp == s) || list_any (λ y. (at y).stamp == s) xs) e (ap (λ (b : Bool). b || list_any (λ y. (at y).stamp == s) xs) (eq-eqb (at x).stamp s same)))
    by rest (inr far) =
        let n = one_no (at x).stamp s far in
        let h = rest (ap (λ (b : Bool). b || list_any (λ y. (at y).stamp == s) xs) (sym (ne_eqb (at x).stamp s far)) ∙ e) in
        omega (arith, n, h)

abbrev at-page : FlightPage → Pointer
at-page page = page.at

abbrev shown : FlightPage → Tag × Pointer
shown page = (page.tag, page.at)

line-times : (s : ℕ) (pages : List FlightPage) → times tagged s (map shown pages) ≡ times at-page s pages
line-times s [] = refl
line-times s (page ∷ pages) = ap (λ (n : ℕ). one page.at.stamp s + n) (line-times s pages)

flight-true : (s : ℕ) (flight : List InFlight) → has_stamp flight s ≡ true → 1 ≤ times tagged s (carried flight)
unfolding carried
flight-true s [] e = absurd (both_ways false refl e)
flight-true s (now ∷ flight) e = by (flight-true s flight) (cases_Bool (line_has_stamp s now))
  where
    sum : times tagged s (carried (now ∷ flight)) ≡ times at-page s now.pages + times tagged s (carried flight)
    sum = times_append tagged s (map shown now.pages) (carried flight) ∙ ap (λ (n : ℕ). n + times tagged s (carried flight)) (line-times s now.pages)

    by : (has_stamp flight s ≡ true → 1 ≤ times tagged s (carried flight)) → (line_has_stamp s now ≡ true) ⊎ (line_has_stamp s now ≡ false) → 1 ≤ times tagged s (carried (now ∷ flight))
    by rest (inl here) = let h = any-true at-page s now.pages here in omega (arith, h, sum)
    by rest (inr none) = let h = rest (ap (λ (b : Bool). b || has_stamp flight s) (sym none) ∙ e) in omega (arith, h, sum)

flight-false : (s : ℕ) (flight : List InFlight) → has_stamp flight s ≡ false → times tagged s (carried flight) ≡ 0
unfolding carried
flight-false s [] e = refl
flight-false s (now ∷ flight) e = by (flight-false s flight) (cases_Bool (line_has_stamp s now))
  where
    sum : times tagged s (carried (now ∷ flight)) ≡ times at-page s now.pages + times tagged s (carried flight)
    sum = times_append tagged s (map shown now.pages) (carried flight) ∙ ap (λ (n : ℕ). n + times tagged s (carried flight)) (line-times s now.pages)

    by : (has_stamp flight s ≡ false → times tagged s (carried flight) ≡ 0) → (line_has_stamp s now ≡ true) ⊎ (line_has_stamp s now ≡ false) → times tagged s (carried (now ∷ flight)) ≡ 0
    by rest (inl here) = absurd (both_ways (line_has_stamp s now || has_stamp flight s) e (ap (λ (b : Bool). b || has_stamp flight s) here))
    by rest (inr none) =
        let m = any-false at-page s now.pages none in
        let h = rest (ap (λ (b : Bool). b || has_stamp flight s) (sym none) ∙ e) in
        omega (arith, m, h, sum)

-- ---- the callback's page

gone-renamed : handled.Gone ≡ handled.Renamed → ⊥
gone-renamed e = cc

module _ {D : Type 0} (g : Ghosts D) (s : D) (p : Pages) (t : D) (q : Pages) (flight : List InFlight) (freeing : List Pointer) (c : Callback) (answer : Handled)
    (runs : RunningIsRight g s p) (table : IsTableOfNames (g.names s)) (held : IsHeld (g.names s) (holders_on g s p flight freeing)) (pending : Has (g.names s).pending c)
    (does : HandlerAnswers g s p t q flight freeing c answer) where
  abbrev running : List (Tag × Pointer)
  running = tagged_in (g.shape s) (running_on g s p)

  abbrev place : ℕ
  place = led (g.names s) c.before

  called : (g.names s).live place ≡ Some (told_page c)
  called = table.called c pending

  -- a holder of its number has its tag
  tag-of : (x : Tag × Pointer) → Has running x → x.1.stamp ≡ c.stamp → x.0 ≡ c.tag
  tag-of x has e = sym ref.leads.2.0 ∙ ap (λ (d : LivePage). d.tag) same
    where
      ref : IsRef (g.names s) always (wants_tagged x) x.1.name
      ref = held.running x has

      one-place : led (g.names s) x.1.name ≡ place
      one-place = table.stamps_differ (led (g.names s) x.1.name) place ref.leads.0 (told_page c) ref.leads.1 called (ref.leads.2.1 ∙ e)

      same : ref.leads.0 ≡ told_page c
      same = some_in ref.leads.0 (told_page c) (sym ref.leads.1 ∙ ap (g.names s).live one-place ∙ called)

  -- where a holder of its number has its tag, the metadata has it where the tag says
  holds-tagged : 1 ≤ times tagged c.stamp running → HoldsTagged (g.shape s) (running_on g s p) c.tag c.stamp
  holds-tagged h = (
    at.rec,
    record {
      file = subst (λ (tag : Tag). TagsFile (g.shape s) (running_on g s p) tag at.rec) same at.file;
      pointer = ap (λ (k : Pointer). not (is_none_pointer k) && (k.stamp == c.stamp)) (ap (λ (tag : Tag). pointer_at (running_on g s p) at.rec tag.index) (sym same) ∙ at.at)
          ∙ and_from (not (is_none_pointer x.0.1)) (x.0.1.stamp == c.stamp) (ap not at.some) (eq-eqb x.0.1.stamp c.stamp x.2);
    },
  )
    where
      x : (h : Tag × Pointer) × Has running h × (h.1.stamp ≡ c.stamp)
      x = times_has tagged running c.stamp h

      at : StandsAt (g.shape s) (running_on g s p) x.0
      at = stands (g.shape s) (running_on g s p) runs.addresses x.0 x.1

      same : x.0.0 ≡ c.tag
      same = tag-of x.0 x.1 x.2

  -- the page has a holder, and one alone
  some-holder : 1 ≤ times tagged c.stamp running + times tagged c.stamp (carried flight) + times plain c.stamp freeing
  some-holder = held.each place (told_page c) called

  one-holder : times tagged c.stamp running + times tagged c.stamp (carried flight) + times plain c.stamp freeing ≤ 1
  one-holder = held.once c.stamp

  elsewhere-none : IsElsewhere c.stamp flight freeing → times tagged c.stamp running ≡ 0
  elsewhere-none (inl e) = let h = flight-true c.stamp flight e in omega (arith, h, one-holder)
  elsewhere-none (inr e) = let h = any-true plain c.stamp freeing e in omega (arith, h, one-holder)

  stored-some : has_stamp flight c.stamp ≡ false → list_has c.stamp freeing ≡ false → 1 ≤ times tagged c.stamp running
  stored-some f e = let h = flight-false c.stamp flight f in let k = any-false plain c.stamp freeing e in omega (arith, h, k, some-holder)

  decide : IsElsewhere c.stamp flight freeing ⊎ ((IsElsewhere c.stamp flight freeing → ⊥) × (1 ≤ times tagged c.stamp running))
  decide = by (cases_Bool (has_stamp flight c.stamp)) (cases_Bool (list_has c.stamp freeing))
    where
      by : (has_stamp flight c.stamp ≡ true) ⊎ (has_stamp flight c.stamp ≡ false) → (list_has c.stamp freeing ≡ true) ⊎ (list_has c.stamp freeing ≡ false)
          → IsElsewhere c.stamp flight freeing ⊎ ((IsElsewhere c.stamp flight freeing → ⊥) × (1 ≤ times tagged c.stamp running))
      by (inl f) any = inl (inl f)
      by (inr f) (inl e) = inl (inr e)
      by (inr f) (inr e) = inr (neither, stored-some f e)
        where
          neither : IsElsewhere c.stamp flight freeing → ⊥
          neither (inl x) = both_ways (has_stamp flight c.stamp) f x
          neither (inr x) = both_ways (list_has c.stamp freeing) e x

  few : times tagged c.stamp running ≤ 1
  few = omega (arith, one-holder)

  never-gone : answer ≡ handled.Gone → ⊥
  never-gone e = by decide
    where
      by : IsElsewhere c.stamp flight freeing ⊎ ((IsElsewhere c.stamp flight freeing → ⊥) × (1 ≤ times tagged c.stamp running)) → ⊥
      by (inl here) = gone-renamed (sym e ∙ (does.elsewhere here).0)
      by (inr k) = (subst (λ (a : Handled). HandlesStored g s p t q c.tag c.stamp place a) e (does.stored k.0)).0 (holds-tagged k.1)

  renamed : answer ≡ handled.Renamed → Renames tagged wants_tagged c.stamp place running (tagged_in (g.shape t) (running_on g t q))
  renamed e = by decide
    where
      by : IsElsewhere c.stamp flight freeing ⊎ ((IsElsewhere c.stamp flight freeing → ⊥) × (1 ≤ times tagged c.stamp running))
          → Renames tagged wants_tagged c.stamp place running (tagged_in (g.shape t) (running_on g t q))
      by (inl here) =
          subst (λ (u : D). Renames tagged wants_tagged c.stamp place running (tagged_in (g.shape u) (running_on g u q))) (sym (does.elsewhere here).2)
          (subst (λ (r : Pages). Renames tagged wants_tagged c.stamp place running (tagged_in (g.shape s) (running_on g s r))) (sym (does.elsewhere here).1)
          (renames_none tagged wants_tagged c.stamp place running (elsewhere-none here)))
      by (inr k) =
          let on : RenamesOn g s p t q c.tag c.stamp place = subst (λ (a : Handled). HandlesStored g s p t q c.tag c.stamp place a) e (does.stored k.0) in
          subst (λ (n : Shape). Renames tagged wants_tagged c.stamp place running (tagged_in n (running_on g t q))) (sym on.reads.medium.virtual.same_shape)
          (stored_renames (g.shape s) (running_on g s p) (running_on g t q) c.tag c.stamp place few on.renames)

  pub holders : HandledHolders g s p t q c answer
  holders = record { never_gone = never-gone; running = renamed }

pub handler_keeps : {D : Type 0} (g : Ghosts D) → HandlerKeeps g
handler_keeps g s p t q flight freeing c answer runs table held pending does = holders g s p t q flight freeing c answer runs table held pending does
