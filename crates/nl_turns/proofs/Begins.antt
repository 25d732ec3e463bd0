-- The lock from before its opening is picked: the steps of the rule for one opening are steps of the lock.
use Rattle.std.proofs.Common.{◌≡◌, inl, inr, ℕ, zero, suc, ◌+◌, ◌%◌, ◌^◌, ◌<◌, ◌≤◌, true, false, List, [], ◌∷◌, ◌++◌, get_or, set, refl, sym, ap, ◌∙◌, subst, Option, Some, None, true≢false}
use mathlib.Core.Option.{some, some-ne-none, some-injective}
use lib.ListN.{get_elem?}
use Rattle.atomic_table.specs.Table.{State, Me, keeps, Allows, Splits, Joins, Final, Seen, opening}
use Rattle.nl_turns.specs.History.{Opening}
use Rattle.nl_turns.specs.Seat.{Passed, passed_by}
use Rattle.nl_turns.specs.View.{blank, idle, waits, enters, inside, leaves, hosts, is_blank, View}
use Rattle.nl_turns.specs.Rule.{is_living, HostFits, At, IsTicketLock, IsLock, blank_view}
use Rattle.nl_turns.specs.Steps.{after_split, newcomer, after_join, spent_view, begins, draws, looks, parks, fetches, adds, settles}
use Rattle.nl_turns.specs.declared.entry.Entry.{Entry}
use Rattle.nl_turns.proofs.TurnSteps.{draw_keeps, look_keeps, park_keeps, fetch_keeps, add_keeps}
use Rattle.nl_turns.proofs.Seating.{settle_keeps, split_keeps, join_keeps}
use Rattle.nl_turns.proofs.Moves.{any}
use Rattle.nl_turns.proofs.Ends.{start_keeps, end_tells}

module _ {V : Type 0} (stands : Opening → List Passed → V → Type 0) (origin : V) (seats : ℕ) where
  abbrev St : Type 0
  St = State (Option V) View

  abbrev Lock : St → Type 0
  Lock = IsLock stands origin seats

  abbrev Rule : Opening → St → Type 0
  Rule o = IsTicketLock stands o seats

  abbrev made : St
  made = opening (0 ∷ 0 ∷ []) (Some origin ∷ []) (blank_view seats)

  only_view : (id : ℕ) (v : View) → At (blank_view seats ∷ []) id v → (id ≡ 0) × (v ≡ blank_view seats)
  only_view zero v e = (refl, sym (some-injective _ _ e))
  only_view (suc id) v e = absurd (some-ne-none v (sym e))

  -- once some seat is not blank, the opening was picked
  began : (s : St) → Lock s → (id : ℕ) (v : View) → At s.views id v → is_blank v.role ≡ false → (o : Opening) × Rule o s
  began s (inr r) id v at seen = r
  began s (inl b) id v at seen =
      let at' : At (blank_view seats ∷ []) id v = subst (λ (z : St). At z.views id v) b.0 at in
      absurd (true≢false (sym (ap (λ (z : View). is_blank z.role) (only_view id v at').1) ∙ seen))

  allows : (slots id : ℕ) (m : Me (Option V) View) (i : ℕ) (f : ℕ → ℕ) (then : ℕ → Me (Option V) View → Type 0)
      → is_blank m.0.role ≡ false → ((o : Opening) → Allows (Rule o) slots id m i f then) → Allows Lock slots id m i f then
  allows slots id m i f then seen each s r deep at small =
      let b = began s r id m.0 at seen in
      let h = each b.0 s b.1 deep at small in
      (h.0, h.1, h.2, inr (b.0, h.3), h.4)

  pub lock_draws : (slots id : ℕ) (m : Me (Option V) View) → m.0.role ≡ idle → Allows Lock slots id m 0 (λ n. (n + 1) % 2 ^ 64) (draws any m)
  lock_draws slots id m is = allows slots id m 0 (λ n. (n + 1) % 2 ^ 64) (draws any m) (ap is_blank is) (λ o. draw_keeps stands o seats slots id m is)

  pub lock_looks : (slots id : ℕ) (m : Me (Option V) View) (t : ℕ) → m.0.role ≡ waits t → Allows Lock slots id m 1 (λ n. n) (looks stands any m)
  lock_looks slots id m t is = allows slots id m 1 (λ n. n) (looks stands any m) (ap is_blank is) (λ o. look_keeps stands o seats slots id m t is)

  pub lock_parks : (slots id : ℕ) (m : Me (Option V) View) (t : ℕ) → m.0.role ≡ enters t → m.1 ≡ (0, None) ∷ [] → Allows Lock slots id m 1 (λ n. n) (parks any m)
  lock_parks slots id m t is empty = allows slots id m 1 (λ n. n) (parks any m) (ap is_blank is) (λ o. park_keeps stands o seats slots id m t is empty)

  pub lock_fetches : (slots id : ℕ) (m : Me (Option V) View) (t : ℕ) → m.0.role ≡ inside t → Allows Lock slots id m 1 (λ n. n) (fetches any m)
  lock_fetches slots id m t is = allows slots id m 1 (λ n. n) (fetches any m) (ap is_blank is) (λ o. fetch_keeps stands o seats slots id m t is)

  pub lock_adds : (slots id : ℕ) (m : Me (Option V) View) (e : Entry) (t : ℕ) (y : V) → m.0.role ≡ leaves t → m.1 ≡ (0, Some y) ∷ []
      → stands m.0.opening (m.0.seen ++ passed_by m.0.number e ∷ []) y → Allows Lock slots id m 1 (λ n. (n + 1) % 2 ^ 64) (adds e any m)
  lock_adds slots id m e t y is has stood =
      allows slots id m 1 (λ n. (n + 1) % 2 ^ 64) (adds e any m) (ap is_blank is) (λ o. add_keeps stands o seats slots id m e t y is has stood)

  pub lock_settles : (slots id : ℕ) (m : Me (Option V) View) (n : ℕ) (xs ys : List Passed) → m.0.role ≡ hosts n xs ys → Allows Lock slots id m 0 (λ n. n) (settles any m)
  lock_settles slots id m n xs ys is = allows slots id m 0 (λ n. n) (settles any m) (ap is_blank is) (λ o. settle_keeps stands o seats slots id m n xs ys is)

  pub lock_splits : (id : ℕ) (v : View) → v.role ≡ idle → v.number ≡ 0 → 0 < v.places → Splits Lock id v (after_split v) (newcomer v)
  lock_splits id v is first some_place s r at = let b = began s r id v at (ap is_blank is) in inr (b.0, split_keeps stands b.0 seats id v is first some_place s b.1 at)

  pub lock_joins : (id : ℕ) (v : View) (other : ℕ) (w : View) → v.role ≡ idle → v.number ≡ 0 → w.role ≡ idle → Joins Lock id v other w (after_join v w) spent_view
  lock_joins id v other w is first is' s r at apart there =
      let b = began s r id v at (ap is_blank is) in
      inr (b.0, join_keeps stands b.0 seats id v other w is first is' s b.1 at apart there)

  pub lock_end : (id : ℕ) (v : View) (ws : List ℕ) (xs : List (Option V)) → v.role ≡ idle → v.number ≡ 0 → v.places + 1 ≡ seats → Final (Seen Lock id v) ws xs
      → (y : V) × (get_elem? xs 0 ≡ some (Some y)) × stands v.opening v.seen y
  lock_end id v ws xs at_rest first places final =
      let s = final.0 in
      let b = began s final.1.0 id v final.1.1 (ap is_blank at_rest) in
      end_tells stands b.0 seats id v ws xs at_rest first places (s, (b.1, final.1.1), final.2, final.3, final.4)

  pub lock_start : 0 < seats → seats ≤ 10 → Lock made
  lock_start some_seat few = inl (refl, some_seat, few)

  -- the first seat picks the opening
  pub begin_keeps : (slots id : ℕ) (m : Me (Option V) View) (o : Opening) → m.0.role ≡ blank → stands o [] origin → Allows Lock slots id m 0 (λ n. n) (begins o any m)
  begin_keeps slots id m o is stood s (inr r) deep at small =
      let living : is_living m.0.role ≡ true = ap is_living is in
      absurd (subst (HostFits m.0) is (r.1.each id m.0 at living).host)
  begin_keeps slots id m o is stood s (inl b) deep at small =
      let at' : At (blank_view seats ∷ []) id m.0 = subst (λ (z : St). At z.views id m.0) b.0 at in
      let is_first = only_view id m.0 at' in
      let rule : Rule o record { words = set made.words 0 (get_or made.words 0 0); homes = made.homes; views = set made.views 0 (record (blank_view seats) { role = idle; opening = o }) } = start_keeps stands o seats origin b.1 b.2 stood in (
        record m.0 { role = idle; opening = o },
        keeps,
        tt,
        inr (o, subst (λ (z : St × ℕ × View). Rule o record { words = set z.0.words 0 (get_or z.0.words 0 0); homes = z.0.homes; views = set z.0.views z.1 (record z.2 { role = idle; opening = o }) }) (λ i. (sym b.0 i, sym is_first.0 i, sym is_first.1 i)) rule),
        refl,
      )
