-- A split and a join keep the rule.
use Rattle.std.proofs.Common.{◌≡◌, ◌≢◌, ℕ, ◌+◌, ◌-◌, ◌<◌, true, false, cond, List, [], ◌∷◌, ◌++◌, length, get_or, set, refl, sym, ap, ◌∙◌, subst, ⊎_elim, arith, length-set, Option, true≢false, lt_of_not-le}
use Rattle.std.specs.Prelude.{Contains}
use mathlib.Core.Logic.{dite}
use mathlib.Core.Option.{some, some-injective}
use mathlib.Core.List.{IsPrefix}
use native.Mathlib.Decide.{ℕ_discrete}
use lib.ListN.{get_elem?}
use lib.Seq.{set-get_or}
use Rattle.std.proofs.lemmas.List.Sums.{sum_by_push}
use Rattle.atomic_table.specs.Table.{State, Me, keeps, Allows, Splits, Joins}
use Rattle.atomic_table.proofs.Lists.{at_set, set_here, set_else, at_longer, at_last}
use Rattle.nl_turns.specs.History.{Opening}
use Rattle.nl_turns.specs.Seat.{Passed}
use Rattle.nl_turns.specs.View.{idle, hosts}
use Rattle.nl_turns.specs.View.{View}
use Rattle.nl_turns.specs.Seat.{by_seat, longer}
use Rattle.nl_turns.specs.Rule.{has_any_ticket, is_living, IsTurn, Truth, ViewFits, At, HostFits, IsTicketLock}
use Rattle.nl_turns.specs.Steps.{after_split, newcomer, after_join, spent_view, settles}
use Rattle.nl_turns.proofs.Views.{put, put_here, put_else, at_get, count_set, one_there, at_end, contains_more}
use Rattle.nl_turns.proofs.Histories.{between, none_by, none_before, longer_is}
use Rattle.nl_turns.proofs.Moves.{one_if, zero_if, any, moves}

module _ {V : Type 0} (stands : Opening → List Passed → V → Type 0) (o : Opening) (seats : ℕ) where
  abbrev St : Type 0
  St = State (Option V) View

  abbrev Rule : St → Type 0
  Rule = IsTicketLock stands o seats

  -- a read of word 0 puts the first seat at rest after a join
  pub settle_keeps : (slots id : ℕ) (m : Me (Option V) View) (n : ℕ) (xs ys : List Passed) → m.0.role ≡ hosts n xs ys → Allows Rule slots id m 0 (λ n. n) (settles (any) m)
  settle_keeps slots id m n xs ys is s r deep at small =
      let k : Truth = r.truth in
      let living : is_living m.0.role ≡ true = ap is_living is in
      let none' = zero_if _ (ap has_any_ticket is) in
      let ok : ViewFits o k id m.0 = r.each id m.0 at living in
      let w : View = record m.0 { role = idle } in
      let one = one_there (λ (x : View). is_living x.role) s.views id m.0 at living in
      let sum = r.seated in
      let few = r.few in (
        w,
        keeps,
        tt,
        moves stands o seats s r id m.0 w k.drawn k.passed k.all k.spot k.owner (set s.words 0 (get_or s.words 0 0)) s.homes r.home at living refl refl
            (set-get_or s.words 0 0 ∙ r.words)
            r.slot
            (omega arith)
            r.whole
            record {
              opening_is = ok.opening_is;
              number = ok.number;
              seen = ok.seen;
              own = ok.own;
              ticket = λ t h. absurd h;
              turn = λ t h. absurd h;
              host = tt;
              joined = ok.joined;
              first = ok.first;
            }
            (λ j u other atj uk. uk)
            (λ e. let h = r.out e in
            let far : k.owner k.passed ≢ id = λ same. let it : h.0 ≡ m.0 = some-injective _ _ (sym h.1 ∙ (ap (λ i. get_elem? s.views i) same ∙ at)) in absurd (subst (λ x. IsTurn x k.passed) (ap (λ (z : View). z.role) it ∙ is) h.2) in
            (h.0, set_else s.views id (k.owner k.passed) w far ∙ h.1, h.2))
            r.spot
            (λ _ _ e. e),
        (refl, ok.host, (λ z. let f = (ok.first z).0 in omega arith), (λ z i le. let f = (ok.first z).1 in none_before i m.0.seen k.all ok.seen (r.fresh i (omega arith)).1)),
      )

  pub split_keeps : (id : ℕ) (v : View) → v.role ≡ idle → v.number ≡ 0 → 0 < v.places → Splits Rule id v (after_split v) (newcomer v)
  split_keeps id v at_rest first some_place s r at = record {
    truth = k';
    home = r.home;
    words = r.words;
    slot = r.slot;
    few = r.few;
    counted = (
        let c = count_set (λ (x : View). has_any_ticket x.role) s.views id v (after_split v) at in
        let d = sum_by_push (λ (x : View). cond {A = ℕ} (has_any_ticket x.role) 1 0) (set s.views id (after_split v)) (newcomer v) in
        let q = r.counted in
        omega arith);
    seated = (
        let c = count_set (λ (x : View). is_living x.role) s.views id v (after_split v) at in
        let d = sum_by_push (λ (x : View). cond {A = ℕ} (is_living x.role) 1 0) (set s.views id (after_split v)) (newcomer v) in
        let q = r.seated in
        let f = (ok.first first).0 in
        omega arith);
    whole = r.whole;
    each = λ j u e l. ⊎_elim
        (λ (t : get_elem? (set s.views id (after_split v)) j ≡ some u). ⊎_elim
        (λ (x : (j ≡ id) × (after_split v ≡ u)). subst (λ (z : ℕ × View). ViewFits o k' z.0 z.1) (λ i. (sym x.0 i, x.1 i)) mine)
        (λ (x : (j ≢ id) × At s.views j u). others j u x.0 x.1 (r.each j u x.1 l))
        (at_set s.views id j (after_split v) u t))
        (λ (t : (j ≡ length (set s.views id (after_split v))) × (newcomer v ≡ u)). subst (λ (z : ℕ × View). ViewFits o k' z.0 z.1) (λ i. (sym (t.0 ∙ length-set s.views id (after_split v)) i, t.1 i)) new)
        (at_end (set s.views id (after_split v)) (newcomer v) u j e);
    out = λ e. let h = r.out e in
        let far : k.owner k.passed ≢ id = λ same. let is : h.0 ≡ v = some-injective _ _ (sym h.1 ∙ (ap (λ i. get_elem? s.views i) same ∙ at)) in absurd (subst (λ x. IsTurn x k.passed) (ap (λ (z : View). z.role) is ∙ at_rest) h.2) in
        (h.0, at_longer (set s.views id (after_split v)) (newcomer v ∷ []) (k.owner k.passed) h.0 (set_else s.views id (k.owner k.passed) (after_split v) far ∙ h.1), h.2);
    spot = r.spot;
    fresh = λ n le. let f = r.fresh n (omega arith) in (put_else k.in_use k.next true n (λ e. omega arith) ∙ f.0, f.1);
    held = λ n so. dite (ℕ_discrete n k.next)
        (λ e. (
          newcomer v,
          ap (λ i. get_elem? (set s.views id (after_split v) ++ newcomer v ∷ []) i) (ap k'.holder e ∙ put_here k.holder k.next (length s.views)) ∙ at_last (set s.views id (after_split v)) (newcomer v) (length s.views) (length-set s.views id (after_split v)),
          refl,
          next_is ∙ sym e,
        ))
        (λ ne. let h = r.held n (sym (put_else k.in_use k.next true n ne) ∙ so) in
        let place : k'.holder n ≡ k.holder n = put_else k.holder k.next (length s.views) n ne in
        dite (ℕ_discrete (k.holder n) id)
        (λ e. let same : h.0 ≡ v = some-injective _ _ (sym h.1 ∙ (ap (λ i. get_elem? s.views i) e ∙ at)) in (
          after_split v,
          at_longer (set s.views id (after_split v)) (newcomer v ∷ []) (k'.holder n) (after_split v) (ap (λ i. get_elem? (set s.views id (after_split v)) i) (place ∙ e) ∙ set_here s.views id (after_split v) (at_get s.views id v v at).0),
          living,
          ap (λ (z : View). z.number) (sym same) ∙ h.3,
        ))
        (λ other. (h.0, at_longer (set s.views id (after_split v)) (newcomer v ∷ []) (k'.holder n) h.0 (ap (λ i. get_elem? (set s.views id (after_split v)) i) place ∙ (set_else s.views id (k.holder n) (after_split v) other ∙ h.1)), h.2, h.3)));
  }
    where
      k : Truth
      k = r.truth

      k' : Truth
      k' = record r.truth { holder = put r.truth.holder r.truth.next (length s.views); in_use = put r.truth.in_use r.truth.next true; places = r.truth.places - 1; next = r.truth.next + 1 }

      living : is_living v.role ≡ true
      living = ap is_living at_rest

      ok : ViewFits o k id v
      ok = r.each id v at living

      next_is : v.next ≡ k.next
      next_is = (ok.first first).1

      unused : (k.in_use k.next ≡ false) × (by_seat k.next k.all ≡ [])
      unused = r.fresh k.next (omega arith)

      -- a number in use is not the new one
      used : (n : ℕ) → k.in_use n ≡ true → n ≢ k.next
      used n so e = true≢false (sym so ∙ (ap k.in_use e ∙ unused.0))

      dies : (n : ℕ) → k'.in_use n ≡ false → k.in_use n ≡ false
      dies n e = dite (ℕ_discrete n k.next) (λ same. ap k.in_use same ∙ unused.0) (λ ne. sym (put_else k.in_use k.next true n ne) ∙ e)

      others : (j : ℕ) (u : View) → j ≢ id → At s.views j u → ViewFits o k j u → ViewFits o k' j u
      others j u other atj uk = record {
        opening_is = uk.opening_is;
        number = (put_else k.holder k.next (length s.views) u.number (used u.number uk.number.1) ∙ uk.number.0, put_else k.in_use k.next true u.number (used u.number uk.number.1) ∙ uk.number.1);
        seen = uk.seen;
        own = uk.own;
        ticket = uk.ticket;
        turn = uk.turn;
        host = uk.host;
        joined = λ n h. let f = uk.joined n h in (put_else k.in_use k.next true n (λ e. omega arith) ∙ f.0, omega arith, f.2);
        first = λ z. absurd (other (sym uk.number.0 ∙ (ap k.holder (z ∙ sym first) ∙ ok.number.0)));
      }

      mine : ViewFits o k' id (after_split v)
      mine = record {
        opening_is = ok.opening_is;
        number = (put_else k.holder k.next (length s.views) v.number (used v.number ok.number.1) ∙ ok.number.0, put_else k.in_use k.next true v.number (used v.number ok.number.1) ∙ ok.number.1);
        seen = ok.seen;
        own = ok.own;
        ticket = ok.ticket;
        turn = ok.turn;
        host = subst (HostFits (after_split v)) (sym at_rest) tt;
        joined = λ n h. let f = ok.joined n h in (put_else k.in_use k.next true n (λ e. omega arith) ∙ f.0, omega arith, f.2);
        first = λ z. let f = ok.first z in (ap (λ (n : ℕ). n - 1) f.0, ap (λ (n : ℕ). n + 1) f.1, λ n dead. f.2 n (dies n dead));
      }

      new : ViewFits o k' (length s.views) (newcomer v)
      new = record {
        opening_is = ok.opening_is;
        number = (ap k'.holder next_is ∙ put_here k.holder k.next (length s.views), ap k'.in_use next_is ∙ put_here k.in_use k.next true);
        seen = ok.seen;
        own = ap (λ n. by_seat n v.seen) next_is ∙ (none_by k.next v.seen k.all ok.seen unused.1 ∙ ap (λ n. by_seat n k.all) (sym next_is));
        ticket = λ t h. absurd h;
        turn = λ t h. absurd h;
        host = tt;
        joined = λ n h. let below = h.1 in absurd (omega arith);
        first = λ z. absurd (used 0 (ap k.in_use (sym first) ∙ ok.number.1) (sym z ∙ next_is));
      }

  pub join_keeps : (id : ℕ) (v : View) (other : ℕ) (w : View) → v.role ≡ idle → v.number ≡ 0 → w.role ≡ idle → Joins Rule id v other w (after_join v w) spent_view
  join_keeps id v other w at_rest first at_rest' s r at apart there = record {
    truth = k';
    home = r.home;
    words = r.words;
    slot = r.slot;
    few = r.few;
    counted = (
        let c = count_set (λ (x : View). has_any_ticket x.role) s.views id v (after_join v w) at in
        let d = count_set (λ (x : View). has_any_ticket x.role) (set s.views id (after_join v w)) other w spent_view there in
        let z = zero_if _ (ap has_any_ticket at_rest') in
        let y = zero_if _ (ap has_any_ticket at_rest) in
        let q = r.counted in
        omega arith);
    seated = (
        let c = count_set (λ (x : View). is_living x.role) s.views id v (after_join v w) at in
        let d = count_set (λ (x : View). is_living x.role) (set s.views id (after_join v w)) other w spent_view there in
        let z = one_if _ (ap is_living at_rest') in
        let y = one_if _ (ap is_living at_rest) in
        let q = r.seated in
        omega arith);
    whole = r.whole;
    each = λ j u e l. ⊎_elim
        (λ (t : (j ≡ other) × (spent_view ≡ u)). absurd (true≢false (sym l ∙ ap (λ (z : View). is_living z.role) (sym t.1))))
        (λ (t : (j ≢ other) × (get_elem? (set s.views id (after_join v w)) j ≡ some u)). ⊎_elim
        (λ (x : (j ≡ id) × (after_join v w ≡ u)). subst (λ (z : ℕ × View). ViewFits o k' z.0 z.1) (λ i. (sym x.0 i, x.1 i)) mine)
        (λ (x : (j ≢ id) × At s.views j u). others j u x.0 t.0 x.1 (r.each j u x.1 l))
        (at_set s.views id j (after_join v w) u t.1))
        (at_set (set s.views id (after_join v w)) other j spent_view u e);
    out = λ e. let h = r.out e in
        let far : k.owner k.passed ≢ id = λ same. let is : h.0 ≡ v = some-injective _ _ (sym h.1 ∙ (ap (λ i. get_elem? s.views i) same ∙ at)) in absurd (subst (λ x. IsTurn x k.passed) (ap (λ (z : View). z.role) is ∙ at_rest) h.2) in
        let far' : k.owner k.passed ≢ other = λ same. let is : h.0 ≡ w = some-injective _ _ (sym h.1 ∙ (ap (λ i. get_elem? s.views i) same ∙ theirs_at)) in absurd (subst (λ x. IsTurn x k.passed) (ap (λ (z : View). z.role) is ∙ at_rest') h.2) in
        (h.0, set_else (set s.views id (after_join v w)) other (k.owner k.passed) spent_view far' ∙ (set_else s.views id (k.owner k.passed) (after_join v w) far ∙ h.1), h.2);
    spot = r.spot;
    fresh = λ n le. let f = r.fresh n le in (stays n f.0, f.1);
    held = λ n so.
        let ne : n ≢ w.number = λ e. true≢false (sym so ∙ (ap k'.in_use e ∙ put_here k.in_use w.number false)) in
        let h = r.held n (sym (put_else k.in_use w.number false n ne) ∙ so) in
        let far : k.holder n ≢ other = λ same. let is : h.0 ≡ w = some-injective _ _ (sym h.1 ∙ (ap (λ i. get_elem? s.views i) same ∙ theirs_at)) in ne (sym h.3 ∙ ap (λ (z : View). z.number) is) in
        dite (ℕ_discrete (k.holder n) id)
        (λ e. let same : h.0 ≡ v = some-injective _ _ (sym h.1 ∙ (ap (λ i. get_elem? s.views i) e ∙ at)) in (
          after_join v w,
          set_else (set s.views id (after_join v w)) other (k.holder n) spent_view far ∙ (ap (λ i. get_elem? (set s.views id (after_join v w)) i) e ∙ set_here s.views id (after_join v w) (at_get s.views id v v at).0),
          refl,
          ap (λ (z : View). z.number) (sym same) ∙ h.3,
        ))
        (λ distant. (h.0, set_else (set s.views id (after_join v w)) other (k.holder n) spent_view far ∙ (set_else s.views id (k.holder n) (after_join v w) distant ∙ h.1), h.2, h.3));
  }
    where
      k : Truth
      k = r.truth

      k' : Truth
      k' = record r.truth { in_use = put r.truth.in_use w.number false; places = r.truth.places + 1 }

      living : is_living v.role ≡ true
      living = ap is_living at_rest

      theirs_at : At s.views other w
      theirs_at = sym (set_else s.views id other (after_join v w) apart) ∙ there

      ok : ViewFits o k id v
      ok = r.each id v at living

      theirs : ViewFits o k other w
      theirs = r.each other w theirs_at (ap is_living at_rest')

      -- a dead number stays dead
      stays : (n : ℕ) → k.in_use n ≡ false → k'.in_use n ≡ false
      stays n e = dite (ℕ_discrete n w.number) (λ same. ap k'.in_use same ∙ put_here k.in_use w.number false) (λ ne. put_else k.in_use w.number false n ne ∙ e)

      below : w.number < k.next
      below = lt_of_not-le (λ le. true≢false (sym theirs.number.1 ∙ (r.fresh w.number le).0))

      long : IsPrefix v.seen (longer v.seen w.seen) × IsPrefix w.seen (longer v.seen w.seen) × IsPrefix (longer v.seen w.seen) k.all
      long = longer_is v.seen w.seen k.all ok.seen theirs.seen

      not_mine : v.number ≢ w.number
      not_mine e = apart (sym theirs.number.0 ∙ (ap k.holder (sym e) ∙ ok.number.0))

      others : (j : ℕ) (u : View) → j ≢ id → j ≢ other → At s.views j u → ViewFits o k j u → ViewFits o k' j u
      others j u far far' atj uk = record {
        opening_is = uk.opening_is;
        number = (uk.number.0, put_else k.in_use w.number false u.number (λ e. far' (sym uk.number.0 ∙ (ap k.holder e ∙ theirs.number.0))) ∙ uk.number.1);
        seen = uk.seen;
        own = uk.own;
        ticket = uk.ticket;
        turn = uk.turn;
        host = uk.host;
        joined = λ n h. let f = uk.joined n h in (stays n f.0, f.1, f.2);
        first = λ z. absurd (far (sym uk.number.0 ∙ (ap k.holder (z ∙ sym first) ∙ ok.number.0)));
      }

      -- the longer list has all entries of a seat of which the first list has all, or the second
      by_mine : (n : ℕ) → by_seat n v.seen ≡ by_seat n k.all → by_seat n (longer v.seen w.seen) ≡ by_seat n k.all
      by_mine n e = between n v.seen (longer v.seen w.seen) k.all long.0 long.2 e

      by_theirs : by_seat w.number (longer v.seen w.seen) ≡ by_seat w.number k.all
      by_theirs = between w.number w.seen (longer v.seen w.seen) k.all long.1 long.2 theirs.own

      hosted : HostFits (after_join v w) (hosts w.number w.seen v.seen)
      hosted = (
        long.0,
        long.1,
        by_theirs ∙ sym theirs.own,
        by_mine v.number ok.own ∙ sym ok.own,
        λ j h. let f = ok.joined j h in by_mine j f.2 ∙ sym f.2,
        λ same. not_mine (sym same),
      )

      mine : ViewFits o k' id (after_join v w)
      mine = record {
        opening_is = ok.opening_is;
        number = (ok.number.0, put_else k.in_use w.number false v.number not_mine ∙ ok.number.1);
        seen = long.2;
        own = by_mine v.number ok.own;
        ticket = λ t h. absurd h;
        turn = λ t h. absurd h;
        host = hosted;
        joined = λ n h. ⊎_elim
            (λ (e : w.number ≡ n). subst (λ n. (k'.in_use n ≡ false) × (n < k.next) × (by_seat n (longer v.seen w.seen) ≡ by_seat n k.all)) e (put_here k.in_use w.number false, below, by_theirs))
            (λ (e : Contains v.joined n). let f = ok.joined n e in (stays n f.0, f.1, by_mine n f.2))
            (contains_more n w.number v.joined h);
        first = λ z. let f = ok.first z in (
          ap (λ (n : ℕ). n + 1) f.0,
          f.1,
          λ n dead. dite (ℕ_discrete n w.number)
              (λ e. ap (λ m. by_seat m (longer v.seen w.seen)) e ∙ (by_theirs ∙ ap (λ m. by_seat m k.all) (sym e)))
              (λ ne. by_mine n (f.2 n (sym (put_else k.in_use w.number false n ne) ∙ dead))),
        );
      }
