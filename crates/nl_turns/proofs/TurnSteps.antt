-- Each step of a turn keeps the rule: draw, look, the slot home and out, pass.
use Rattle.std.proofs.Common.{◌≡◌, ◌≢◌, ℕ, ◌+◌, ◌%◌, ◌^◌, ◌<◌, ◌≤◌, true, List, [], ◌∷◌, ◌++◌, get_or, set, refl, sym, ap, ◌∙◌, subst, arith, length-append, Option, Some, None, true≢false}
use mathlib.Core.Logic.{dite}
use mathlib.Core.Option.{none, some, some-ne-none, some-injective}
use mathlib.Core.Option as maybe
use mathlib.Core.List.{IsPrefix}
use native.Mathlib.Decide.{ℕ_discrete}
use lib.ListN.{get_elem?}
use lib.Seq.{set-get_or}
use Rattle.std.proofs.Math.Nat.{mod-add-mod}
use Rattle.atomic_table.specs.Table.{State, Me, Step, step, Act, keeps, takes, gives, stepped, homes_after, Allows, rest, opening, Final, Seen}
use Rattle.atomic_table.proofs.Lists.{set_here, set_else, set_again, one_turn}
use Rattle.nl_turns.specs.History.{Opening}
use Rattle.nl_turns.specs.declared.entry.Entry.{Entry}
use Rattle.nl_turns.specs.Seat.{Passed}
use Rattle.nl_turns.specs.View.{Role}
use Rattle.nl_turns.specs.View.{idle, waits, enters, inside, leaves}
use Rattle.nl_turns.specs.View.{View}
use Rattle.nl_turns.specs.Seat.{by_seat, passed_by}
use Rattle.nl_turns.specs.Rule.{HasTicket, has_any_ticket, is_living, HostFits, IsTurn, spot_of, SlotFits, Truth, ViewFits, At, IsTicketLock}
use Rattle.nl_turns.specs.Steps.{after_draw, after_look, after_pass, ComesTo, draws, looks, parks, fetches, adds}
use Rattle.nl_turns.proofs.Views.{put, put_here, put_else, at_get}
use Rattle.nl_turns.proofs.Histories.{prefix_self, prefix_more, by_other}
use Rattle.nl_turns.proofs.Moves.{turn_lives, turn_has, turn_spot, one_if, zero_if, any, moves, near}

module _ {V : Type 0} (stands : Opening → List Passed → V → Type 0) (o : Opening) (seats : ℕ) where
  abbrev St : Type 0
  St = State (Option V) View

  abbrev Rule : St → Type 0
  Rule = IsTicketLock stands o seats

  pub draw_keeps : (slots id : ℕ) (m : Me (Option V) View) → m.0.role ≡ idle → Allows Rule slots id m 0 (λ n. (n + 1) % 2 ^ 64) (draws any m)
  draw_keeps slots id m at_rest s r deep at small =
      let k : Truth = r.truth in
      let v : View = m.0 in
      let w : View = after_draw v k.drawn in
      let owner : ℕ → ℕ = put k.owner k.drawn id in
      let living : is_living v.role ≡ true = ap is_living at_rest in
      let none' = zero_if _ (ap has_any_ticket at_rest) in
      let ok : ViewFits o k id v = r.each id v at living in
      let near' = near stands o seats s r in
      let word : get_or s.words 0 0 ≡ k.drawn % 2 ^ 64 = ap (λ ws. get_or ws 0 0) r.words in (
        w,
        keeps,
        tt,
        moves stands o seats s r id v w (k.drawn + 1) k.passed k.all k.spot owner (set s.words 0 ((get_or s.words 0 0 + 1) % 2 ^ 64)) s.homes r.home at living refl refl
            (ap (λ ws. set ws 0 ((get_or ws 0 0 + 1) % 2 ^ 64)) r.words ∙ ap (λ (n : ℕ). n ∷ k.passed % 2 ^ 64 ∷ []) (mod-add-mod k.drawn (2 ^ 64) 1))
            r.slot
            (omega arith)
            r.whole
            record {
              opening_is = ok.opening_is;
              number = ok.number;
              seen = ok.seen;
              own = ok.own;
              ticket = λ t h. (ap owner (sym h) ∙ put_here k.owner k.drawn id, omega arith, omega arith);
              turn = λ t h. absurd h;
              host = tt;
              joined = ok.joined;
              first = ok.first;
            }
            (λ j u other atj uk. record {
              opening_is = uk.opening_is;
              number = uk.number;
              seen = uk.seen;
              own = uk.own;
              ticket = λ t h. let x = uk.ticket t h in (put_else k.owner k.drawn id t (λ e. omega arith) ∙ x.0, x.1, omega arith);
              turn = uk.turn;
              host = uk.host;
              joined = uk.joined;
              first = uk.first;
            })
            (λ e. let h = r.out e in
            let far : k.owner k.passed ≢ id = λ same. let is : h.0 ≡ v = some-injective _ _ (sym h.1 ∙ (ap (λ i. get_elem? s.views i) same ∙ at)) in absurd (subst (λ x. IsTurn x k.passed) (ap (λ (z : View). z.role) is ∙ at_rest) h.2) in
            let theirs = (r.each (k.owner k.passed) h.0 h.1 (turn_lives h.0.role k.passed h.2)).ticket k.passed (turn_has h.0.role k.passed h.2) in
            (h.0, ap (λ i. get_elem? (set s.views id w) i) (put_else k.owner k.drawn id k.passed (λ same. omega arith)) ∙ (set_else s.views id (k.owner k.passed) w far ∙ h.1), h.2))
            r.spot
            (λ n _ e. e),
        (k.drawn, refl, word),
      )

  -- what is known of a seat at its turn
  module _ (s : St) (r : Rule s) (id : ℕ) (v : View) (at : At s.views id v) (t : ℕ) (turn : IsTurn v.role t) where
    its : ViewFits o r.truth id v
    its = r.each id v at (turn_lives v.role t turn)

    now_is : t ≡ r.truth.passed
    now_is = (its.turn t turn).0

    owner_is : r.truth.owner r.truth.passed ≡ id
    owner_is = ap r.truth.owner (sym now_is) ∙ (its.ticket t (turn_has v.role t turn)).0

    -- no other seat has a turn
    alone : (j : ℕ) (u : View) → j ≢ id → ViewFits o r.truth j u → (x : ℕ) → IsTurn u.role x → ⊥
    alone j u other uk x h = other (sym (uk.ticket x (turn_has u.role x h)).0 ∙ (ap r.truth.owner (uk.turn x h).0 ∙ owner_is))

    -- a step from one part of the turn to the next
    turns_on : (role : Role) (spot : ℕ) (words : List ℕ) (homes : List (maybe.Option (Option V))) (home : maybe.Option (Option V))
        → is_living role ≡ true → has_any_ticket v.role ≡ true → has_any_ticket role ≡ true → ((x : ℕ) → HasTicket role x → t ≡ x) → ((x : ℕ) → IsTurn role x → t ≡ x) → IsTurn role t → spot_of role ≡ spot → HostFits (record v { role = role }) role
        → words ≡ s.words → homes ≡ home ∷ [] → SlotFits (stands o r.truth.all) spot home
        → Rule record { words = words; homes = homes; views = set s.views id (record v { role = role }) }
    turns_on role spot words homes home living' had has is_t is_t' turn' spot_is host words_are homes_are spot_ok =
        let k : Truth = r.truth in
        let w : View = record v { role = role } in
        let a = one_if _ had in
        let b = one_if _ has in
        moves stands o seats s r id v w k.drawn k.passed k.all spot k.owner words homes home at (turn_lives v.role t turn) living' refl
        (words_are ∙ r.words)
        homes_are
        (omega arith)
        r.whole
        record {
          opening_is = its.opening_is;
          number = its.number;
          seen = its.seen;
          own = its.own;
          ticket = λ x h. subst (λ y. (k.owner y ≡ id) × (k.passed ≤ y) × (y < k.drawn)) (is_t x h) (its.ticket t (turn_has v.role t turn));
          turn = λ x h. (sym (is_t' x h) ∙ now_is, (its.turn t turn).1, spot_is);
          host = host;
          joined = its.joined;
          first = its.first;
        }
        (λ j u other atj uk. record {
          opening_is = uk.opening_is;
          number = uk.number;
          seen = uk.seen;
          own = uk.own;
          ticket = uk.ticket;
          turn = λ x h. absurd (alone j u other uk x h);
          host = uk.host;
          joined = uk.joined;
          first = uk.first;
        })
        (λ _. (w, ap (λ i. get_elem? (set s.views id w) i) owner_is ∙ set_here s.views id w (at_get s.views id v v at).0, subst (IsTurn role) now_is turn'))
        spot_ok
        (λ n _ e. e)

  pub look_keeps : (slots id : ℕ) (m : Me (Option V) View) (t : ℕ) → m.0.role ≡ waits t → Allows Rule slots id m 1 (λ n. n) (looks stands any m)
  look_keeps slots id m t waiting s r deep at small = dite (ℕ_discrete r.truth.passed t) mine later
    where
      k : Truth
      k = r.truth

      living : is_living m.0.role ≡ true
      living = ap is_living waiting

      has : has_any_ticket m.0.role ≡ true
      has = ap has_any_ticket waiting

      ok : ViewFits o k id m.0
      ok = r.each id m.0 at living

      mine_is : (k.owner t ≡ id) × (k.passed ≤ t) × (t < k.drawn)
      mine_is = ok.ticket t (subst (λ x. HasTicket x t) (sym waiting) refl)

      word : get_or s.words 1 0 ≡ k.passed % 2 ^ 64
      word = ap (λ ws. get_or ws 1 0) r.words

      words : set s.words 1 (get_or s.words 1 0) ≡ k.drawn % 2 ^ 64 ∷ k.passed % 2 ^ 64 ∷ []
      words = set-get_or s.words 1 0 ∙ r.words

      same_ticket : (u : ℕ) → m.0.role ≡ waits u → u ≡ t
      same_ticket u is = cc (is, waiting)

      Goes : Type 0
      Goes = (w : View) × (a : Act (Option V)) × Rattle.atomic_table.specs.Table.Valid s.homes m.1 a × Rule (stepped s 1 (get_or s.words 1 0) id m.1 w a) × looks stands any m (get_or s.words 1 0) (w, Rattle.atomic_table.specs.Table.carried_after m.1 a)

      -- nobody else has the turn
      nobody : k.passed ≡ t → 0 < k.spot → ⊥
      nobody now busy =
          let h = r.out busy in
          let here : k.owner k.passed ≡ id = ap k.owner now ∙ mine_is.0 in
          let is : h.0 ≡ m.0 = some-injective _ _ (sym h.1 ∙ (ap (λ i. get_elem? s.views i) here ∙ at)) in
          subst (λ x. IsTurn x k.passed) (ap (λ (z : View). z.role) is ∙ waiting) h.2

      -- the slot is at home, with a value
      home_is : k.passed ≡ t → (h : maybe.Option (Option V)) → r.home ≡ h → (y : V) × (r.home ≡ some (Some y)) × (k.spot ≡ 0) × stands o k.all y
      home_is now none e = let q : k.spot ≡ 1 = subst (SlotFits (stands o k.all) k.spot) e r.spot in absurd (nobody now (omega arith))
      home_is now (some None) e = let q : k.spot ≡ 2 = subst (SlotFits (stands o k.all) k.spot) e r.spot in absurd (nobody now (omega arith))
      home_is now (some (Some y)) e = let q = subst (SlotFits (stands o k.all) k.spot) e r.spot in (y, e, q.0, q.1)

      comes : ComesTo m.0 k.all
      comes = record {
        grows = ok.seen;
        own = sym ok.own;
        joined = λ j x. sym (ok.joined j x).2;
        told = λ z n le. let f = (ok.first z).1 in (r.fresh n (omega arith)).1;
      }

      mine : k.passed ≡ t → Goes
      mine now =
          let w : View = after_look m.0 t k.all in
          let h = home_is now r.home refl in
          let y : V = h.0 in
          let free : k.spot ≡ 0 = h.2 in
          let has' = one_if _ has in (
            w,
            takes 0 (Some y),
            ap (λ hs. get_elem? hs 0) r.slot ∙ ap some h.1,
            moves stands o seats s r id m.0 w k.drawn k.passed k.all 1 k.owner (set s.words 1 (get_or s.words 1 0)) (set s.homes 0 none) none at living refl refl
                words
                (ap (λ hs. set hs 0 none) r.slot)
                (omega arith)
                r.whole
                record {
                  opening_is = ok.opening_is;
                  number = ok.number;
                  seen = prefix_self k.all;
                  own = refl;
                  ticket = λ u e. ok.ticket u (subst (λ x. HasTicket x u) (sym waiting) e);
                  turn = λ u e. (sym e ∙ sym now, refl, refl);
                  host = tt;
                  joined = λ n h. let f = ok.joined n h in (f.0, f.1, refl);
                  first = λ z. let f = ok.first z in (f.0, f.1, λ n _. refl);
                }
                (λ j u other atj uk. record {
                  opening_is = uk.opening_is;
                  number = uk.number;
                  seen = uk.seen;
                  own = uk.own;
                  ticket = uk.ticket;
                  turn = λ x e. let f = uk.turn x e in let p = turn_spot u.role x e in let q = f.2 in absurd (omega arith);
                  host = uk.host;
                  joined = uk.joined;
                  first = uk.first;
                })
                (λ _. (w, ap (λ i. get_elem? (set s.views id w) i) (ap k.owner now ∙ mine_is.0) ∙ set_here s.views id w (at_get s.views id m.0 m.0 at).0, sym now))
                refl
                (λ n _ e. e),
            λ u is. (
              (λ _. (k.all, y, (let e : t ≡ u = sym (same_ticket u is) in λ i. (after_look m.0 (e i) k.all, (0, Some y) ∷ m.1)), comes, subst (λ z. stands z k.all y) (sym ok.opening_is) h.3)),
              (λ no. absurd (no (word ∙ ap (λ (z : ℕ). z % 2 ^ 64) (now ∙ sym (same_ticket u is))))),
            ),
          )

      later : k.passed ≢ t → Goes
      later not_now =
          let has' = one_if _ has in (
            m.0,
            keeps,
            tt,
            moves stands o seats s r id m.0 m.0 k.drawn k.passed k.all k.spot k.owner (set s.words 1 (get_or s.words 1 0)) s.homes r.home at living living refl
                words
                r.slot
                (omega arith)
                r.whole
                ok
                (λ j u other atj uk. uk)
                (λ e. let h = r.out e in (h.0, ap (λ vs. get_elem? vs (k.owner k.passed)) (set_again s.views id m.0 at) ∙ h.1, h.2))
                r.spot
                (λ n _ e. e),
            λ u is. (
              (λ so. absurd (not_now (one_turn k.passed t (2 ^ 64) mine_is.1 (let n = near stands o seats s r in let q = mine_is in omega arith) (sym word ∙ (so ∙ ap (λ (z : ℕ). z % 2 ^ 64) (same_ticket u is)))))),
              (λ _. refl),
            ),
          )

  -- the empty slot goes home
  pub park_keeps : (slots id : ℕ) (m : Me (Option V) View) (t : ℕ) → m.0.role ≡ enters t → m.1 ≡ (0, None) ∷ [] → Allows Rule slots id m 1 (λ n. n) (parks any m)
  park_keeps slots id m t takes_is empty s r deep at small = (
    record m.0 { role = inside t },
    gives,
    tt,
    turns_on s r id m.0 at t (subst (λ x. IsTurn x t) (sym takes_is) refl) (inside t) 2 (set s.words 1 (get_or s.words 1 0)) (homes_after s.homes m.1 gives) (some None) refl (ap has_any_ticket takes_is) refl (λ x e. e) (λ x e. e) refl refl tt
        (set-get_or s.words 1 0)
        (λ i. homes_after (r.slot i) (empty i) gives)
        refl,
    λ u is. let e : t ≡ u = cc (is, takes_is) in λ i. (record m.0 { role = inside (e i) }, Rattle.atomic_table.specs.Table.rest m.1),
  )

  -- the empty slot comes out again
  pub fetch_keeps : (slots id : ℕ) (m : Me (Option V) View) (t : ℕ) → m.0.role ≡ inside t → Allows Rule slots id m 1 (λ n. n) (fetches any m)
  fetch_keeps slots id m t works s r deep at small = (
    record m.0 { role = leaves t },
    takes 0 None,
    ap (λ hs. get_elem? hs 0) r.slot ∙ ap some (home_is r.home refl),
    turns_on s r id m.0 at t turn (leaves t) 1 (set s.words 1 (get_or s.words 1 0)) (set s.homes 0 none) none refl (ap has_any_ticket works) refl (λ x e. e) (λ x e. e) refl refl tt
        (set-get_or s.words 1 0)
        (ap (λ hs. set hs 0 none) r.slot)
        refl,
    λ u is. let e : t ≡ u = cc (is, works) in λ i. (record m.0 { role = leaves (e i) }, (0, None) ∷ m.1),
  )
    where
      turn : IsTurn m.0.role t
      turn = subst (λ x. IsTurn x t) (sym works) refl

      spot_is : 2 ≡ r.truth.spot
      spot_is = ap spot_of (sym works) ∙ ((its s r id m.0 at t turn).turn t turn).2

      home_is : (h : maybe.Option (Option V)) → r.home ≡ h → r.home ≡ some None
      home_is none e = let q : r.truth.spot ≡ 1 = subst (SlotFits (stands o r.truth.all) r.truth.spot) e r.spot in let p = spot_is in absurd (omega arith)
      home_is (some None) e = e
      home_is (some (Some y)) e = let q = (subst (SlotFits (stands o r.truth.all) r.truth.spot) e r.spot).0 in let p = spot_is in absurd (omega arith)

  pub add_keeps : (slots id : ℕ) (m : Me (Option V) View) (e : Entry) (t : ℕ) (y : V) → m.0.role ≡ leaves t → m.1 ≡ (0, Some y) ∷ []
      → stands m.0.opening (m.0.seen ++ passed_by m.0.number e ∷ []) y → Allows Rule slots id m 1 (λ n. (n + 1) % 2 ^ 64) (adds e any m)
  add_keeps slots id m e t y works holds_slot stood s r deep at small =
      let k : Truth = r.truth in
      let v : View = m.0 in
      let p : Passed = passed_by v.number e in
      let w : View = after_pass v e in
      let turn : IsTurn v.role t = subst (λ x. IsTurn x t) (sym works) refl in
      let living : is_living v.role ≡ true = ap is_living works in
      let has = one_if _ (ap has_any_ticket works) in
      let ok : ViewFits o k id v = its s r id v at t turn in
      let now = ok.turn t turn in
      let mine' : k.owner k.passed ≡ id = owner_is s r id v at t turn in
      let all : List Passed = k.all ++ p ∷ [] in
      let grown : v.seen ++ p ∷ [] ≡ all = ap (λ xs. xs ++ p ∷ []) now.1 in (
        w,
        gives,
        tt,
        moves stands o seats s r id v w k.drawn (k.passed + 1) all 0 k.owner (set s.words 1 ((get_or s.words 1 0 + 1) % 2 ^ 64)) (homes_after s.homes m.1 gives) (some (Some y)) at living refl refl
            (ap (λ ws. set ws 1 ((get_or ws 1 0 + 1) % 2 ^ 64)) r.words ∙ ap (λ (n : ℕ). k.drawn % 2 ^ 64 ∷ n ∷ []) (mod-add-mod k.passed (2 ^ 64) 1))
            (λ i. homes_after (r.slot i) (holds_slot i) gives)
            (omega arith)
            (length-append k.all (p ∷ []) ∙ ap (λ (n : ℕ). n + 1) r.whole)
            record {
              opening_is = ok.opening_is;
              number = ok.number;
              seen = subst (λ xs. IsPrefix xs all) (sym grown) (prefix_self all);
              own = ap (by_seat v.number) grown;
              ticket = λ u h. absurd h;
              turn = λ u h. absurd h;
              host = tt;
              joined = λ n h. let f = ok.joined n h in (f.0, f.1, ap (by_seat n) grown);
              first = λ z. let f = ok.first z in (f.0, f.1, λ n _. ap (by_seat n) grown);
            }
            (λ j u other atj uk.
            let apart : v.number ≢ u.number = λ same. other (sym uk.number.0 ∙ (ap k.holder (sym same) ∙ ok.number.0)) in record {
              opening_is = uk.opening_is;
              number = uk.number;
              seen = prefix_more u.seen k.all (p ∷ []) uk.seen;
              own = uk.own ∙ sym (by_other u.number k.all p apart);
              ticket = λ x h. let q = uk.ticket x h in (q.0, (let differs : x ≢ k.passed = λ same. other (sym q.0 ∙ (ap k.owner same ∙ mine')) in omega arith), q.2);
              turn = λ x h. absurd (alone s r id v at t turn j u other uk x h);
              host = uk.host;
              joined = λ n h. let f = uk.joined n h in (f.0, f.1, f.2 ∙ sym (by_other n k.all p (λ same. true≢false (sym ok.number.1 ∙ (ap k.in_use same ∙ f.0)))));
              first = λ z. let f = uk.first z in (f.0, f.1, λ n dead. f.2 n dead ∙ sym (by_other n k.all p (λ same. true≢false (sym ok.number.1 ∙ (ap k.in_use same ∙ dead)))));
            })
            (λ busy. absurd (omega arith))
            (refl, subst (λ (z : Opening × List Passed). stands z.0 z.1 y) (λ i. (ok.opening_is i, grown i)) stood)
            (λ n dead none. by_other n k.all p (λ same. true≢false (sym ok.number.1 ∙ (ap k.in_use same ∙ dead))) ∙ none),
        (λ i. (w, Rattle.atomic_table.specs.Table.rest m.1)),
      )
