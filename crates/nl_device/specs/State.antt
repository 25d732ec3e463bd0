-- Where old names and pending callbacks are one to one, the names, the pages and the callbacks are a state of a device.
use Rattle.std.proofs.Common.{◌≡◌, ◌≢◌, ◌⊎◌, inl, inr, ⊎_elim, ℕ, zero, suc, ◌+◌, ◌<◌, ◌≤◌, ◌==◌, Bool, true, false, cond, List, [], ◌∷◌, length, map, get_or, count_by, Option, Some, None, refl, sym, ◌∙◌, ap, subst, arith, eq-eqb, ne_eqb}
use Rattle.std.specs.Prelude.{AllPairs, Contains, find, option_map, unwrap_or}
use Rattle.std.specs.List.{AllByRecursion}
use Rattle.std.proofs.lemmas.Bool.{cases_Bool, cases_eq, cases_lt, cond-true, cond-false, eqb-true}
use Rattle.std.proofs.lemmas.List.Sums.{sum_by-cons}
use Rattle.std.proofs.lemmas.Option.{none-some, same_Some}
use Rattle.nl_field.specs.Live.{LiveEntry, resolve}
use Rattle.nl_callbacks.specs.Pending.{ArePendingEntries, PendingTable, entry_at, number_of}
use Rattle.nl_callbacks.specs.declared.entry.Entry.{Entry}
use Rattle.nl_iface.specs.Device.{IsDeviceState, CallbackLeads, entry_with, state_of}
use Rattle.nl_iface.specs.Names.{Has, LivePage}
use Rattle.nl_iface.specs.Stored.{Value}
use Rattle.nl_iface.specs.declared.Callback.{Callback}
use Rattle.nl_pseg.specs.Segment.{Physical, held_at}
use Rattle.nl_pseg.specs.Space.{IsWhole}
use Rattle.nl_pseg.specs.declared.held.Held.{Held}
use Rattle.nl_device.specs.Callbacks.{AreCalled, callbacks_of, handled_in, names_with}
use Rattle.nl_device.specs.Device.{HasLive}
use Rattle.nl_device.specs.Shown.{live_page}

-- a live page is one that is held
pub held_of : (o : Option Held) (page : LivePage) → live_page o ≡ Some page
    → (h : Held) × (o ≡ Some h) × (h.stamp ≡ page.stamp) × (h.tag ≡ page.tag)
held_of None page is = absurd (none-some page is)
held_of (Some h) page is =
    let e = same_Some (record { tag = h.tag; stamp = h.stamp }) page is in
    (h, refl, ap (λ (l : LivePage). l.stamp) e, ap (λ (l : LivePage). l.tag) e)

entry_of : (p : ℕ) (bytes : List ℕ) (o : Option LivePage) (e : LiveEntry) → entry_with p bytes o ≡ Some e
    → (page : LivePage) × (o ≡ Some page) × (e.place ≡ p) × (page.stamp ≡ e.stamp)
entry_of p bytes None e is = absurd (none-some e is)
entry_of p bytes (Some page) e is =
    let same = same_Some (record { tag = page.tag; stamp = page.stamp; bytes = bytes; place = p }) e is in
    (page, refl, sym (ap (λ (x : LiveEntry). x.place) same), ap (λ (x : LiveEntry). x.stamp) same)

-- callbacks by place
pub has_at : (es : List Entry) (i : ℕ) → i < length es → Has (callbacks_of es) (entry_at es i).callback
has_at [] i lt = absurd (omega (arith, lt))
has_at (e ∷ es) zero lt = inl refl
has_at (e ∷ es) (suc i) lt = inr (has_at es i (omega (arith, lt)))

pub at_has : (es : List Entry) (c : Callback) → Has (callbacks_of es) c → (i : ℕ) × (i < length es) × ((entry_at es i).callback ≡ c)
at_has [] c h = absurd h
at_has (e ∷ es) c (inl is) = (zero, omega arith, is)
at_has (e ∷ es) c (inr h) = let r = at_has es c h in let lt = r.1 in (suc r.0, omega (arith, lt), r.2)

pub given_of : (es : List Entry) (posted : ℕ) → ArePendingEntries es posted → (c : Callback) → Has (callbacks_of es) c
    → (1 ≤ c.number) × (c.number ≤ posted)
given_of es posted t c has =
    let r = at_has es c has in
    let g = t.given r.0 r.1 in
    let e : number_of (entry_at es r.0) ≡ c.number = ap (λ (x : Callback). x.number) r.2 in
    (let some = g.0 in omega (arith, some, e), let most = g.1 in omega (arith, most, e))

pub marked_of : (es : List Entry) (n transaction : ℕ) → handled_in es n ≡ Some transaction
    → (c : Callback) × Has (callbacks_of es) c × (c.number ≡ n)
marked_of [] n transaction is = absurd (none-some transaction is)
marked_of (e ∷ es) n transaction is = ⊎_elim
    (λ here. (e.callback, inl refl, here))
    (λ far. let r = marked_of es n transaction
    (sym (cond-false (e.callback.number == n) e.transaction (handled_in es n) (ne_eqb e.callback.number n far)) ∙ is) in
    (r.0, inr r.1, r.2))
    (cases_eq e.callback.number n)

-- where names lead
led_here : (x : ℕ × ℕ) (xs : List (ℕ × ℕ)) (n : ℕ) → x.0 ≡ n → resolve (x ∷ xs) n ≡ x.1
led_here x xs n is =
    ap (λ (o : Option (ℕ × ℕ)). unwrap_or (option_map (λ (pair : ℕ × ℕ). pair.1) o) n)
    (cond-true (x.0 == n) (Some x) (find (λ pair. pair.0 == n) xs) (eq-eqb x.0 n is))

led_there : (x : ℕ × ℕ) (xs : List (ℕ × ℕ)) (n : ℕ) → x.0 ≢ n → resolve (x ∷ xs) n ≡ resolve xs n
led_there x xs n far =
    ap (λ (o : Option (ℕ × ℕ)). unwrap_or (option_map (λ (pair : ℕ × ℕ). pair.1) o) n)
    (cond-false (x.0 == n) (Some x) (find (λ pair. pair.0 == n) xs) (ne_eqb x.0 n far))

-- a name leads to itself, or by its pair
pub old_or : (pairs : List (ℕ × ℕ)) (n : ℕ) → (resolve pairs n ≡ n) ⊎ Contains pairs (n, resolve pairs n)
old_or [] n = inl refl
old_or (x ∷ xs) n = ⊎_elim
    (λ (same : x.0 ≡ n). let e = led_here x xs n same in inr (zero, omega arith, λ i. (same i, sym e i)))
    (λ (far : x.0 ≢ n). let e = led_there x xs n far in ⊎_elim
    (λ is. inl (e ∙ is))
    (λ h. let lt = h.1 in inr (subst (λ t. Contains (x ∷ xs) (n, t)) (sym e) (suc h.0, omega (arith, lt), h.2)))
    (old_or xs n))
    (cases_eq x.0 n)

-- a name that is no old one leads to itself
pub to_itself : (pairs : List (ℕ × ℕ)) (n : ℕ) → ((target : ℕ) × Contains pairs (n, target) → ⊥) → resolve pairs n ≡ n
to_itself pairs n off = ⊎_elim (λ is. is) (λ h. absurd (off (resolve pairs n, h))) (old_or pairs n)

-- where old names differ, a name leads by its pair
pub led_by : (pairs : List (ℕ × ℕ)) (n t : ℕ) → AllPairs (λ (p q : ℕ × ℕ). p.0 ≡ q.0 → ⊥) pairs → Contains pairs (n, t)
    → resolve pairs n ≡ t
led_by [] n t differ h = let lt = h.1 in absurd (omega (arith, lt))
led_by (x ∷ xs) n t differ (zero, lt, is) = led_here x xs n (ap (λ (p : ℕ × ℕ). p.0) is) ∙ ap (λ (p : ℕ × ℕ). p.1) is
led_by (x ∷ xs) n t differ (suc i, lt, is) =
    let far : x.0 ≢ n = λ same. differ zero (suc i) (n, t) (omega arith) lt (same ∙ sym (ap (λ (p : ℕ × ℕ). p.0) is)) in
    led_there x xs n far
    ∙ led_by xs n t (λ a b d less below. differ (suc a) (suc b) d (omega (arith, less)) (omega (arith, below)))
    (i, omega (arith, lt), is)

all_from : {X : Type 0} (P : X → Type 0) (xs : List X) → ((x : X) → Contains xs x → P x) → AllByRecursion P xs
all_from P [] f = tt
all_from P (x ∷ xs) f = (f x (zero, omega arith, refl), all_from P xs (λ y h. let lt = h.1 in f y (suc h.0, omega (arith, lt), h.2)))

map_at : (xs : List (ℕ × ℕ)) (i d : ℕ) (e : ℕ × ℕ) → i < length xs → get_or (map (λ (pair : ℕ × ℕ). pair.0) xs) i d ≡ (get_or xs i e).0
map_at [] i d e lt = absurd (omega (arith, lt))
map_at (x ∷ xs) zero d e lt = refl
map_at (x ∷ xs) (suc i) d e lt = map_at xs i d e (omega (arith, lt))

map_length : (xs : List (ℕ × ℕ)) → length (map (λ (pair : ℕ × ℕ). pair.0) xs) ≡ length xs
map_length [] = refl
map_length (x ∷ xs) = ap suc (map_length xs)

-- counts of callbacks
count_cons : (p : Callback → Bool) (e : Entry) (es : List Entry)
    → count_by p (callbacks_of (e ∷ es)) ≡ cond (p e.callback) 1 0 + count_by p (callbacks_of es)
count_cons p e es = sum_by-cons (λ x. cond (p x) 1 0) e.callback (callbacks_of es)

count_none : (p : Callback → Bool) (es : List Entry) → ((i : ℕ) → i < length es → p (entry_at es i).callback ≡ false)
    → count_by p (callbacks_of es) ≡ 0
count_none p [] off = refl
count_none p (e ∷ es) off =
    let here = ap {B = ℕ} (λ b. cond b 1 0) (off zero (omega arith)) in
    let rest = count_none p es (λ i lt. off (suc i) (omega (arith, lt))) in
    let c = count_cons p e es in
    omega (arith, c, here, rest)

count_one : (p : Callback → Bool) (es : List Entry) (i : ℕ) → i < length es → p (entry_at es i).callback ≡ true
    → ((j : ℕ) → j < length es → p (entry_at es j).callback ≡ true → j ≡ i) → count_by p (callbacks_of es) ≡ 1
count_one p [] i lt is only = absurd (omega (arith, lt))
count_one p (e ∷ es) zero lt is only =
    let here = ap {B = ℕ} (λ b. cond b 1 0) is in
    let rest = count_none p es (λ j less. ⊎_elim (λ yes_is. let z = only (suc j) (omega (arith, less)) yes_is in absurd (omega (arith, z)))
    (λ no_is. no_is) (cases_Bool (p (entry_at es j).callback))) in
    let c = count_cons p e es in
    omega (arith, c, here, rest)
count_one p (e ∷ es) (suc i) lt is only =
    let off : p e.callback ≡ false = ⊎_elim (λ yes_is. let z = only zero (omega arith) yes_is in absurd (omega (arith, z)))
    (λ no_is. no_is) (cases_Bool (p e.callback)) in
    let here = ap {B = ℕ} (λ b. cond b 1 0) off in
    let rest = count_one p es i (omega (arith, lt)) is
    (λ j less yes_is. let same = only (suc j) (omega (arith, less)) yes_is in omega (arith, same)) in
    let c = count_cons p e es in
    omega (arith, c, here, rest)

each_of : (P : Callback → Type 0) (es : List Entry) → ((i : ℕ) → i < length es → P (entry_at es i).callback)
    → AllByRecursion P (callbacks_of es)
each_of P [] f = tt
each_of P (e ∷ es) f = (f zero (omega arith), each_of P es (λ i lt. f (suc i) (omega (arith, lt))))

-- numbers that rise differ
pub at_once : (es : List Entry) → ((i j : ℕ) → i < j → j < length es → number_of (entry_at es i) < number_of (entry_at es j))
    → (i j : ℕ) → i < length es → j < length es → number_of (entry_at es j) ≡ number_of (entry_at es i) → j ≡ i
at_once es rising i j below within same = ⊎_elim
    (λ less. let lt = rising j i less below in absurd (omega (arith, lt, same)))
    (λ more. ⊎_elim (λ less. let lt = rising i j less within in absurd (omega (arith, lt, same)))
    (λ most. omega (arith, more, most)) (cases_lt i j))
    (cases_lt j i)

module _ (pseg : Physical) (t : PendingTable) (bytes : ℕ → List ℕ) (values : ℕ → Option Value) (next : ℕ)
    (whole : IsWhole pseg) (live : HasLive pseg) (called : AreCalled pseg t) where
  own_page : (p : ℕ) (h : Held) → held_at pseg p ≡ Some h → resolve pseg.pairs p ≡ p
  own_page p h is = to_itself pseg.pairs p (whole.pages.own p h is)

  told_at : (i : ℕ) → i < length t.callbacks → CallbackLeads (state_of (names_with pseg t) bytes values next) (entry_at t.callbacks i).callback
  told_at i lt =
      let c = (entry_at t.callbacks i).callback in
      let led = resolve pseg.pairs c.before in
      let has = has_at t.callbacks i lt in
      let is = called.told c has in
      record {
        entry = record { tag = c.tag; stamp = c.stamp; bytes = bytes led; place = led };
        live = ap (λ (o : Option Held). entry_with led (bytes led) (live_page o)) is;
        tag = refl;
        stamp = refl;
        away = λ same. whole.pages.own c.before (record { tag = c.tag; stamp = c.stamp }) (ap (held_at pseg) (sym same) ∙ is)
            (called.old c has);
      }

  pub state_called : IsDeviceState pseg.size (state_of (names_with pseg t) bytes values next)
  state_called = record {
    in_place = λ p e has. (entry_of p (bytes p) (live_page (held_at pseg p)) e has).2;
    stamps_differ = λ p q d e p_has q_has same.
        let a = entry_of p (bytes p) (live_page (held_at pseg p)) d p_has in
        let b = entry_of q (bytes q) (live_page (held_at pseg q)) e q_has in
        let x = held_of (held_at pseg p) a.0 a.1 in
        let y = held_of (held_at pseg q) b.0 b.1 in
        live.differ p q x.0 y.0 x.1 y.1 (x.2 ∙ (a.3 ∙ (same ∙ (sym b.3 ∙ sym y.2))));
    own = λ p e has.
        let a = entry_of p (bytes p) (live_page (held_at pseg p)) e has in
        let x = held_of (held_at pseg p) a.0 a.1 in
        own_page p x.0 x.1;
    old_names_differ = λ i j d less below same.
        let within : j < length pseg.pairs = let n = map_length pseg.pairs in omega (arith, below, n) in
        let first = map_at pseg.pairs i d (d, d) (omega (arith, less, within)) in
        let second = map_at pseg.pairs j d (d, d) within in
        whole.pages.one_target i j (d, d) less within (sym first ∙ (same ∙ second));
    no_chain = all_from _ pseg.pairs (λ x has. all_from _ pseg.pairs (λ y other same.
        let h = whole.pages.to_live x.0 x.1 has in
        whole.pages.own x.1 h.0 h.1 (y.1, subst (λ n. Contains pseg.pairs (n, y.1)) (sym same) other)));
    to_live = all_from _ pseg.pairs (λ x has none.
        let h = whole.pages.to_live x.0 x.1 has in
        none-some (record { tag = h.0.tag; stamp = h.0.stamp; bytes = bytes x.1; place = x.1 })
        (sym none ∙ ap (λ (o : Option Held). entry_with x.1 (bytes x.1) (live_page o)) h.1));
    one_callback = all_from _ pseg.pairs (λ x has.
        let c = called.each x.0 (x.1, has) in
        let at = at_has t.callbacks c.0 c.1 in
        let named : (entry_at t.callbacks at.0).callback.before ≡ x.0 = ap (λ (d : Callback). d.before) at.2 ∙ c.2 in
        count_one (λ d. d.before == x.0) t.callbacks at.0 at.1 (eq-eqb (entry_at t.callbacks at.0).callback.before x.0 named)
        (λ j lt yes_is.
        let same = called.once (entry_at t.callbacks j).callback (entry_at t.callbacks at.0).callback (has_at t.callbacks j lt)
        (has_at t.callbacks at.0 at.1) (eqb-true (entry_at t.callbacks j).callback.before x.0 yes_is ∙ sym named) in
        at_once t.callbacks called.numbers.rising at.0 j at.1 lt (ap (λ (d : Callback). d.number) same)));
    told = each_of _ t.callbacks told_at;
    one_number = each_of _ t.callbacks (λ i lt.
        count_one (λ d. d.number == number_of (entry_at t.callbacks i)) t.callbacks i lt
        (eq-eqb (number_of (entry_at t.callbacks i)) (number_of (entry_at t.callbacks i)) refl)
        (λ j less yes_is. at_once t.callbacks called.numbers.rising i j lt less
        (eqb-true (number_of (entry_at t.callbacks j)) (number_of (entry_at t.callbacks i)) yes_is)));
    few_pairs = let p = whole.numbers.pairs in omega (arith, p);
  }
