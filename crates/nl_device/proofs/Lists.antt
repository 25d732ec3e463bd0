-- Lists of pending callbacks, filtered.
use Rattle.std.proofs.Common.{◌≡◌, ◌≢◌, inl, inr, ℕ, zero, suc, ◌<◌, ◌==◌, Bool, true, false, cond, List, [], ◌∷◌, length, remove, refl, sym, ◌∙◌, ap, arith, eq-eqb, ne_eqb}
use Rattle.std.specs.Prelude.{filter}
use Rattle.std.proofs.lemmas.Bool.{cond-true, cond-false, true≢false}
use Rattle.nl_callbacks.proofs.Filters.{filter_all}
use Rattle.nl_callbacks.specs.Pending.{entry_at, number_of}
use Rattle.nl_callbacks.specs.declared.entry.Entry.{Entry}
use Rattle.nl_iface.specs.Names.{Has}
use Rattle.nl_iface.specs.declared.Callback.{Callback}
use Rattle.nl_device.specs.Callbacks.{callbacks_of, handled_in}
use Rattle.nl_device.specs.State.{at_has}

-- tests that agree keep the same
pub filter_same : (p q : Entry → Bool) (es : List Entry) → ((i : ℕ) → i < length es → p (entry_at es i) ≡ q (entry_at es i)) → filter p es ≡ filter q es
filter_same p q [] each = refl
filter_same p q (e ∷ es) each =
    let rest = filter_same p q es (λ i within. each (suc i) (omega (arith, within))) in
    λ i. cond (each 0 (omega arith) i) (e ∷ rest i) (rest i)

-- all but one item pass
pub filter_one : (p : Entry → Bool) (es : List Entry) (at : ℕ) → at < length es → p (entry_at es at) ≡ false → ((i : ℕ) → i < length es → i ≢ at → p (entry_at es i) ≡ true) → remove es at ≡ filter p es
filter_one p [] at within out others = absurd (omega (arith, within))
filter_one p (e ∷ es) zero within out others =
    sym (filter_all p es (λ i lt. others (suc i) (omega (arith, lt)) (λ same. omega (arith, same)))) ∙ sym (ap (λ b. cond b (e ∷ filter p es) (filter p es)) out)
filter_one p (e ∷ es) (suc at) within out others =
    ap (λ l. e ∷ l) (filter_one p es at (omega (arith, within)) out (λ i lt apart. others (suc i) (omega (arith, lt)) (λ same. apart (omega (arith, same)))))
    ∙ sym (ap (λ b. cond b (e ∷ filter p es) (filter p es)) (others zero (omega arith) (λ same. omega (arith, same))))

-- what is kept by a test of the callbacks
pub kept_has : (g : Callback → Bool) (es : List Entry) (c : Callback) → Has (callbacks_of (filter (λ e. g e.callback) es)) c → Has (callbacks_of es) c × (g c ≡ true)
kept_has g [] c h = absurd h
kept_has g (e ∷ es) c h = by (kept_has g es c) (g e.callback) refl h
  where
    by : (Has (callbacks_of (filter (λ x. g x.callback) es)) c → Has (callbacks_of es) c × (g c ≡ true)) → (b : Bool) → g e.callback ≡ b → Has (callbacks_of (cond b (e ∷ filter (λ x. g x.callback) es) (filter (λ x. g x.callback) es))) c → Has (callbacks_of (e ∷ es)) c × (g c ≡ true)
    by rest true is (inl same) = (inl same, ap g (sym same) ∙ is)
    by rest true is (inr k) = let r = rest k in (inr r.0, r.1)
    by rest false is k = let r = rest k in (inr r.0, r.1)

pub has_kept : (g : Callback → Bool) (es : List Entry) (c : Callback) → Has (callbacks_of es) c → g c ≡ true → Has (callbacks_of (filter (λ e. g e.callback) es)) c
has_kept g [] c h is = absurd h
has_kept g (e ∷ es) c h is = by (λ k. has_kept g es c k is) (g e.callback) refl h
  where
    by : (Has (callbacks_of es) c → Has (callbacks_of (filter (λ x. g x.callback) es)) c) → (b : Bool) → g e.callback ≡ b → Has (callbacks_of (e ∷ es)) c → Has (callbacks_of (cond b (e ∷ filter (λ x. g x.callback) es) (filter (λ x. g x.callback) es))) c
    by rest true e_is (inl same) = inl same
    by rest true e_is (inr k) = inr (rest k)
    by rest false e_is (inl same) = absurd (true≢false (sym is ∙ (ap g (sym same) ∙ e_is)))
    by rest false e_is (inr k) = rest k

-- the callbacks that are kept, as a list
pub kept_list : (f g : Callback → Bool) (es : List Entry) → ((c : Callback) → Has (callbacks_of es) c → f c ≡ g c) → callbacks_of (filter (λ e. f e.callback) es) ≡ filter g (callbacks_of es)
kept_list f g [] same = refl
kept_list f g (e ∷ es) same = by (kept_list f g es (λ c h. same c (inr h))) (f e.callback) ∙ ap (λ b. cond b (e.callback ∷ filter g (callbacks_of es)) (filter g (callbacks_of es))) (same e.callback (inl refl))
  where
    by : callbacks_of (filter (λ x. f x.callback) es) ≡ filter g (callbacks_of es) → (b : Bool) → callbacks_of (cond b (e ∷ filter (λ x. f x.callback) es) (filter (λ x. f x.callback) es)) ≡ cond b (e.callback ∷ filter g (callbacks_of es)) (filter g (callbacks_of es))
    by rest true = ap (λ l. e.callback ∷ l) rest
    by rest false = rest

-- a callback that is kept was handled by the same transaction
pub kept_handled : (g : Callback → Bool) (es : List Entry) → ((i j : ℕ) → i < j → j < length es → number_of (entry_at es i) < number_of (entry_at es j)) → (c : Callback) → Has (callbacks_of (filter (λ e. g e.callback) es)) c
    → handled_in (filter (λ e. g e.callback) es) c.number ≡ handled_in es c.number
kept_handled g [] rising c h = absurd h
kept_handled g (e ∷ es) rising c h = by (kept_handled g es (λ i j less below. rising (suc i) (suc j) (omega (arith, less)) (omega (arith, below))) c) (g e.callback) h
  where
    kept : List Entry
    kept = filter (λ x. g x.callback) es

    far : Has (callbacks_of es) c → e.callback.number ≢ c.number
    far k same =
        let r = at_has es c k in
        let lt = r.1 in
        let less = rising zero (suc r.0) (omega arith) (omega (arith, lt)) in
        let e_is : number_of (entry_at es r.0) ≡ c.number = ap (λ (x : Callback). x.number) r.2 in
        absurd (omega (arith, less, e_is, same))

    by : (Has (callbacks_of kept) c → handled_in kept c.number ≡ handled_in es c.number) → (b : Bool) → Has (callbacks_of (cond b (e ∷ kept) kept)) c → handled_in (cond b (e ∷ kept) kept) c.number ≡ handled_in (e ∷ es) c.number
    by rest true (inl same) =
        let here = eq-eqb e.callback.number c.number (ap (λ (x : Callback). x.number) same) in
        cond-true (e.callback.number == c.number) e.transaction (handled_in kept c.number) here ∙ sym (cond-true (e.callback.number == c.number) e.transaction (handled_in es c.number) here)
    by rest true (inr k) = ap (λ o. cond (e.callback.number == c.number) e.transaction o) (rest k)
    by rest false k =
        rest k ∙ sym (cond-false (e.callback.number == c.number) e.transaction (handled_in es c.number) (ne_eqb e.callback.number c.number (far (kept_has g es c k).0)))

-- fewer callbacks: one is taken away
pub remove_has : (es : List Entry) (at : ℕ) (c : Callback) → at < length es → Has (callbacks_of (remove es at)) c → Has (callbacks_of es) c
remove_has [] at c within h = absurd (omega (arith, within))
remove_has (e ∷ es) zero c within h = inr h
remove_has (e ∷ es) (suc at) c within (inl is) = inl is
remove_has (e ∷ es) (suc at) c within (inr h) = inr (remove_has es at c (omega (arith, within)) h)
