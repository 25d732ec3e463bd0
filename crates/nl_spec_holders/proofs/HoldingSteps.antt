-- Each step of a volume keeps who holds live pages, and what the committed and the frozen transaction need.
use Rattle.std.proofs.Common.{◌≡◌, ◌≢◌, ℕ, suc, zero, ◌+◌, ◌<◌, ◌≤◌, List, [], ◌∷◌, ◌++◌, length, drop, Some, refl, sym, ap, subst, ◌∙◌, ◌⊎◌, inl, inr, arith}
use Rattle.std.proofs.lemmas.Bool.{cases_eq}
use Rattle.std.proofs.lemmas.List.{length-append}
use Rattle.std.proofs.lemmas.Option.{same_Some}
use Rattle.nl_field.specs.declared.pointer.Tag.{Tag}
use Rattle.nl_field.specs.declared.pointer.Pointer.{Pointer}
use Rattle.nl_iface.specs.declared.Callback.{Callback}
use Rattle.nl_iface.specs.Holders.{IsRef, always, one, plain, tagged, times, wants, wants_tagged}
use Rattle.nl_iface.specs.Moves.{Acknowledges, Copies, MarksHandled}
use Rattle.nl_iface.specs.Names.{Has, LivePage, Names, SameTables, led, told_page}
use Rattle.nl_spec_holders.specs.Holding.{Holding, KeepsCommitted}
use Rattle.nl_spec_holders.specs.Lists.{ListGains, ListLoses, Renames, SameBehind}
use Rattle.nl_spec_holders.proofs.Words.{Frees, Holds, Programs, held, live_in}
use Rattle.nl_spec_holders.proofs.Lists.{one_yes, one_no, has_times, times_has, times_drop, times_push, times_drop_push, has_push}
use Rattle.nl_spec_holders.proofs.TableSteps as steps

pub weaker : {t : Names} {due less : ℕ → Type 0} {want loose : LivePage → Type 0} {name : ℕ} → ((n : ℕ) → less n → due n) → ((page : LivePage) → want page → loose page) → IsRef t due want name → IsRef t less loose name
weaker d w r = record {
  leads = (r.leads.0, r.leads.1, w r.leads.0 r.leads.2);
  safe = λ c n has m k. r.safe c n has m (d n k);
}

-- a stamp that is held is that of a live page
pub held_lives : (v : Holding) → Holds v → (s : ℕ) → 1 ≤ held v s → (q : ℕ) × (d : LivePage) × (live_in v.names q ≡ Some d) × (d.stamp ≡ s)
held_lives v f s h = by (cases_some (times tagged s v.running)) (cases_some (times tagged s v.flight)) (cases_some (times plain s v.freeing))
  where
    cases_some : (n : ℕ) → (n ≡ 0) ⊎ (1 ≤ n)
    cases_some zero = inl refl
    cases_some (suc n) = inr (omega arith)

    none : (a b c : ℕ) → a ≡ 0 → b ≡ 0 → c ≡ 0 → 1 ≤ a + b + c → ⊥
    none a b c x y z h = omega (arith, x, y, z, h)

    of : {due : ℕ → Type 0} {want : LivePage → Type 0} {name : ℕ} (stamp : ℕ) → stamp ≡ s → ((page : LivePage) → want page → page.stamp ≡ stamp) → IsRef v.names due want name → (q : ℕ) × (d : LivePage) × (live_in v.names q ≡ Some d) × (d.stamp ≡ s)
    of {due} {want} {name} stamp e w r = (led v.names name, r.leads.0, r.leads.1, w r.leads.0 r.leads.2 ∙ e)

    by : (times tagged s v.running ≡ 0) ⊎ (1 ≤ times tagged s v.running) → (times tagged s v.flight ≡ 0) ⊎ (1 ≤ times tagged s v.flight) → (times plain s v.freeing ≡ 0) ⊎ (1 ≤ times plain s v.freeing)
        → (q : ℕ) × (d : LivePage) × (live_in v.names q ≡ Some d) × (d.stamp ≡ s)
    by (inr x) _ _ = let m = times_has tagged v.running s x in of m.0.1.stamp m.2 (λ page w. w.1) (f.running m.0 m.1)
    by (inl x) (inr y) _ = let m = times_has tagged v.flight s y in of m.0.1.stamp m.2 (λ page w. w.1) (f.flight m.0 m.1)
    by (inl x) (inl y) (inr z) = let m = times_has plain v.freeing s z in of m.0.stamp m.2 (λ page w. w) (f.freeing m.0 m.1)
    by (inl x) (inl y) (inl z) = absurd (none (times tagged s v.running) (times tagged s v.flight) (times plain s v.freeing) x y z h)

-- A page is programmed, and is in flight.
module _ (v : Holding) (t : Names) (flight : List (Tag × Pointer)) (p : ℕ) (page : LivePage) (s : Programs p page v.names t) (g : ListGains tagged (page.tag, record { name = p; stamp = page.stamp }) v.flight flight) where
  pub program-held : Holds v → Holds (record v { names = t; flight = flight })
  program-held f = record {
    table = steps.programs-table p page v.names t s f.table;
    running = λ h has. steps.programs-ref p page v.names t s always (wants_tagged h) h.1.name (f.running h has);
    flight = λ h has. in_flight h (g.only h has);
    freeing = λ h has. steps.programs-ref p page v.names t s always (wants h) h.name (f.freeing h has);
    once = λ x. once x (cases_eq page.stamp x);
    each = λ q d is. each q d (steps.program-back p page v.names t s q d is);
  }
    where
      in_flight : (h : Tag × Pointer) → (h ≡ (page.tag, record { name = p; stamp = page.stamp })) ⊎ Has v.flight h → IsRef t always (wants_tagged h) h.1.name
      in_flight h (inl e) = subst (λ (x : Tag × Pointer). IsRef t always (wants_tagged x) x.1.name) (sym e)
          (steps.ref_of_place (steps.programs-table p page v.names t s f.table) p page always (wants_tagged (page.tag, record { name = p; stamp = page.stamp })) (steps.program-new p page v.names t s) (refl, refl))
      in_flight h (inr has) = steps.programs-ref p page v.names t s always (wants_tagged h) h.1.name (f.flight h has)

      more : (a b b' c o : ℕ) → b' ≡ b + o → o ≡ 0 → a + b + c ≤ 1 → a + b' + c ≤ 1
      more a b b' c o e z h = omega (arith, e, z, h)

      first : (a b b' c o : ℕ) → b' ≡ b + o → o ≡ 1 → (1 ≤ a + b + c → ⊥) → a + b' + c ≤ 1
      first a b b' c o e z h = by (cases_le (a + b + c))
        where
          cases_le : (n : ℕ) → (n ≡ 0) ⊎ (1 ≤ n)
          cases_le zero = inl refl
          cases_le (suc n) = inr (omega arith)

          by : (a + b + c ≡ 0) ⊎ (1 ≤ a + b + c) → a + b' + c ≤ 1
          by (inl k) = omega (arith, e, z, k)
          by (inr k) = absurd (h k)

      once : (x : ℕ) → (page.stamp ≡ x) ⊎ (page.stamp ≢ x) → held (record v { names = t; flight = flight }) x ≤ 1
      once x (inl e) = first (times tagged x v.running) (times tagged x v.flight) (times tagged x flight) (times plain x v.freeing) (one page.stamp x) (g.count x) (one_yes page.stamp x e)
          (λ k. let h = held_lives v f x k in s.fresh h.0 h.1 h.2 (h.3 ∙ sym e))
      once x (inr far) = more (times tagged x v.running) (times tagged x v.flight) (times tagged x flight) (times plain x v.freeing) (one page.stamp x) (g.count x) (one_no page.stamp x far) (f.once x)

      grown : (a b b' c o : ℕ) → b' ≡ b + o → 1 ≤ a + b + c → 1 ≤ a + b' + c
      grown a b b' c o e h = omega (arith, e, h)

      fresh : (a b c o : ℕ) → b ≡ c + o → o ≡ 1 → (x y : ℕ) → 1 ≤ x + b + y
      fresh a b c o e z x y = omega (arith, e, z)

      each : (q : ℕ) (d : LivePage) → ((q ≡ p) × (page ≡ d)) ⊎ ((q ≢ p) × (live_in v.names q ≡ Some d)) → 1 ≤ held (record v { names = t; flight = flight }) d.stamp
      each q d (inl x) = fresh 0 (times tagged d.stamp flight) (times tagged d.stamp v.flight) (one page.stamp d.stamp) (g.count d.stamp) (one_yes page.stamp d.stamp (ap (λ (l : LivePage). l.stamp) x.1)) (times tagged d.stamp v.running) (times plain d.stamp v.freeing)
      each q d (inr x) = grown (times tagged d.stamp v.running) (times tagged d.stamp v.flight) (times tagged d.stamp flight) (times plain d.stamp v.freeing) (one page.stamp d.stamp) (g.count d.stamp) (f.each q d x.1)

  pub program-safe : KeepsCommitted v → KeepsCommitted (record v { names = t; flight = flight })
  program-safe f = record {
    committed = λ h has. steps.programs-ref p page v.names t s (λ n. n ≤ v.decided) (wants h) h.name (f.committed h has);
    committed_kept = f.committed_kept;
    frozen = λ h has. steps.programs-ref p page v.names t s (λ n. n ≤ v.number) (wants h) h.name (f.frozen h has);
    frozen_kept = f.frozen_kept;
    decided_first = f.decided_first;
    next_later = f.next_later;
    leaving_awaits = f.leaving_awaits;
    due_awaits = f.due_awaits;
  }

-- A live page is moved. The lists stay.
module _ (v : Holding) (t : Names) (c : Callback) (s : Copies c v.names t) where
  pub copy-held : Holds v → Holds (record v { names = t })
  copy-held f = record {
    table = steps.copies-table c v.names t s f.table;
    running = λ h has. steps.copies-ref c v.names t s always (wants_tagged h) h.1.name (f.running h has);
    flight = λ h has. steps.copies-ref c v.names t s always (wants_tagged h) h.1.name (f.flight h has);
    freeing = λ h has. steps.copies-ref c v.names t s always (wants h) h.name (f.freeing h has);
    once = f.once;
    each = λ q d is. let o = steps.copy-back c v.names t s q d is in f.each o.0 d o.1;
  }

  pub copy-safe : KeepsCommitted v → KeepsCommitted (record v { names = t })
  copy-safe f = record {
    committed = λ h has. steps.copies-ref c v.names t s (λ n. n ≤ v.decided) (wants h) h.name (f.committed h has);
    committed_kept = f.committed_kept;
    frozen = λ h has. steps.copies-ref c v.names t s (λ n. n ≤ v.number) (wants h) h.name (f.frozen h has);
    frozen_kept = f.frozen_kept;
    decided_first = f.decided_first;
    next_later = f.next_later;
    leaving_awaits = f.leaving_awaits;
    due_awaits = f.due_awaits;
  }

-- A victim is begun or erased, or a write failed.
module _ (v : Holding) (t : Names) (s : SameTables v.names t) where
  pub erase-held : Holds v → Holds (record v { names = t })
  erase-held f = record {
    table = steps.same-table v.names t s f.table;
    running = λ h has. steps.same-ref v.names t s always (wants_tagged h) h.1.name (f.running h has);
    flight = λ h has. steps.same-ref v.names t s always (wants_tagged h) h.1.name (f.flight h has);
    freeing = λ h has. steps.same-ref v.names t s always (wants h) h.name (f.freeing h has);
    once = f.once;
    each = λ q d is. f.each q d (sym (s.live q) ∙ is);
  }

  pub erase-safe : KeepsCommitted v → KeepsCommitted (record v { names = t })
  erase-safe f = record {
    committed = λ h has. steps.same-ref v.names t s (λ n. n ≤ v.decided) (wants h) h.name (f.committed h has);
    committed_kept = f.committed_kept;
    frozen = λ h has. steps.same-ref v.names t s (λ n. n ≤ v.number) (wants h) h.name (f.frozen h has);
    frozen_kept = f.frozen_kept;
    decided_first = f.decided_first;
    next_later = f.next_later;
    leaving_awaits = f.leaving_awaits;
    due_awaits = f.due_awaits;
  }

-- A page in flight becomes one of the running metadata.
module _ (v : Holding) (h : Tag × Pointer) (running flight : List (Tag × Pointer)) (l : ListLoses tagged h v.flight flight) (g : ListGains tagged h v.running running) where
  install-count : (x : ℕ) → held (record v { running = running; flight = flight }) x ≡ held v x
  install-count x = same (times tagged x v.running) (times tagged x running) (times tagged x v.flight) (times tagged x flight) (times plain x v.freeing) (one h.1.stamp x) (g.count x) (l.count x)
    where
      same : (a a' b b' c o : ℕ) → a' ≡ a + o → b ≡ b' + o → a' + b' + c ≡ a + b + c
      same a a' b b' c o e z = omega (arith, e, z)

  pub install-held : Holds v → Holds (record v { running = running; flight = flight })
  install-held f = record {
    table = f.table;
    running = λ x has. now x (g.only x has);
    flight = λ x has. f.flight x (l.only x has);
    freeing = f.freeing;
    once = λ x. subst (λ (n : ℕ). n ≤ 1) (sym (install-count x)) (f.once x);
    each = λ q d is. subst (λ (n : ℕ). 1 ≤ n) (sym (install-count d.stamp)) (f.each q d is);
  }
    where
      now : (x : Tag × Pointer) → (x ≡ h) ⊎ Has v.running x → IsRef v.names always (wants_tagged x) x.1.name
      now x (inl e) = subst (λ (y : Tag × Pointer). IsRef v.names always (wants_tagged y) y.1.name) (sym e) (f.flight h l.had)
      now x (inr has) = f.running x has

  pub install-safe : KeepsCommitted v → KeepsCommitted (record v { running = running; flight = flight })
  install-safe f = record {
    committed = f.committed;
    committed_kept = λ p has. more (times tagged p.stamp v.running) (times tagged p.stamp running) (times plain p.stamp (drop v.due v.freeing)) (one h.1.stamp p.stamp) (g.count p.stamp) (f.committed_kept p has);
    frozen = f.frozen;
    frozen_kept = λ p has. more (times tagged p.stamp v.running) (times tagged p.stamp running) (times plain p.stamp (drop v.leaving v.freeing)) (one h.1.stamp p.stamp) (g.count p.stamp) (f.frozen_kept p has);
    decided_first = f.decided_first;
    next_later = f.next_later;
    leaving_awaits = f.leaving_awaits;
    due_awaits = f.due_awaits;
  }
    where
      more : (a a' c o : ℕ) → a' ≡ a + o → 1 ≤ a + c → 1 ≤ a' + c
      more a a' c o e k = omega (arith, e, k)

-- A page leaves the running metadata and awaits its free, by a pointer of its stamp: its own, or one whose name is its place.
module _ (v : Holding) (h : Tag × Pointer) (p : Pointer) (running : List (Tag × Pointer)) (l : ListLoses tagged h v.running running) (same_stamp : h.1.stamp ≡ p.stamp) where
  cut-one : (x : ℕ) → one p.stamp x ≡ one h.1.stamp x
  cut-one x = ap (λ (n : ℕ). one n x) (sym same_stamp)

  cut-count : (x : ℕ) → held (record v { running = running; freeing = v.freeing ++ p ∷ [] }) x ≡ held v x
  cut-count x = same (times tagged x v.running) (times tagged x running) (times tagged x v.flight) (times plain x v.freeing) (times plain x (v.freeing ++ p ∷ [])) (one h.1.stamp x) (l.count x) (times_push plain x v.freeing p ∙ ap (λ (n : ℕ). times plain x v.freeing + n) (cut-one x))
    where
      same : (a a' b c c' o : ℕ) → a ≡ a' + o → c' ≡ c + o → a' + b + c' ≡ a + b + c
      same a a' b c c' o e z = omega (arith, e, z)

  pub cut-held : IsRef v.names always (wants p) p.name → Holds v → Holds (record v { running = running; freeing = v.freeing ++ p ∷ [] })
  cut-held ref f = record {
    table = f.table;
    running = λ x has. f.running x (l.only x has);
    flight = f.flight;
    freeing = λ y has. now y (has_push v.freeing p y has);
    once = λ x. subst (λ (n : ℕ). n ≤ 1) (sym (cut-count x)) (f.once x);
    each = λ q d is. subst (λ (n : ℕ). 1 ≤ n) (sym (cut-count d.stamp)) (f.each q d is);
  }
    where
      now : (y : Pointer) → Has v.freeing y ⊎ (p ≡ y) → IsRef v.names always (wants y) y.name
      now y (inl has) = f.freeing y has
      now y (inr e) = subst (λ (z : Pointer). IsRef v.names always (wants z) z.name) e ref

  -- its own pointer will do
  pub cut-own : Holds v → h.1 ≡ p → IsRef v.names always (wants p) p.name
  cut-own f e = subst (λ (z : Pointer). IsRef v.names always (wants z) z.name) e (weaker (λ n k. k) (λ page w. w.1) (f.running h l.had))

  pub cut-safe : KeepsCommitted v → KeepsCommitted (record v { running = running; freeing = v.freeing ++ p ∷ [] })
  cut-safe f = record {
    committed = f.committed;
    committed_kept = λ y has. kept y.stamp v.due f.due_awaits (f.committed_kept y has);
    frozen = f.frozen;
    frozen_kept = λ y has. kept y.stamp v.leaving f.leaving_awaits (f.frozen_kept y has);
    decided_first = f.decided_first;
    next_later = f.next_later;
    leaving_awaits = longer v.leaving f.leaving_awaits;
    due_awaits = longer v.due f.due_awaits;
  }
    where
      longer : (k : ℕ) → k ≤ length v.freeing → k ≤ length (v.freeing ++ p ∷ [])
      longer k le = let n = length-append v.freeing (p ∷ []) in omega (arith, n, le)

      moved : (a a' c c' o : ℕ) → a ≡ a' + o → c' ≡ c + o → 1 ≤ a + c → 1 ≤ a' + c'
      moved a a' c c' o e z k = omega (arith, e, z, k)

      kept : (x k : ℕ) → k ≤ length v.freeing → 1 ≤ times tagged x v.running + times plain x (drop k v.freeing) → 1 ≤ times tagged x running + times plain x (drop k (v.freeing ++ p ∷ []))
      kept x k le = moved (times tagged x v.running) (times tagged x running) (times plain x (drop k v.freeing)) (times plain x (drop k (v.freeing ++ p ∷ []))) (one h.1.stamp x) (l.count x) (times_drop_push plain x k v.freeing p le ∙ ap (λ (n : ℕ). times plain x (drop k v.freeing) + n) (cut-one x))

-- A page in flight is freed.
module _ (v : Holding) (t : Names) (h : Tag × Pointer) (flight : List (Tag × Pointer)) (page : LivePage) (same_stamp : page.stamp ≡ h.1.stamp) (s : Frees (led v.names h.1.name) page v.names t) (l : ListLoses tagged h v.flight flight) where
  drop-count : (x : ℕ) → held v x ≡ held (record v { names = t; flight = flight }) x + one h.1.stamp x
  drop-count x = same (times tagged x v.running) (times tagged x v.flight) (times tagged x flight) (times plain x v.freeing) (one h.1.stamp x) (l.count x)
    where
      same : (a b b' c o : ℕ) → b ≡ b' + o → a + b + c ≡ (a + b' + c) + o
      same a b b' c o e = omega (arith, e)

  -- what is held yet has another stamp
  drop-other : Holds v → (x : ℕ) → 1 ≤ held (record v { names = t; flight = flight }) x → x ≡ page.stamp → ⊥
  drop-other f x k e = two (held v x) (held (record v { names = t; flight = flight }) x) (one h.1.stamp x) (drop-count x) (one_yes h.1.stamp x (sym same_stamp ∙ sym e)) (f.once x) k
    where
      two : (a b o : ℕ) → a ≡ b + o → o ≡ 1 → a ≤ 1 → 1 ≤ b → ⊥
      two a b o e z le k = omega (arith, e, z, le, k)

  in_first : (a b c : ℕ) → 1 ≤ a → 1 ≤ a + b + c
  in_first a b c k = omega (arith, k)

  in_second : (a b c : ℕ) → 1 ≤ b → 1 ≤ a + b + c
  in_second a b c k = omega (arith, k)

  in_third : (a b c : ℕ) → 1 ≤ c → 1 ≤ a + b + c
  in_third a b c k = omega (arith, k)

  pub drop-held : Holds v → Holds (record v { names = t; flight = flight })
  drop-held f = record {
    table = steps.frees-table (led v.names h.1.name) page v.names t s f.table;
    running = λ x has. steps.frees-ref (led v.names h.1.name) page v.names t s always (wants_tagged x) x.1.name
        (λ w. drop-other f x.1.stamp (in_first (times tagged x.1.stamp v.running) (times tagged x.1.stamp flight) (times plain x.1.stamp v.freeing) (has_times tagged v.running x x.1.stamp has refl)) (sym w.1)) (f.running x has);
    flight = λ x has. steps.frees-ref (led v.names h.1.name) page v.names t s always (wants_tagged x) x.1.name
        (λ w. drop-other f x.1.stamp (in_second (times tagged x.1.stamp v.running) (times tagged x.1.stamp flight) (times plain x.1.stamp v.freeing) (has_times tagged flight x x.1.stamp has refl)) (sym w.1)) (f.flight x (l.only x has));
    freeing = λ x has. steps.frees-ref (led v.names h.1.name) page v.names t s always (wants x) x.name
        (λ w. drop-other f x.stamp (in_third (times tagged x.stamp v.running) (times tagged x.stamp flight) (times plain x.stamp v.freeing) (has_times plain v.freeing x x.stamp has refl)) (sym w)) (f.freeing x has);
    once = λ x. less (held v x) (held (record v { names = t; flight = flight }) x) (one h.1.stamp x) (drop-count x) (f.once x);
    each = λ q d is.
        let g = steps.free-back (led v.names h.1.name) page v.names t s q d is in
        stays (held v d.stamp) (held (record v { names = t; flight = flight }) d.stamp) (one h.1.stamp d.stamp) (drop-count d.stamp)
        (one_no h.1.stamp d.stamp (λ e. g.0 (f.table.stamps_differ q (led v.names h.1.name) d page g.1 s.was (sym e ∙ sym same_stamp)))) (f.each q d g.1);
  }
    where
      less : (a b o : ℕ) → a ≡ b + o → a ≤ 1 → b ≤ 1
      less a b o e le = omega (arith, e, le)

      stays : (a b o : ℕ) → a ≡ b + o → o ≡ 0 → 1 ≤ a → 1 ≤ b
      stays a b o e z k = omega (arith, e, z, k)

  pub drop-safe : Holds v → KeepsCommitted v → KeepsCommitted (record v { names = t; flight = flight })
  drop-safe k f = record {
    committed = λ x has. steps.frees-ref (led v.names h.1.name) page v.names t s (λ n. n ≤ v.decided) (wants x) x.name (λ w. other x v.due (f.committed_kept x has) w) (f.committed x has);
    committed_kept = f.committed_kept;
    frozen = λ x has. steps.frees-ref (led v.names h.1.name) page v.names t s (λ n. n ≤ v.number) (wants x) x.name (λ w. other x v.leaving (f.frozen_kept x has) w) (f.frozen x has);
    frozen_kept = f.frozen_kept;
    decided_first = f.decided_first;
    next_later = f.next_later;
    leaving_awaits = f.leaving_awaits;
    due_awaits = f.due_awaits;
  }
    where
      whole : (a b c c' : ℕ) → c' ≤ c → 1 ≤ a + c' → 1 ≤ a + b + c
      whole a b c c' le k = omega (arith, le, k)

      other : (x : Pointer) (n : ℕ) → 1 ≤ times tagged x.stamp v.running + times plain x.stamp (drop n v.freeing) → wants x page → ⊥
      other x n one w = drop-other k x.stamp (whole (times tagged x.stamp v.running) (times tagged x.stamp flight) (times plain x.stamp v.freeing) (times plain x.stamp (drop n v.freeing)) (times_drop plain x.stamp n v.freeing) one) (sym w)

-- A callback is handled: the holder of its stamp, wherever it is, has as its name the place to which the old name leads now. The
-- transaction comes after the frozen one.
module _ (v : Holding) (t : Names) (c : Callback) (n : ℕ) (later : v.number < n) (s : MarksHandled c n v.names t)
    (running flight : List (Tag × Pointer)) (freeing : List Pointer)
    (in_running : Renames tagged wants_tagged c.stamp (led v.names c.before) v.running running)
    (in_flight : Renames tagged wants_tagged c.stamp (led v.names c.before) v.flight flight)
    (in_freeing : Renames plain wants c.stamp (led v.names c.before) v.freeing freeing) (behind : SameBehind plain v.freeing freeing) where
  -- one with another stamp has another name
  handle-other : Holds v → {due : ℕ → Type 0} {want : LivePage → Type 0} {name : ℕ} → (want (told_page c) → ⊥) → IsRef v.names due want name → name ≢ c.before
  handle-other f {due} {want} {name} far r e = far (subst want (same_Some r.leads.0 (told_page c) (sym r.leads.1 ∙ (ap (λ (m : ℕ). live_in v.names (led v.names m)) e ∙ f.table.called c s.has))) r.leads.2)

  -- one with its stamp wants its page
  handle-wants : Holds v → {due : ℕ → Type 0} {want : LivePage → Type 0} {name : ℕ} → ((d : LivePage) → want d → d.stamp ≡ c.stamp) → IsRef v.names due want name → want (told_page c)
  handle-wants f {due} {want} {name} at r = subst want (same_Some r.leads.0 (told_page c) (sym r.leads.1 ∙ (ap v.names.live (f.table.stamps_differ (led v.names name) (led v.names c.before) r.leads.0 (told_page c) r.leads.1 (f.table.called c s.has) (at r.leads.0 r.leads.2)) ∙ f.table.called c s.has))) r.leads.2

  handle-ref : Holds v → {want : LivePage → Type 0} {name : ℕ} → (want (told_page c) → ⊥) → IsRef v.names always want name → IsRef t always want name
  handle-ref f {want} {name} far r = steps.marks-ref c n v.names t s f.table always want name (λ u. handle-other f far r) r

  handle-new : Holds v → (want : LivePage → Type 0) (name : ℕ) → name ≡ led v.names c.before → want (told_page c) → IsRef t always want name
  handle-new f want name e w = subst (λ (m : ℕ). IsRef t always want m) (sym e)
      (steps.ref_of_place (steps.marks-table c n v.names t s f.table) (led v.names c.before) (told_page c) always want (s.live (led v.names c.before) ∙ f.table.called c s.has) w)

  handle-count : (x : ℕ) → held (record v { names = t; running = running; flight = flight; freeing = freeing }) x ≡ held v x
  handle-count x = same (times tagged x v.running) (times tagged x running) (times tagged x v.flight) (times tagged x flight) (times plain x v.freeing) (times plain x freeing) (in_running.count x) (in_flight.count x) (in_freeing.count x)
    where
      same : (a a' b b' d d' : ℕ) → a' ≡ a → b' ≡ b → d' ≡ d → a' + b' + d' ≡ a + b + d
      same a a' b b' d d' x y z = omega (arith, x, y, z)

  pub handle-held : Holds v → Holds (record v { names = t; running = running; flight = flight; freeing = freeing })
  handle-held f = record {
    table = steps.marks-table c n v.names t s f.table;
    running = λ y has. with_tag v.running f.running y (in_running.each y has);
    flight = λ y has. with_tag v.flight f.flight y (in_flight.each y has);
    freeing = λ y has. without y (in_freeing.each y has);
    once = λ x. subst (λ (m : ℕ). m ≤ 1) (sym (handle-count x)) (f.once x);
    each = λ q d is. subst (λ (m : ℕ). 1 ≤ m) (sym (handle-count d.stamp)) (f.each q d (sym (s.live q) ∙ is));
  }
    where
      with_tag : (xs : List (Tag × Pointer)) → ((h : Tag × Pointer) → Has xs h → IsRef v.names always (wants_tagged h) h.1.name) → (y : Tag × Pointer)
          → ((y.1.stamp ≢ c.stamp) × Has xs y) ⊎ ((y.1.name ≡ led v.names c.before) × ((x : Tag × Pointer) × Has xs x × (x.1.stamp ≡ c.stamp) × ((page : LivePage) → wants_tagged x page → wants_tagged y page)))
          → IsRef t always (wants_tagged y) y.1.name
      with_tag xs all y (inl k) = handle-ref f (λ w. k.0 (sym w.1)) (all y k.1)
      with_tag xs all y (inr k) = let x = k.1 in handle-new f (wants_tagged y) y.1.name k.0 (x.3 (told_page c) (handle-wants f (λ d w. w.1 ∙ x.2) (all x.0 x.1)))

      without : (y : Pointer)
          → ((y.stamp ≢ c.stamp) × Has v.freeing y) ⊎ ((y.name ≡ led v.names c.before) × ((x : Pointer) × Has v.freeing x × (x.stamp ≡ c.stamp) × ((page : LivePage) → wants x page → wants y page)))
          → IsRef t always (wants y) y.name
      without y (inl k) = handle-ref f (λ w. k.0 (sym w)) (f.freeing y k.1)
      without y (inr k) = let x = k.1 in handle-new f (wants y) y.name k.0 (x.3 (told_page c) (handle-wants f (λ d w. w ∙ x.2) (f.freeing x.0 x.1)))

  pub handle-safe : Holds v → KeepsCommitted v → KeepsCommitted (record v { names = t; running = running; flight = flight; freeing = freeing })
  handle-safe k f = record {
    committed = λ p has. steps.marks-ref c n v.names t s k.table (λ m. m ≤ v.decided) (wants p) p.name (λ le. absurd (early v.decided f.decided_first le)) (f.committed p has);
    committed_kept = λ p has. kept (times tagged p.stamp v.running) (times tagged p.stamp running) (times plain p.stamp (drop v.due v.freeing)) (times plain p.stamp (drop v.due freeing)) (in_running.count p.stamp) (behind v.due p.stamp) (f.committed_kept p has);
    frozen = λ p has. steps.marks-ref c n v.names t s k.table (λ m. m ≤ v.number) (wants p) p.name (λ le. absurd (early v.number (omega arith) le)) (f.frozen p has);
    frozen_kept = λ p has. kept (times tagged p.stamp v.running) (times tagged p.stamp running) (times plain p.stamp (drop v.leaving v.freeing)) (times plain p.stamp (drop v.leaving freeing)) (in_running.count p.stamp) (behind v.leaving p.stamp) (f.frozen_kept p has);
    decided_first = f.decided_first;
    next_later = f.next_later;
    leaving_awaits = subst (λ (m : ℕ). v.leaving ≤ m) (sym in_freeing.size) f.leaving_awaits;
    due_awaits = subst (λ (m : ℕ). v.due ≤ m) (sym in_freeing.size) f.due_awaits;
  }
    where
      early : (m : ℕ) → m ≤ v.number → n ≤ m → ⊥
      early m le k = omega (arith, le, k, later)

      kept : (a a' d d' : ℕ) → a' ≡ a → d' ≡ d → 1 ≤ a + d → 1 ≤ a' + d'
      kept a a' d d' x y z = omega (arith, x, y, z)

-- The running metadata is frozen for the transaction that is next, and takes away all that awaits its free.
module _ (v : Holding) (frozen : List Pointer) (next : ℕ) (later : v.next < next) (all : (p : Pointer) → Has frozen p → (h : Tag × Pointer) × Has v.running h × (h.1 ≡ p)) where
  pub freeze-held : Holds v → Holds (record v { frozen = frozen; number = v.next; leaving = length v.freeing; next = next })
  freeze-held f = record { table = f.table; running = f.running; flight = f.flight; freeing = f.freeing; once = f.once; each = f.each }

  pub freeze-safe : Holds v → KeepsCommitted v → KeepsCommitted (record v { frozen = frozen; number = v.next; leaving = length v.freeing; next = next })
  freeze-safe k f = record {
    committed = f.committed;
    committed_kept = f.committed_kept;
    frozen = λ p has. let x = all p has in subst (λ (y : Pointer). IsRef v.names (λ n. n ≤ v.next) (wants y) y.name) x.2 (weaker (λ n le. tt) (λ page w. w.1) (k.running x.0 x.1));
    frozen_kept = λ p has. let x = all p has in first (times tagged p.stamp v.running) (times plain p.stamp (drop (length v.freeing) v.freeing)) (has_times tagged v.running x.0 p.stamp x.1 (ap (λ (y : Pointer). y.stamp) x.2));
    decided_first = let a = f.decided_first in let b = f.next_later in omega (arith, a, b);
    next_later = later;
    leaving_awaits = omega arith;
    due_awaits = f.due_awaits;
  }
    where
      first : (a b : ℕ) → 1 ≤ a → 1 ≤ a + b
      first a b k = omega (arith, k)

-- The frozen transaction counts: what it takes away is due.
module _ (v : Holding) where
  pub decide-held : Holds v → Holds (record v { committed = v.frozen; decided = v.number; due = v.leaving; frozen = []; leaving = 0 })
  decide-held f = record { table = f.table; running = f.running; flight = f.flight; freeing = f.freeing; once = f.once; each = f.each }

  pub decide-safe : KeepsCommitted v → KeepsCommitted (record v { committed = v.frozen; decided = v.number; due = v.leaving; frozen = []; leaving = 0 })
  decide-safe f = record {
    committed = f.frozen;
    committed_kept = f.frozen_kept;
    frozen = λ p has. absurd has;
    frozen_kept = λ p has. absurd has;
    decided_first = omega arith;
    next_later = f.next_later;
    leaving_awaits = omega arith;
    due_awaits = f.leaving_awaits;
  }

-- The frozen transaction may count or not, as its last program failed, or its pages are running pages only.
module _ (v : Holding) (committed : List Pointer) (either : (p : Pointer) → Has committed p → Has v.committed p ⊎ Has v.frozen p) (none_due : v.due ≡ 0) (next : ℕ) (later : v.decided < next) where
  pub doubt-held : Holds v → Holds (record v { committed = committed; frozen = []; number = v.decided; leaving = 0; next = next })
  doubt-held f = record { table = f.table; running = f.running; flight = f.flight; freeing = f.freeing; once = f.once; each = f.each }

  pub doubt-safe : KeepsCommitted v → KeepsCommitted (record v { committed = committed; frozen = []; number = v.decided; leaving = 0; next = next })
  doubt-safe f = record {
    committed = λ p has. ref p (either p has);
    committed_kept = λ p has. kept p (either p has);
    frozen = λ p has. absurd has;
    frozen_kept = λ p has. absurd has;
    decided_first = omega arith;
    next_later = later;
    leaving_awaits = omega arith;
    due_awaits = f.due_awaits;
  }
    where
      ref : (p : Pointer) → Has v.committed p ⊎ Has v.frozen p → IsRef v.names (λ n. n ≤ v.decided) (wants p) p.name
      ref p (inl has) = f.committed p has
      ref p (inr has) = weaker (λ n le. let a = f.decided_first in omega (arith, a, le)) (λ page w. w) (f.frozen p has)

      all : (a b b' : ℕ) → b' ≤ b → 1 ≤ a + b' → 1 ≤ a + b
      all a b b' le k = omega (arith, le, k)

      kept : (p : Pointer) → Has v.committed p ⊎ Has v.frozen p → 1 ≤ times tagged p.stamp v.running + times plain p.stamp (drop v.due v.freeing)
      kept p (inl has) = f.committed_kept p has
      kept p (inr has) = subst (λ (k : ℕ). 1 ≤ times tagged p.stamp v.running + times plain p.stamp (drop k v.freeing)) (sym none_due)
          (all (times tagged p.stamp v.running) (times plain p.stamp v.freeing) (times plain p.stamp (drop v.leaving v.freeing)) (times_drop plain p.stamp v.leaving v.freeing) (f.frozen_kept p has))

-- Callbacks of transactions that count are acknowledged.
module _ (v : Holding) (t : Names) (upto : ℕ) (counts : upto ≤ v.decided) (s : Acknowledges upto v.names t) where
  pub acknowledge-held : Holds v → Holds (record v { names = t })
  acknowledge-held f = record {
    table = steps.acknowledges-table upto v.names t s f.table;
    running = λ h has. steps.acknowledges-ref upto v.names t s always (wants_tagged h) h.1.name (λ n le. tt) (f.running h has);
    flight = λ h has. steps.acknowledges-ref upto v.names t s always (wants_tagged h) h.1.name (λ n le. tt) (f.flight h has);
    freeing = λ h has. steps.acknowledges-ref upto v.names t s always (wants h) h.name (λ n le. tt) (f.freeing h has);
    once = f.once;
    each = λ q d is. f.each q d (sym (s.live q) ∙ is);
  }

  pub acknowledge-safe : KeepsCommitted v → KeepsCommitted (record v { names = t })
  acknowledge-safe f = record {
    committed = λ h has. steps.acknowledges-ref upto v.names t s (λ n. n ≤ v.decided) (wants h) h.name (λ n le. omega (arith, le, counts)) (f.committed h has);
    committed_kept = f.committed_kept;
    frozen = λ h has. steps.acknowledges-ref upto v.names t s (λ n. n ≤ v.number) (wants h) h.name (λ n le. let a = f.decided_first in omega (arith, le, counts, a)) (f.frozen h has);
    frozen_kept = f.frozen_kept;
    decided_first = f.decided_first;
    next_later = f.next_later;
    leaving_awaits = f.leaving_awaits;
    due_awaits = f.due_awaits;
  }

-- The first of the pages that are due is freed, while nothing is frozen.
module _ (v : Holding) (t : Names) (p : Pointer) (rest : List Pointer) (k : ℕ) (is : v.freeing ≡ p ∷ rest) (due : v.due ≡ suc k) (thawed : v.frozen ≡ []) (none_leaves : v.leaving ≡ 0)
    (page : LivePage) (same_stamp : page.stamp ≡ p.stamp) (s : Frees (led v.names p.name) page v.names t) where
  free-count : (x : ℕ) → held v x ≡ held (record v { names = t; freeing = rest; due = k }) x + one p.stamp x
  free-count x = same (times tagged x v.running) (times tagged x v.flight) (times plain x v.freeing) (times plain x rest) (one p.stamp x) (ap (times plain x) is)
    where
      same : (a b c c' o : ℕ) → c ≡ o + c' → a + b + c ≡ (a + b + c') + o
      same a b c c' o e = omega (arith, e)

  free-other : Holds v → (x : ℕ) → 1 ≤ held (record v { names = t; freeing = rest; due = k }) x → x ≡ page.stamp → ⊥
  free-other f x l e = two (held v x) (held (record v { names = t; freeing = rest; due = k }) x) (one p.stamp x) (free-count x) (one_yes p.stamp x (sym same_stamp ∙ sym e)) (f.once x) l
    where
      two : (a b o : ℕ) → a ≡ b + o → o ≡ 1 → a ≤ 1 → 1 ≤ b → ⊥
      two a b o e z le k = omega (arith, e, z, le, k)

  on_first : (a b c : ℕ) → 1 ≤ a → 1 ≤ a + b + c
  on_first a b c k = omega (arith, k)

  on_second : (a b c : ℕ) → 1 ≤ b → 1 ≤ a + b + c
  on_second a b c k = omega (arith, k)

  on_third : (a b c : ℕ) → 1 ≤ c → 1 ≤ a + b + c
  on_third a b c k = omega (arith, k)

  pub free-held : Holds v → Holds (record v { names = t; freeing = rest; due = k })
  free-held f = record {
    table = steps.frees-table (led v.names p.name) page v.names t s f.table;
    running = λ x has. steps.frees-ref (led v.names p.name) page v.names t s always (wants_tagged x) x.1.name
        (λ w. free-other f x.1.stamp (on_first (times tagged x.1.stamp v.running) (times tagged x.1.stamp v.flight) (times plain x.1.stamp rest) (has_times tagged v.running x x.1.stamp has refl)) (sym w.1)) (f.running x has);
    flight = λ x has. steps.frees-ref (led v.names p.name) page v.names t s always (wants_tagged x) x.1.name
        (λ w. free-other f x.1.stamp (on_second (times tagged x.1.stamp v.running) (times tagged x.1.stamp v.flight) (times plain x.1.stamp rest) (has_times tagged v.flight x x.1.stamp has refl)) (sym w.1)) (f.flight x has);
    freeing = λ x has. steps.frees-ref (led v.names p.name) page v.names t s always (wants x) x.name
        (λ w. free-other f x.stamp (on_third (times tagged x.stamp v.running) (times tagged x.stamp v.flight) (times plain x.stamp rest) (has_times plain rest x x.stamp has refl)) (sym w)) (f.freeing x (subst (λ xs. Has xs x) (sym is) (inr has)));
    once = λ x. less (held v x) (held (record v { names = t; freeing = rest; due = k }) x) (one p.stamp x) (free-count x) (f.once x);
    each = λ q d at.
        let g = steps.free-back (led v.names p.name) page v.names t s q d at in
        stays (held v d.stamp) (held (record v { names = t; freeing = rest; due = k }) d.stamp) (one p.stamp d.stamp) (free-count d.stamp)
        (one_no p.stamp d.stamp (λ e. g.0 (f.table.stamps_differ q (led v.names p.name) d page g.1 s.was (sym e ∙ sym same_stamp)))) (f.each q d g.1);
  }
    where
      less : (a b o : ℕ) → a ≡ b + o → a ≤ 1 → b ≤ 1
      less a b o e le = omega (arith, e, le)

      stays : (a b o : ℕ) → a ≡ b + o → o ≡ 0 → 1 ≤ a → 1 ≤ b
      stays a b o e z k = omega (arith, e, z, k)

  pub free-safe : Holds v → KeepsCommitted v → KeepsCommitted (record v { names = t; freeing = rest; due = k })
  free-safe h f = record {
    committed = λ x has. steps.frees-ref (led v.names p.name) page v.names t s (λ n. n ≤ v.decided) (wants x) x.name (λ w. other x (kept x has) w) (f.committed x has);
    committed_kept = kept;
    frozen = λ x has. absurd (subst (λ xs. Has xs x) thawed has);
    frozen_kept = λ x has. absurd (subst (λ xs. Has xs x) thawed has);
    decided_first = f.decided_first;
    next_later = f.next_later;
    leaving_awaits = omega (arith, none_leaves);
    due_awaits = fewer v.due (length v.freeing) (length rest) due (ap (λ (xs : List Pointer). length xs) is) f.due_awaits;
  }
    where
      fewer : (a b c : ℕ) → a ≡ suc k → b ≡ suc c → a ≤ b → k ≤ c
      fewer a b c e z le = omega (arith, e, z, le)

      kept : (x : Pointer) → Has v.committed x → 1 ≤ times tagged x.stamp v.running + times plain x.stamp (drop k rest)
      kept x has = subst (λ (xs : List Pointer). 1 ≤ times tagged x.stamp v.running + times plain x.stamp (drop (suc k) xs)) is
          (subst (λ (n : ℕ). 1 ≤ times tagged x.stamp v.running + times plain x.stamp (drop n v.freeing)) due (f.committed_kept x has))

      whole : (a b c c' : ℕ) → c' ≤ c → 1 ≤ a + c' → 1 ≤ a + b + c
      whole a b c c' le k = omega (arith, le, k)

      other : (x : Pointer) → 1 ≤ times tagged x.stamp v.running + times plain x.stamp (drop k rest) → wants x page → ⊥
      other x one w = free-other h x.stamp (whole (times tagged x.stamp v.running) (times tagged x.stamp v.flight) (times plain x.stamp rest) (times plain x.stamp (drop k rest)) (times_drop plain x.stamp k rest) one) (sym w)
