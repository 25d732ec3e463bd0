-- Pages are freed one after the other.
use Rattle.std.proofs.Common.{◌≡◌, ◌⊎◌, inl, inr, ℕ, ◌+◌, ◌==◌, Bool, true, false, List, [], ◌∷◌, ◌++◌, length, refl, sym, ap, subst, ◌∙◌, Some, arith}
use Rattle.std.specs.Prelude.{not}
use Rattle.std.proofs.lemmas.Bool.{both_ways, cases_Bool, cond-true, cond-false, eq-eqb}
use Rattle.nl_field.specs.declared.pointer.Pointer.{Pointer}
use Rattle.nl_iface.specs.Calls.{Frees as FreesNamed}
use Rattle.nl_iface.specs.declared.counts.Counts.{Ghosts}
use Rattle.nl_iface.specs.Names.{Has, LivePage, Names, beside, has_stamp, leads, led, place_of}
use Rattle.nl_spec_holders.specs.Holding.{Holding, KeepsCommitted}
use Rattle.nl_spec_holders.proofs.FreeLists.{OldDiffer, frees-from_lists, kept_none, old_differ_from}
use Rattle.nl_spec_holders.proofs.HoldingSteps as steps
use Rattle.nl_spec_holders.proofs.Words.{Frees, Holds, from_words, to_words}
use Rattle.nl_journal_commit.specs.Freeing.{FreeingKeeps, FreesAll, FreesEach, FreesOne, FreesPage}

-- old names that differ do so without the pairs to one page
differ_beside : (xs : List (ℕ × ℕ)) (p : ℕ) → OldDiffer xs → OldDiffer (beside xs p)
differ_beside [] p d = tt
differ_beside (x ∷ xs) p d = by (differ_beside xs p d.1) (cases_Bool (not (x.1 == p)))
  where
    by : OldDiffer (beside xs p) → (not (x.1 == p) ≡ true) ⊎ (not (x.1 == p) ≡ false) → OldDiffer (beside (x ∷ xs) p)
    by rest (inl e) = subst (λ ys. OldDiffer ys) (sym (cond-true (not (x.1 == p)) (x ∷ beside xs p) (beside xs p) e)) (kept_none xs p x.0 d.0, rest)
    by rest (inr e) = subst (λ ys. OldDiffer ys) (sym (cond-false (not (x.1 == p)) (x ∷ beside xs p) (beside xs p) e)) rest

-- a name that leads to a page of the pointer's stamp
leads_is : (s : Names) (p : Pointer) (page : LivePage) → s.live (led s p.name) ≡ Some page → page.stamp ≡ p.stamp → leads s p ≡ true
leads_is s p page is same = ap (λ o. has_stamp o p.stamp) is ∙ eq-eqb page.stamp p.stamp same

-- the first of those that are due
module _ (v : Holding) (p : Pointer) (rest : List Pointer) (m : Names) (is : v.freeing ≡ p ∷ rest) (differ : OldDiffer v.names.pairs) (f : Holds v) where
  first-ref : Has v.freeing p
  first-ref = subst (λ xs. Has xs p) (sym is) (inl refl)

  first-page : LivePage
  first-page = (f.freeing p first-ref).leads.0

  first-freed : FreesOne p v.names m → FreesPage p v.names m
  first-freed (inl frees) = frees
  first-freed (inr dead) = let r = f.freeing p first-ref in absurd (both_ways (leads v.names p) dead.0 (leads_is v.names p r.leads.0 r.leads.1 r.leads.2))

  first-frees : FreesOne p v.names m → Frees (led v.names p.name) (f.freeing p first-ref).leads.0 v.names m
  first-frees one =
      let r = f.freeing p first-ref in
      let d = (first-freed one).names in
      frees-from_lists (led v.names p.name) r.leads.0 v.names m f.table differ r.leads.1 d.live d.pairs d.pending d.handled

  first-differ : FreesOne p v.names m → OldDiffer m.pairs
  first-differ one = let d = (first-freed one).names in subst (λ xs. OldDiffer xs) (sym d.pairs) (differ_beside v.names.pairs (place_of v.names p) differ)

  module _ (k : ℕ) (due : v.due ≡ k + 1) (thawed : v.frozen ≡ []) (none : v.leaving ≡ 0) (one : FreesOne p v.names m) where
    first-held : Holds (record v { names = m; freeing = rest; due = k })
    first-held = let r = f.freeing p first-ref in steps.free-held v m p rest k is (due ∙ omega arith) thawed none r.leads.0 r.leads.2 (first-frees one) f

    first-safe : KeepsCommitted v → KeepsCommitted (record v { names = m; freeing = rest; due = k })
    first-safe s = let r = f.freeing p first-ref in steps.free-safe v m p rest k is (due ∙ omega arith) thawed none r.leads.0 r.leads.2 (first-frees one) f s

-- none is due
freed_none : (v : Holding) (rest : List Pointer) (t : Names) → t ≡ v.names → v.freeing ≡ rest → v.due ≡ 0 → record v { names = t; freeing = rest; due = 0 } ≡ v
freed_none v rest t same first due =
    ap (λ (n : Names). record v { names = n; freeing = rest; due = 0 }) same
    ∙ ap (λ (xs : List Pointer). record v { freeing = xs; due = 0 }) (sym first)
    ∙ ap (λ (d : ℕ). record v { due = d }) (sym due)

more_due : (d n k : ℕ) → d ≡ n → n ≡ k + 1 → d ≡ k + 1
more_due d n k e h = e ∙ h

frees_held : (front rest : List Pointer) (v : Holding) (t : Names) → OldDiffer v.names.pairs → v.freeing ≡ front ++ rest → v.due ≡ length front → v.frozen ≡ [] → v.leaving ≡ 0
    → FreesEach front v.names t → Holds v → Holds (record v { names = t; freeing = rest; due = 0 })
frees_held [] rest v t differ first due thawed none same f = subst (λ w. Holds w) (sym (freed_none v rest t same first due)) f
frees_held (p ∷ ps) rest v t differ first due thawed none freed f =
    frees_held ps rest (record v { names = freed.0; freeing = ps ++ rest; due = length ps }) t (first-differ v p (ps ++ rest) freed.0 first differ f freed.1) refl refl thawed none freed.2
    (first-held v p (ps ++ rest) freed.0 first differ f (length ps) (omega (arith, due)) thawed none freed.1)

frees_safe : (front rest : List Pointer) (v : Holding) (t : Names) → OldDiffer v.names.pairs → v.freeing ≡ front ++ rest → v.due ≡ length front → v.frozen ≡ [] → v.leaving ≡ 0
    → FreesEach front v.names t → Holds v → KeepsCommitted v → KeepsCommitted (record v { names = t; freeing = rest; due = 0 })
frees_safe [] rest v t differ first due thawed none same f s = subst (λ w. KeepsCommitted w) (sym (freed_none v rest t same first due)) s
frees_safe (p ∷ ps) rest v t differ first due thawed none freed f s =
    frees_safe ps rest (record v { names = freed.0; freeing = ps ++ rest; due = length ps }) t (first-differ v p (ps ++ rest) freed.0 first differ f freed.1) refl refl thawed none freed.2
    (first-held v p (ps ++ rest) freed.0 first differ f (length ps) (omega (arith, due)) thawed none freed.1)
    (first-safe v p (ps ++ rest) freed.0 first differ f (length ps) (omega (arith, due)) thawed none freed.1 s)

frees_live : (front rest : List Pointer) (v : Holding) (t : Names) → OldDiffer v.names.pairs → v.freeing ≡ front ++ rest → v.due ≡ length front → v.frozen ≡ [] → v.leaving ≡ 0
    → FreesEach front v.names t → Holds v → t.space.live + length front ≡ v.names.space.live
frees_live [] rest v t differ first due thawed none same f = omega (arith, ap (λ (n : Names). n.space.live) same)
frees_live (p ∷ ps) rest v t differ first due thawed none freed f =
    let one = (first-freed v p (ps ++ rest) freed.0 first differ f freed.1).space.live in
    let more = frees_live ps rest (record v { names = freed.0; freeing = ps ++ rest; due = length ps }) t (first-differ v p (ps ++ rest) freed.0 first differ f freed.1) refl refl thawed none freed.2
    (first-held v p (ps ++ rest) freed.0 first differ f (length ps) (omega (arith, due)) thawed none freed.1) in
    omega (arith, one, more)

pub freeing_keeps : FreeingKeeps
freeing_keeps v front rest t d freed = record {
  holds = λ f. from_words (frees_held front rest v t (old_differ_from v.names.pairs d.differ) d.first d.due d.thawed d.none_leaves freed (to_words f));
  committed = λ f s. frees_safe front rest v t (old_differ_from v.names.pairs d.differ) d.first d.due d.thawed d.none_leaves freed (to_words f) s;
}

pub frees_all : FreesAll
frees_all v front rest t d f freed = frees_live front rest v t (old_differ_from v.names.pairs d.differ) d.first d.due d.thawed d.none_leaves freed (to_words f)

-- one page more is freed behind the others
pub frees_last : (front : List Pointer) (p : Pointer) (s m t : Names) → FreesEach front s m → FreesOne p m t → FreesEach (front ++ p ∷ []) s t
frees_last [] p s m t same one = (t, subst (λ (n : Names). FreesOne p n t) same one, refl)
frees_last (q ∷ qs) p s m t freed one = (freed.0, freed.1, frees_last qs p freed.0 m t freed.2 one)

-- by the answer of a call
pub frees_one : {D : Type 0} (g : Ghosts D) (p : Pointer) (s t : D) (b : Bool) → b ≡ leads (g.names s) p → (b ≡ true → FreesNamed g p s t) → (b ≡ false → g.names t ≡ g.names s) → FreesOne p (g.names s) (g.names t)
frees_one g p s t b is freed refused = by (cases_Bool b)
  where
    by : (b ≡ true) ⊎ (b ≡ false) → FreesOne p (g.names s) (g.names t)
    by (inl e) = let f = freed e in inl (record { live = sym is ∙ e; names = f.names; space = f.space })
    by (inr e) = inr (sym is ∙ e, refused e)
