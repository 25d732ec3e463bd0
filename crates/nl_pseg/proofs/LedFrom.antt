-- A name of another page leads to a page that an opening found.
use Rattle.std.proofs.Common.{◌≡◌, ◌⊎◌, inl, inr, ⊎_elim, ℕ, zero, suc, ◌+◌, ◌-◌, ◌*◌, ◌/◌, ◌<◌, ◌≤◌, ◌==◌, if◌then◌else◌, nat_lt, Bool, false, cond, Option, Some, None, IsSome, List, [], ◌∷◌, length, map, insert, get_or, refl, sym, ◌∙◌, ap, subst, arith, eq-eqb, ne_eqb}
use Rattle.std.proofs.lemmas.Bool.{cases_Bool, cases_eq, true≢false}
use Rattle.std.proofs.lemmas.List.{length-map}
use Rattle.std.proofs.lemmas.List.Edits.{length-insert}
use Rattle.std.proofs.lemmas.List.Sums.{count_by-le-length, sum_by-cons}
use Rattle.std.proofs.lemmas.Option.{none-some}
use Rattle.nl_blocks.specs.declared.states.BlockState.{BlockState}
use Rattle.nl_blocks.specs.declared.states.BlockState.TheVariants as the
use Rattle.nl_blocks.specs.Table.{HasBlock, block_at, free_count, is_free_state, names_of}
use Rattle.nl_remap.specs.declared.links.Link.{Link}
use Rattle.nl_remap.specs.Links.{HasLink, link_at}
use Rattle.nl_remap.specs.Table.{IsOld, IsRemap, led, led_on, pair, place_of}
use Rattle.nl_remap.proofs.LinksProofs.{HasLink-insert_back, same_link}
use Rattle.nl_remap.proofs.TableProofs.{IsOld-insert_back}
use Rattle.nl_remap.proofs.Ways.{led_has, led_not}
use Rattle.nl_pseg_names.specs.OldNames.{NameTable, names_among}
use Rattle.nl_pseg.specs.Segment.{IsNextToProgram, IsNextCopy, held_at}
use Rattle.nl_pseg.specs.Seen.{HasPhases, IsPhysicalFormed, IsNamed, IsOldNameInUse, IsTied, seen}
use Rattle.nl_pseg.specs.Steps.{IsAside, ClosesBlock, LeadsFrom}
use Rattle.nl_pseg_blocks.specs.Uses.{Use, use_in, SameNumbers, aside_state}
use Rattle.nl_pseg.specs.declared.held.Held.{Held}
use Rattle.nl_pseg.specs.Kept.{Kept}
use Rattle.nl_pseg.proofs.Dropped.{formed_names}
use Rattle.nl_pseg.proofs.Gone.{old_told, told_old}
use Rattle.nl_pseg.proofs.Led.{link_led, old_led}
use Rattle.nl_pseg_names.proofs.Named.{names_added}
use Rattle.nl_pseg.proofs.Numbers.{block_of}
use Rattle.nl_pseg.proofs.Served.{IsSet, idle_copy, idle_next, served_phases}
use Rattle.nl_pseg.proofs.States.{kept_block}
use Rattle.nl_pseg_blocks.proofs.Tables.{free_kept, has_same, use_here}
use Rattle.nl_pseg.proofs.Tied.{back}

abbrev num : Bool → ℕ
num b = cond b 1 0

old_or_not : (xs : List Link) (name : ℕ) → IsOld xs name ⊎ (IsOld xs name → ⊥)
old_or_not [] name = inr (λ old. omega (arith, old.1))
old_or_not (x ∷ xs) name = ⊎_elim
    (λ is. inl (0, omega arith, is))
    (λ ne. ⊎_elim
    (λ old. inl (suc old.0, omega (arith, old.1), old.2))
    (λ none. inr (λ old. here ne none old.0 old.1 old.2))
    (old_or_not xs name))
    (cases_eq x.from name)
  where
    here : (x.from ≡ name → ⊥) → (IsOld xs name → ⊥) → (i : ℕ) → i < length (x ∷ xs) → (link_at (x ∷ xs) i).from ≡ name → ⊥
    here ne none zero within is = ne is
    here ne none (suc i) within is = none (i, omega arith, is)

-- no name of the block is among the pairs
none_among : (size b : ℕ) (ps : List Link) → ((m : ℕ) → IsOld ps m → m / size ≡ b → ⊥) → names_among size b ps ≡ 0
none_among size b [] none = refl
none_among size b (x ∷ xs) none =
    let e : names_among size b (x ∷ xs) ≡ num (x.from / size == b) + names_among size b xs = sum_by-cons (λ (p : Link). num (p.from / size == b)) x xs in
    let here : num (x.from / size == b) ≡ 0 = ap num (ne_eqb (x.from / size) b (none x.from (0, omega arith, refl))) in
    let rest = none_among size b xs (λ m old. none m (suc old.0, omega (arith, old.1), old.2)) in
    omega (arith, e, here, rest)

aside_free : (state : BlockState) → is_free_state (aside_state state) ≡ false
aside_free the.Free = refl
aside_free the.Active = refl
aside_free the.Target = refl
aside_free the.Sealed = refl
aside_free the.Victim = refl
aside_free (the.Retired names) = refl

aside_set : (state : BlockState) → (state ≡ the.Victim → ⊥) → IsSet (aside_state state)
aside_set the.Free not = record { active = λ e. cc e; target = λ e. cc e; victim = λ e. cc e }
aside_set the.Active not = record { active = λ e. cc e; target = λ e. cc e; victim = λ e. cc e }
aside_set the.Target not = record { active = λ e. cc e; target = λ e. cc e; victim = λ e. cc e }
aside_set the.Sealed not = record { active = λ e. cc e; target = λ e. cc e; victim = λ e. cc e }
aside_set the.Victim not = absurd (not refl)
aside_set (the.Retired names) not = record { active = λ e. cc e; target = λ e. cc e; victim = λ e. cc e }

-- a block that waits then was Free, or waited for one name fewer
aside_waits : (state : BlockState) (k n : ℕ) → (state ≡ the.Free → n ≡ 0) → ((j : ℕ) → state ≡ the.Retired j → j ≡ n) → aside_state state ≡ the.Retired k → k ≡ n + 1
aside_waits the.Free k n free waits is = let e : 1 ≡ k = cc is in let z = free refl in omega (arith, e, z)
aside_waits the.Active k n free waits is = absurd (cc is)
aside_waits the.Target k n free waits is = absurd (cc is)
aside_waits the.Sealed k n free waits is = absurd (cc is)
aside_waits the.Victim k n free waits is = absurd (cc is)
aside_waits (the.Retired j) k n free waits is = let e : j + 1 ≡ k = cc is in let z = waits j refl in omega (arith, e, z)

-- what setting a block aside leaves
pub record SetAside (block : ℕ) (s m : Kept) : Type 0 where
  pub same : m ≡ record s { blocks = m.blocks; used = m.used; filled = m.filled }
  pub numbers : SameNumbers s.blocks m.blocks
  pub idle : ClosesBlock block s m
  pub phases : HasPhases m
  pub kept : (b : ℕ) → (use_in m.blocks b).is_kept ≡ (use_in s.blocks b).is_kept
  pub wears : (b : ℕ) → (use_in m.blocks b).wear ≡ (use_in s.blocks b).wear
  pub frees : (b : ℕ) → (b ≡ block → ⊥) → (use_in m.blocks b).is_free ≡ (use_in s.blocks b).is_free
  pub here : (use_in m.blocks block).is_free ≡ false
  pub total : free_count m.blocks + num (use_in s.blocks block).is_free ≡ free_count s.blocks
  pub waits : (b k : ℕ) → HasBlock s.blocks b → (block_at m.blocks b).state ≡ the.Retired k → ((b ≡ block → ⊥) × ((block_at s.blocks b).state ≡ the.Retired k)) ⊎ ((b ≡ block) × (k ≡ names_among s.blocks.size block s.names.pairs + 1))

pub names_most : (state : BlockState) (n : ℕ) → ((j : ℕ) → state ≡ the.Retired j → j ≤ n) → names_of state ≤ n
names_most the.Free n most = omega arith
names_most the.Active n most = omega arith
names_most the.Target n most = omega arith
names_most the.Sealed n most = omega arith
names_most the.Victim n most = omega arith
names_most (the.Retired names) n most = most names refl

module _ (s : Kept) (is : IsPhysicalFormed s) (tied : IsTied s) (none : s.victim ≡ None) (block : ℕ) where
  out_free : (HasBlock s.blocks block → ⊥) → (use_in s.blocks block).is_free ≡ false
  out_free out = ⊎_elim (λ yes. absurd (out (kept_block s block (free_kept s.blocks block yes)))) (λ no. no) (cases_Bool (use_in s.blocks block).is_free)

  out_aside : (HasBlock s.blocks block → ⊥) → SetAside block s s
  out_aside out = record {
    same = refl;
    numbers = record { same_first = refl; same_size = refl; same_count = refl };
    idle = record {
      active = refl;
      target = refl;
      used = inr ((λ e. out (subst (HasBlock s.blocks) (sym e) is.active_in)), refl);
      filled = inr ((λ e. out (subst (HasBlock s.blocks) (sym e) tied.phases.target_in)), refl);
    };
    phases = tied.phases;
    kept = λ b. refl;
    wears = λ b. refl;
    frees = λ b ne. refl;
    here = out_free out;
    total = let z : num (use_in s.blocks block).is_free ≡ 0 = ap num (out_free out) in omega (arith, z);
    waits = λ b k has st. inl ((λ e. out (subst (HasBlock s.blocks) e has)), st);
  }

  in_aside : (m : Kept) → HasBlock s.blocks block → IsAside block s m → SetAside block s m
  in_aside m has a =
      let st = (block_at s.blocks block).state in
      let not_victim : (block_at s.blocks block).state ≡ the.Victim → ⊥ = (λ e. none-some block (sym none ∙ tied.phases.one_victim block has e)) in
      record {
        same = a.same;
        numbers = a.put.numbers;
        idle = a.idle;
        phases = served_phases s m tied block a.idle a.put.numbers none (ap (λ (q : Kept). q.victim) a.same) (subst IsSet (sym a.put.here) (aside_set st not_victim)) a.put.states;
        kept = a.put.kept;
        wears = a.put.wears;
        frees = a.put.frees;
        here = ap (λ (u : Use). u.is_free) (use_here m.blocks block (has_same block a.put.numbers has)) ∙ (ap (λ (b : BlockState). is_free_state b) a.put.here ∙ aside_free st);
        total = let t = a.put.total in let z : num (is_free_state (aside_state st)) ≡ 0 = ap num (aside_free st) in omega (arith, t, z);
        waits = λ b k has_b w. ⊎_elim
            (λ e. inr (
              e,
              aside_waits st k (names_among s.blocks.size block s.names.pairs)
                  (λ free. none_among s.blocks.size block s.names.pairs (λ n old at. true≢false (sym (ap (λ (u : Use). u.is_free) (use_here s.blocks block has) ∙ ap (λ (b : BlockState). is_free_state b) free) ∙ (ap (λ q. (use_in s.blocks q).is_free) (sym at) ∙ (tied.named.standing n old).in_use))))
                  (λ j waits. tied.named.waits block j has waits)
                  (sym a.put.here ∙ (ap (λ q. (block_at m.blocks q).state) (sym e) ∙ w)),
            ))
            (λ ne. inl (ne, sym (a.put.states b has_b ne) ∙ w))
            (cases_eq b block);
      }

  pub set_aside_is : (m : Kept) → ((HasBlock s.blocks block → ⊥) × (m ≡ s)) ⊎ (HasBlock s.blocks block × IsAside block s m) → SetAside block s m
  set_aside_is m (inl out) = subst (SetAside block s) (sym out.1) (out_aside out.0)
  set_aside_is m (inr inside) = in_aside m inside.0 inside.1

some_held : (o : Option Held) → IsSome o → (h : Held) × (o ≡ Some h)
some_held None some = absurd (true≢false (sym some))
some_held (Some h) some = (h, refl)

module _ (s : Kept) (is : IsPhysicalFormed s) (tied : IsTied s) (name page : ℕ) (fresh : IsOld s.names.pairs name → ⊥) (dead : held_at (seen s) name ≡ None) (there : IsSome (held_at (seen s) page)) where
  k : (h : Held) × (held_at (seen s) page ≡ Some h)
  k = some_held (held_at (seen s) page) there

  pub page_fresh : IsOld s.names.pairs page → ⊥
  page_fresh old = tied.named.own page k.0 k.1 old

  pub apart : name ≡ page → ⊥
  apart e = none-some k.0 (sym dead ∙ (ap (held_at (seen s)) e ∙ k.1))

  abbrev pairs : List Link
  pairs = map (led_on name page) s.names.pairs

  abbrev added : List Link
  added = insert pairs (place_of pairs name) (pair name page)

  few : place_of pairs name ≤ length pairs
  few = count_by-le-length (λ (p : Link). nat_lt p.from name) pairs

  old_back : (n : ℕ) → IsOld added n → (n ≡ name) ⊎ IsOld s.names.pairs n
  old_back n old = ⊎_elim (λ was. inr (old_led s.names.pairs name page n was)) (λ here. inl here) (IsOld-insert_back pairs (place_of pairs name) (pair name page) n few old)

  -- no pair leads to the name
  not_to : (l : Link) → HasLink s.names.pairs l → l.to ≡ name → ⊥
  not_to l has e = let live = tied.named.to_live l has in none-some live.0 (sym dead ∙ (ap (held_at (seen s)) (sym e) ∙ live.1))

  not_led : (other : ℕ) → (other ≡ name → ⊥) → led s.names.pairs other ≡ name → ⊥
  not_led other ne e = ⊎_elim
      (λ old.
      let l = link_at s.names.pairs old.0 in
      let has : HasLink s.names.pairs (pair other l.to) = (old.0, old.1, same_link l (pair other l.to) old.2 refl) in
      not_to (pair other l.to) has (sym (led_has s.names.pairs other l.to tied.named.remap has) ∙ e))
      (λ no. ne (sym (led_not s.names.pairs other no) ∙ e))
      (old_or_not s.names.pairs other)

  module _ (m : Kept) (a : SetAside (name / s.blocks.size) s m) (names : NameTable) (put : names ≡ record s.names { pairs = added; room = s.names.room - 1 }) (remap : IsRemap names.pairs) (room : 0 < s.names.room) where
    abbrev x : Kept
    x = record m { names = names }

    size : m.blocks.size ≡ s.blocks.size
    size = a.numbers.same_size

    held_is : m.held ≡ s.held
    held_is = ap (λ (q : Kept). q.held) a.same

    was : (p : ℕ) (h : Held) → held_at (seen x) p ≡ Some h → held_at (seen s) p ≡ Some h
    was p h live = (λ i. get_or (sym held_is i).items p None) ∙ live

    stays : (p : ℕ) (h : Held) → held_at (seen s) p ≡ Some h → held_at (seen x) p ≡ Some h
    stays p h live = (λ i. get_or (held_is i).items p None) ∙ live

    pairs_now : names.pairs ≡ added
    pairs_now = ap (λ (n : NameTable). n.pairs) put

    nexts : (p : ℕ) → IsNextToProgram (seen x) p → IsNextToProgram (seen s) p × (p / s.blocks.size ≡ name / s.blocks.size → ⊥)
    nexts p next = idle_next s m (name / s.blocks.size) a.idle a.numbers p next

    copies : (p : ℕ) → IsNextCopy (seen x) p → IsNextCopy (seen s) p × (p / s.blocks.size ≡ name / s.blocks.size → ⊥)
    copies p next = idle_copy s m (name / s.blocks.size) a.idle a.numbers p next

    standing : (n : ℕ) → IsOld names.pairs n → IsOldNameInUse (seen x) n
    standing n old = ⊎_elim
        (λ e. record {
          in_use = ap (λ q. (use_in m.blocks (n / q)).is_free) size ∙ (ap (λ q. (use_in m.blocks (q / s.blocks.size)).is_free) e ∙ a.here);
          behind = λ next. (nexts n next).1 (ap (λ q. q / s.blocks.size) e);
          copy_behind = λ next. (copies n next).1 (ap (λ q. q / s.blocks.size) e);
        })
        (λ old_was.
        let w = tied.named.standing n old_was in
        record {
          in_use = ap (λ q. (use_in m.blocks (n / q)).is_free) size ∙ ⊎_elim
              (λ e. ap (λ q. (use_in m.blocks q).is_free) e ∙ a.here)
              (λ ne. a.frees (n / s.blocks.size) ne ∙ w.in_use)
              (cases_eq (n / s.blocks.size) (name / s.blocks.size));
          behind = λ next. w.behind (nexts n next).0;
          copy_behind = λ next. w.copy_behind (copies n next).0;
        })
        (old_back n (subst (λ l. IsOld l n) pairs_now old))

    to_live : (l : Link) → HasLink names.pairs l → (h : Held) × (held_at (seen x) l.to ≡ Some h)
    to_live l link = ⊎_elim
        (λ led_one.
        let w = link_led s.names.pairs name page l led_one in
        let live = tied.named.to_live w.0 w.1 in
        let same : (led_on name page w.0).to ≡ w.0.to = ap (λ b. cond b page w.0.to) (ne_eqb w.0.to name (not_to w.0 w.1)) in
        (live.0, ap (held_at (seen x)) (ap (λ (y : Link). y.to) w.2 ∙ same) ∙ stays w.0.to live.0 live.1))
        (λ e. (k.0, ap (held_at (seen x)) (ap (λ (y : Link). y.to) e) ∙ stays page k.0 k.1))
        (HasLink-insert_back pairs (place_of pairs name) (pair name page) l few (subst (λ ls. HasLink ls l) pairs_now link))

    named : IsNamed x
    named =
        let w = tied.named in
        let n = a.numbers in
        record {
          size = ap (λ (y : NameTable). y.size) put ∙ (w.size ∙ sym size);
          blocks = ap (λ (y : NameTable). y.blocks) put ∙ (w.blocks ∙ (λ i. sym n.same_first i + sym n.same_count i));
          room =
              let b = ap (λ (l : List Link). length l) pairs_now in
              let c = length-insert pairs (place_of pairs name) (pair name page) few in
              let d = length-map s.names.pairs (led_on name page) in
              let r = ap (λ (y : NameTable). y.room) put in
              let o = w.room in
              let e = size in
              omega (arith, b, c, d, r, o, e, room);
          remap = remap;
          standing = standing;
          own = λ p h live old. ⊎_elim
              (λ e. none-some h (sym dead ∙ (ap (held_at (seen s)) (sym e) ∙ was p h live)))
              (λ old_was. w.own p h (was p h live) old_was)
              (old_back p (subst (λ l. IsOld l p) pairs_now old));
          to_live = to_live;
          waits = λ b j has_b st.
              let grown = names_added s.blocks.size b name page (place_of pairs name) s.names.pairs in
              let now : names_among m.blocks.size b names.pairs ≡ names_among s.blocks.size b added = (λ i. names_among (size i) b (pairs_now i)) in
              ⊎_elim
              (λ other.
              let none : num (name / s.blocks.size == b) ≡ 0 = ap num (ne_eqb (name / s.blocks.size) b (λ e. other.0 (sym e))) in
              let count = w.waits b j (has_same b (back n) has_b) other.1 in
              omega (arith, grown, now, none, count))
              (λ here.
              let yes : num (name / s.blocks.size == b) ≡ 1 = ap num (eq-eqb (name / s.blocks.size) b (sym here.0)) in
              let count = here.1 in
              let e : names_among s.blocks.size (name / s.blocks.size) s.names.pairs ≡ names_among s.blocks.size b s.names.pairs = ap (λ q. names_among s.blocks.size q s.names.pairs) (sym here.0) in
              omega (arith, grown, now, yes, count, e))
              (a.waits b j (has_same b (back n) has_b) st);
        }

    pub from_tied : IsTied (record m { names = names })
    from_tied =
        let ph = a.phases in
        record {
          named = named;
          phases = record {
            target_in = ph.target_in;
            filled_fits = ph.filled_fits;
            filling = ph.filling;
            one_active = ph.one_active;
            one_target = ph.one_target;
            one_victim = ph.one_victim;
            victim_in = ph.victim_in;
          };
          behind = λ p h live copy. tied.behind p h (was p h live) (copies p copy).0;
        }

    pub from_leads : ((other : ℕ) → led names.pairs other ≡ (if led s.names.pairs other == name then page else led s.names.pairs other)) → LeadsFrom name page (seen s) (seen (record m { names = names }))
    from_leads ways =
        let n = a.numbers in
        record {
          range = record { range_first = n.same_first; range_blocks = λ i. n.same_first i + n.same_count i; range_size = n.same_size };
          held = λ i. (held_is i).items;
          leads = ways name ∙ ap (λ b. if b then page else led s.names.pairs name) (eq-eqb (led s.names.pairs name) name (led_not s.names.pairs name fresh));
          ways = λ other ne. ways other ∙ ap (λ b. if b then page else led s.names.pairs other) (ne_eqb (led s.names.pairs other) name (not_led other ne));
          olds = λ other old. ⊎_elim (λ e. inl e) (λ w. inr (old_told s.names.pairs other w)) (old_back other (subst (λ l. IsOld l other) pairs_now (told_old names.pairs other old)));
          more =
              let turn : Link → ℕ × ℕ = λ p. (p.from, p.to) in
              let b = ap (λ (l : List Link). length l) pairs_now in
              let c = length-insert pairs (place_of pairs name) (pair name page) few in
              let d = length-map s.names.pairs (led_on name page) in
              let u : length (map turn names.pairs) ≡ length names.pairs = length-map names.pairs turn in
              let v : length (map turn s.names.pairs) ≡ length s.names.pairs = length-map s.names.pairs turn in
              let r = ap (λ (y : NameTable). y.room) put in
              (omega (arith, b, c, d, u, v), omega (arith, r, room));
          victim = ap (λ (q : Kept). q.victim) a.same;
          kept = a.kept;
          wears = a.wears;
          frees = a.frees;
          here = a.here;
          free = a.total;
          soiled = ap (λ (q : Kept). q.soiled.items) a.same;
          left = let e = size in ⊎_elim (λ h. let u = h.1 in omega (arith, u, e)) (λ h. let u = h.1 in omega (arith, u, e)) a.idle.used;
          next = λ p next. (nexts p next).0;
          still = λ p next ne.
              let at : p / s.blocks.size ≡ s.active = block_of p s.blocks.size s.active (omega (arith, next.0)) (omega (arith, next.0, next.1)) in
              ⊎_elim
              (λ h. absurd (ne (at ∙ sym h.0)))
              (λ h.
              let u = h.1 in
              let e = size in
              let act : m.active * m.blocks.size ≡ s.active * s.blocks.size = (λ i. a.idle.active i * size i) in
              (omega (arith, act, u, next.0), omega (arith, act, u, e, next.0, next.1)))
              a.idle.used;
          copies = λ p next. (copies p next).0;
        }

    pub from_formed : IsPhysicalFormed m → IsPhysicalFormed (record m { names = names })
    from_formed f = formed_names m f m.blocks names (record { same_first = refl; same_size = refl; same_count = refl }) (λ b. refl) (record { same = λ p has. refl; rises = λ rising. rising }) f.taken
