-- A live page of the victim that is at another page now.
use Rattle.std.proofs.Common.{◌≡◌, ◌⊎◌, inl, inr, ⊎_elim, ℕ, ◌+◌, ◌-◌, ◌*◌, ◌/◌, ◌%◌, ◌<◌, ◌≤◌, ◌==◌, if◌then◌else◌, nat_lt, cond, true, false, Some, None, List, IsSome, length, map, insert, get_or, refl, sym, ◌∙◌, ap, subst, arith, length-set, eq-eqb, ne_eqb}
use Rattle.std.specs.Vec.{with_item}
use Rattle.std.proofs.lemmas.Bool.{cases_eq}
use Rattle.std.proofs.lemmas.List.{get_or-set_other, length-map, get_or-map}
use Rattle.std.proofs.lemmas.List.Edits.{length-insert}
use Rattle.std.proofs.lemmas.List.Sums.{count_by-le-length, sum_by-set}
use Rattle.std.proofs.lemmas.Option.{none-some}
use Rattle.nl_blocks.specs.declared.states.BlockState.{BlockState}
use Rattle.nl_blocks.specs.declared.states.BlockState.TheVariants.{Victim}
use Rattle.nl_blocks.specs.declared.states.Page.{Page}
use Rattle.nl_blocks.specs.declared.states.PageState.{PageState}
use Rattle.nl_blocks.specs.declared.states.PageState.TheVariants.{Dead, Live}
use Rattle.nl_blocks.specs.Table.{BlockRow, Table, HasBlock, IsBlockTable, block_at, dead_count, is_dead, is_dead_state, is_free_state, new_page, with_mark, with_page}
use Rattle.nl_blocks.proofs.TableLaws.{block_at-with_block_same}
use Rattle.nl_blocks.proofs.TableProofs.{row_size}
use Rattle.nl_remap.specs.declared.links.Link.{Link}
use Rattle.nl_remap.specs.Links.{HasLink, link_at, no_link}
use Rattle.nl_remap.specs.Table.{IsOld, IsRemap, led, led_on, pair, place_of}
use Rattle.nl_remap.proofs.LinksProofs.{HasLink-insert_back, HasLink-insert_new}
use Rattle.nl_remap.proofs.TableProofs.{IsOld-insert_back}
use Rattle.nl_pseg_names.specs.OldNames.{NameTable, names_among}
use Rattle.nl_pseg.specs.Segment.{IsNextToProgram, IsNextCopy, IsOldName, held_at, soiled, wear_with}
use Rattle.nl_pseg.specs.Seen.{IsPhysicalFormed, IsNamed, IsOldNameInUse, IsTied, seen, state_for}
use Rattle.nl_pseg.specs.Space.{gain_of}
use Rattle.nl_pseg.specs.Steps.{IsLed}
use Rattle.nl_pseg_blocks.specs.Uses.{Use, use_in, MarksPage, SameUse}
use Rattle.nl_pseg.specs.declared.held.Held.{Held}
use Rattle.nl_pseg.specs.Kept.{Kept}
use Rattle.nl_pseg.proofs.Begun.{told_length}
use Rattle.nl_pseg.proofs.Forms.{formed_page, use_places}
use Rattle.nl_pseg.proofs.Left.{left_is, there_is}
use Rattle.nl_pseg_names.proofs.Named.{names_added}
use Rattle.nl_pseg.proofs.Rows.{dead_here, num, waiting_used}
use Rattle.nl_pseg.proofs.Segments.{ended_places, set_held}
use Rattle.nl_pseg.proofs.States.{within_length}
use Rattle.nl_pseg_blocks.proofs.Tables.{has_same, use_here}
use Rattle.nl_pseg.proofs.Tied.{back, old_is, phases_same}

-- a link of the pairs that were led on is one that was, or goes to the new page
pub link_led : (xs : List Link) (old new : ℕ) (l : Link) → HasLink (map (led_on old new) xs) l → (x : Link) × HasLink xs x × (l ≡ led_on old new x)
link_led xs old new l has =
    let less : has.0 < length xs = subst (λ k. has.0 < k) (length-map xs (led_on old new)) has.1 in
    (link_at xs has.0, (has.0, less, refl), sym has.2 ∙ get_or-map (led_on old new) xs has.0 no_link no_link less)

pub old_led : (xs : List Link) (old new name : ℕ) → IsOld (map (led_on old new) xs) name → IsOld xs name
old_led xs old new name is =
    let less : is.0 < length xs = subst (λ k. is.0 < k) (length-map xs (led_on old new)) is.1 in
    (is.0, less, sym (ap (λ (l : Link). l.from) (get_or-map (led_on old new) xs is.0 no_link no_link less)) ∙ is.2)

module _ (s : Kept) (is : IsPhysicalFormed s) (tied : IsTied s) (before after : ℕ) (victim : s.victim ≡ Some (before / s.blocks.size)) (live : IsSome (held_at (seen s) before)) (there : IsSome (held_at (seen s) after)) (apart : before ≡ after → ⊥) where
  abbrev pairs : List Link
  pairs = map (led_on before after) s.names.pairs

  abbrev added : List Link
  added = insert pairs (place_of pairs before) (pair before after)

  h : (h : Held) × (held_at (seen s) before ≡ Some h)
  h = there_is (held_at (seen s) before) live

  k : (h : Held) × (held_at (seen s) after ≡ Some h)
  k = there_is (held_at (seen s) after) there

  few : place_of pairs before ≤ length pairs
  few = count_by-le-length (λ (p : Link). nat_lt p.from before) pairs

  pub fresh : IsOld s.names.pairs before → ⊥
  fresh old = tied.named.own before h.0 h.1 old

  pub fresh_after : IsOld s.names.pairs after → ⊥
  fresh_after old = tied.named.own after k.0 k.1 old

  old_back : (name : ℕ) → IsOld added name → (name ≡ before) ⊎ IsOld s.names.pairs name
  old_back name old = ⊎_elim (λ was. inr (old_led s.names.pairs before after name was)) (λ here. inl here) (IsOld-insert_back pairs (place_of pairs before) (pair before after) name few old)

  module _ (t : Table) (same : SameUse s.blocks t) (states : (b : ℕ) → (block_at t b).state ≡ (block_at s.blocks b).state) (names : NameTable) (put : names ≡ record s.names { pairs = added; room = s.names.room - 1 }) (remap : IsRemap names.pairs) (room : 0 < s.names.room) where
    abbrev new : Kept
    new = record s { held = with_item s.held before None; blocks = t; names = names }

    within : before < length s.held.items
    within = within_length s is before (is.places.each before h.0 h.1).within

    has : HasBlock s.blocks (before / s.blocks.size)
    has = (tied.phases.victim_in (before / s.blocks.size) victim).0

    state : (block_at s.blocks (before / s.blocks.size)).state ≡ Victim
    state = (tied.phases.victim_in (before / s.blocks.size) victim).1

    size : t.size ≡ s.blocks.size
    size = same.numbers.same_size

    nexts : (p : ℕ) → IsNextToProgram (seen new) p → IsNextToProgram (seen s) p
    nexts p n =
        let a : s.active * t.size ≡ s.active * s.blocks.size = ap (λ k. s.active * k) size in
        let e = size in
        (omega (arith, a, n.0), omega (arith, a, e, n.1))

    copies : (p : ℕ) → IsNextCopy (seen new) p → IsNextCopy (seen s) p
    copies p n =
        let a : s.target * t.size ≡ s.target * s.blocks.size = ap (λ k. s.target * k) size in
        let e = size in
        (omega (arith, a, n.0), omega (arith, a, e, n.1))

    pairs_now : names.pairs ≡ added
    pairs_now = ap (λ (n : NameTable). n.pairs) put

    was : (p : ℕ) (x : Held) → held_at (seen new) p ≡ Some x → (p ≡ before → ⊥) × (held_at (seen s) p ≡ Some x)
    was p x held = ⊎_elim (λ here. absurd (none-some x here.1)) (λ away. away) (set_held s.held.items before None within p x held)

    -- what is live beside the page stays
    stays : (p : ℕ) (x : Held) → (p ≡ before → ⊥) → held_at (seen s) p ≡ Some x → held_at (seen new) p ≡ Some x
    stays p x ne held = get_or-set_other s.held.items before p None None ne ∙ held

    standing : (name : ℕ) → IsOld names.pairs name → IsOldNameInUse (seen new) name
    standing name old = ⊎_elim here stays_old (old_back name (subst (λ l. IsOld l name) pairs_now old))
      where
        used : (p : ℕ) → (use_in s.blocks (p / s.blocks.size)).is_free ≡ false → (use_in t (p / t.size)).is_free ≡ false
        used p in_use = ap (λ (u : Use). u.is_free) (same.uses (p / t.size)) ∙ (ap (λ n. (use_in s.blocks (p / n)).is_free) size ∙ in_use)

        here : name ≡ before → IsOldNameInUse (seen new) name
        here e = subst (IsOldNameInUse (seen new)) (sym e) (record {
          in_use = used before (ap (λ (u : Use). u.is_free) (use_here s.blocks (before / s.blocks.size) has) ∙ ap (λ (b : BlockState). is_free_state b) state);
          behind = λ n. (is.places.each before h.0 h.1).behind (nexts before n);
          copy_behind = λ n. tied.behind before h.0 h.1 (copies before n);
        })

        stays_old : IsOld s.names.pairs name → IsOldNameInUse (seen new) name
        stays_old old_was =
            let w = tied.named.standing name old_was in
            record { in_use = used name w.in_use; behind = λ n. w.behind (nexts name n); copy_behind = λ n. w.copy_behind (copies name n) }

    to_live : (l : Link) → HasLink names.pairs l → (x : Held) × (held_at (seen new) l.to ≡ Some x)
    to_live l link = ⊎_elim led_one (λ e. (k.0, ap (held_at (seen new)) (ap (λ (x : Link). x.to) e) ∙ stays after k.0 (λ e2. apart (sym e2)) k.1))
        (HasLink-insert_back pairs (place_of pairs before) (pair before after) l few (subst (λ ls. HasLink ls l) pairs_now link))
      where
        led_one : HasLink pairs l → (x : Held) × (held_at (seen new) l.to ≡ Some x)
        led_one one =
            let x = link_led s.names.pairs before after l one in
            let live_was = tied.named.to_live x.0 x.1 in
            ⊎_elim
            (λ e. (k.0, ap (held_at (seen new)) (ap (λ (y : Link). y.to) x.2 ∙ to_there x.0 e) ∙ stays after k.0 (λ e2. apart (sym e2)) k.1))
            (λ ne. (live_was.0, ap (held_at (seen new)) (ap (λ (y : Link). y.to) x.2 ∙ to_same x.0 ne) ∙ stays x.0.to live_was.0 ne live_was.1))
            (cases_eq x.0.to before)
          where
            to_there : (y : Link) → y.to ≡ before → (led_on before after y).to ≡ after
            to_there y e = ap (λ b. cond b after y.to) (eq-eqb y.to before e)

            to_same : (y : Link) → (y.to ≡ before → ⊥) → (led_on before after y).to ≡ y.to
            to_same y ne = ap (λ b. cond b after y.to) (ne_eqb y.to before ne)

    named : IsNamed new
    named =
        let w = tied.named in
        let n = same.numbers in
        record {
          size = ap (λ (x : NameTable). x.size) put ∙ (w.size ∙ sym size);
          blocks = ap (λ (x : NameTable). x.blocks) put ∙ (w.blocks ∙ (λ i. sym n.same_first i + sym n.same_count i));
          room =
              let a = ap (λ (l : List Link). length l) pairs_now in
              let b = length-insert pairs (place_of pairs before) (pair before after) few in
              let d = length-map s.names.pairs (led_on before after) in
              let r = ap (λ (x : NameTable). x.room) put in
              let o = w.room in
              let e = size in
              omega (arith, a, b, d, r, o, e, room);
          remap = remap;
          standing = standing;
          own = λ p x held old. let w2 = was p x held in ⊎_elim (λ e. w2.0 e) (λ old_was. w.own p x w2.1 old_was) (old_back p (subst (λ l. IsOld l p) pairs_now old));
          to_live = to_live;
          waits = λ b count has_b st.
              let old_has = has_same b (back n) has_b in
              let old_st = sym (states b) ∙ st in
              let none : num (before / s.blocks.size == b) ≡ 0 = ap num (ne_eqb (before / s.blocks.size) b (λ e. cc (sym state ∙ (ap (λ m. (block_at s.blocks m).state) e ∙ old_st)))) in
              let grown = names_added s.blocks.size b before after (place_of pairs before) s.names.pairs in
              let same_names : names_among t.size b names.pairs ≡ names_among s.blocks.size b added = (λ i. names_among (size i) b (pairs_now i)) in
              let old_count = w.waits b count old_has old_st in
              omega (arith, none, grown, same_names, old_count);
        }

    pub led_tied : IsTied (record s { held = with_item s.held before None; blocks = t; names = names })
    led_tied = record {
      named = named;
      phases = phases_same s new tied.phases same.numbers states refl refl refl refl refl;
      behind = λ p x held copy. tied.behind p x (was p x held).1 (copies p copy);
    }

    pub led_formed : MarksPage before Dead s.blocks t → IsPhysicalFormed (record s { held = with_item s.held before None; blocks = t; names = names })
    led_formed marked =
        let x = formed_page s is t same before None marked within (λ lt. states s.active ∙ is.taken lt)
        (ended_places (seen (record s { blocks = t })) before within (use_places s t is same)) in
        record { some = x.some; numbers = x.numbers; pages = x.pages; marks = x.marks; active_in = x.active_in; used_fits = x.used_fits; taken = x.taken; places = record { each = λ p y held. let w = x.places.each p y held in record { within = w.within; in_use = w.in_use; behind = w.behind; spelled = w.spelled } }; marked = x.marked }

    pub led_now : IsBlockTable s.blocks → t ≡ with_page s.blocks before Dead → ((name : ℕ) → led names.pairs name ≡ (if led s.names.pairs name == before then after else led s.names.pairs name)) → IsLed before after (seen s) (seen (record s { held = with_item s.held before None; blocks = t; names = names }))
    led_now table marked ways =
        let n = same.numbers in
        let w = tied.named in
        let l_old = left_is s (before / s.blocks.size) has victim in
        let l_new = left_is new (before / s.blocks.size) (has_same (before / s.blocks.size) n has) victim in
        let g_old : gain_of (seen s) ≡ dead_count (block_at s.blocks (before / s.blocks.size)) = ap (λ v. gain_of (record (seen s) { victim = v })) victim ∙ dead_here s.blocks (before / s.blocks.size) has in
        let g_new : gain_of (seen new) ≡ dead_count (block_at t (before / s.blocks.size)) = ap (λ v. gain_of (record (seen new) { victim = v })) victim ∙ dead_here t (before / s.blocks.size) (has_same (before / s.blocks.size) n has) in
        let one = one_dead in
        let most = fits in
        record {
          pages = record { same_first = n.same_first; same_blocks = λ i. n.same_first i + n.same_count i; same_size = n.same_size; same_wear = λ b. ap (λ (u : Use). wear_with u (soiled (seen s) b)) (same.uses b) };
          held = refl;
          next = (λ i. s.active * n.same_size i + s.used, λ i. n.same_size i - s.used);
          copies = (λ i. s.target * n.same_size i + s.filled, λ i. n.same_size i - s.filled);
          free = same.total;
          uses = same.uses;
          soiled = refl;
          ways = ways;
          own =
              let l = HasLink-insert_new pairs (place_of pairs before) (pair before after) few in
              seen_old new before (subst (λ (xs : List Link). IsOld xs before) (sym pairs_now) (l.0, l.1, ap (λ (x : Link). x.from) l.2));
          names = λ name old. ⊎_elim (λ e. inl e) (λ old_was. inr (seen_old s name old_was)) (old_back name (subst (λ l. IsOld l name) pairs_now (old_is new name old)));
          pairs =
              let a = ap (λ (l : List Link). length l) pairs_now in
              let b = length-insert pairs (place_of pairs before) (pair before after) few in
              let d = length-map s.names.pairs (led_on before after) in
              let x = told_length names.pairs in
              let y = told_length s.names.pairs in
              omega (arith, a, b, d, x, y);
          pair_room = let r = ap (λ (x : NameTable). x.room) put in omega (arith, r, room);
          victim = refl;
          waits = waiting_used s.blocks t same;
          left = let e = n.same_size in omega (arith, l_old, l_new, one, most, e);
          gain = omega (arith, g_old, g_new, one);
        }
      where
        at : ℕ
        at = before % s.blocks.size

        row : BlockRow
        row = block_at s.blocks (before / s.blocks.size)

        less : before % s.blocks.size < length (block_at s.blocks (before / s.blocks.size)).pages
        less =
            let some = is.some in
            let long = row_size s.blocks table (before / s.blocks.size) has in
            let m : before % s.blocks.size < s.blocks.size = omega (arith, some) in
            omega (arith, m, long)

        was_live : (get_or (block_at s.blocks (before / s.blocks.size)).pages (before % s.blocks.size) new_page).state ≡ Live
        was_live = is.marked.each before has ∙ ap state_for h.1

        one_dead : dead_count (block_at t (before / s.blocks.size)) ≡ dead_count (block_at s.blocks (before / s.blocks.size)) + 1
        one_dead =
            let sums = sum_by-set (λ (p : Page). num (is_dead_state p.state)) (block_at s.blocks (before / s.blocks.size)).pages (before % s.blocks.size) (record { state = Dead; marked = true }) new_page less in
            let here : num (is_dead_state (get_or (block_at s.blocks (before / s.blocks.size)).pages (before % s.blocks.size) new_page).state) ≡ 0 = ap (λ (x : PageState). num (is_dead_state x)) was_live in
            let now : dead_count (block_at t (before / s.blocks.size)) ≡ dead_count (with_mark (block_at s.blocks (before / s.blocks.size)) (before % s.blocks.size) Dead) = ap (λ (u : Table). dead_count (block_at u (before / s.blocks.size))) marked ∙ ap dead_count (block_at-with_block_same s.blocks (before / s.blocks.size) (with_mark (block_at s.blocks (before / s.blocks.size)) (before % s.blocks.size) Dead) has) in
            omega (arith, sums, here, now)

        fits : dead_count (block_at t (before / s.blocks.size)) ≤ s.blocks.size
        fits =
            let long = row_size s.blocks table (before / s.blocks.size) has in
            let set_long = length-set (block_at s.blocks (before / s.blocks.size)).pages (before % s.blocks.size) (record { state = Dead; marked = true }) in
            let now : dead_count (block_at t (before / s.blocks.size)) ≡ dead_count (with_mark (block_at s.blocks (before / s.blocks.size)) (before % s.blocks.size) Dead) = ap (λ (u : Table). dead_count (block_at u (before / s.blocks.size))) marked ∙ ap dead_count (block_at-with_block_same s.blocks (before / s.blocks.size) (with_mark (block_at s.blocks (before / s.blocks.size)) (before % s.blocks.size) Dead) has) in
            let most = count_by-le-length is_dead (with_mark (block_at s.blocks (before / s.blocks.size)) (before % s.blocks.size) Dead).pages in
            omega (arith, long, set_long, now, most)

        seen_old : (s : Kept) (name : ℕ) → IsOld s.names.pairs name → IsOldName (seen s) name
        seen_old s name old =
            let turn : Link → ℕ × ℕ = λ p. (p.from, p.to) in
            ((link_at s.names.pairs old.0).to, (old.0, subst (λ n. old.0 < n) (sym (length-map s.names.pairs turn)) old.1, get_or-map turn s.names.pairs old.0 no_link (name, (link_at s.names.pairs old.0).to) old.1 ∙ (λ i. (old.2 i, (link_at s.names.pairs old.0).to))))
