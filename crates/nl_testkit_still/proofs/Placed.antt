-- A page was written.
use Rattle.std.proofs.Common.{◌≡◌, ◌⊎◌, inl, inr, ⊎_elim, ℕ, ◌+◌, ◌-◌, ◌*◌, ◌/◌, ◌<◌, ◌≤◌, true, false, List, Option, Some, None, is_some, option_map, length, get_or, set, refl, sym, ◌∙◌, ap, subst, arith, ne_eqb, eq-eqb, ◌==◌}
use Rattle.std.proofs.lemmas.Bool.{cases_eq, cond-false, cond-true}
use Rattle.std.proofs.lemmas.List.{get_or-set_same, get_or-set_other, length-set}
use Rattle.std.proofs.lemmas.Option.{none-some}
use Rattle.nl_field.specs.Medium.{first_physical}
use Rattle.nl_field.specs.Numbers.{ShapeBounds}
use Rattle.nl_field.specs.Page.{PageBytes}
use Rattle.nl_field.specs.declared.pointer.Tag.{Tag}
use Rattle.nl_field.specs.declared.shape.Shape.{Shape}
use Rattle.nl_iface.specs.Device.{IsVolumeShape}
use Rattle.nl_iface.specs.Left.{HoldsLive, LeavesTried}
use Rattle.nl_iface.specs.Names.{IsNewName, LivePage, with_page}
use Rattle.nl_iface.specs.Space.{Wrote}
use Rattle.nl_iface.specs.Stored.{NamedPage, SameVirtual, Stored}
use Rattle.nl_testkit_still.specs.Laws.{holds_live, leaves_in, leaves_pages}
use Rattle.nl_testkit_still.specs.Stands.{IsLabel, IsStill}
use Rattle.nl_testkit_still.specs.Still.{PutsStill, bytes_at, holding, label, label_at, live_at, live_in, map_at, named_at, names_of, no_page, page_of, space_of, stamp_at, stored_in}
use Rattle.nl_testkit_still.specs.declared.still.Label.{Label}
use Rattle.nl_testkit_still.specs.declared.still.Still.{Still}
use Rattle.nl_testkit_still.proofs.Counted.{one_more}
use Rattle.nl_testkit_still.proofs.Labels.{set_label, set_live}

-- nothing is tried
pub stays : (s : Still) (new : NamedPage) → IsStill s → LeavesTried s.shape (names_of s) (λ p. bytes_at s.pages.items p) new (stored_in s) (stored_in s)
stays s new f = record {
  same_virtual = record { values = λ v. refl; firm = refl };
  holds = holds_live s f;
  pages = leaves_pages s f;
  others = λ p. inl refl;
}

-- the page that is written next has its place in the segment, below the last block
pub next_within : (s : Still) → IsStill s → 0 < s.room → s.given < s.shape.blocks * s.shape.pages
next_within s f room = let all = f.room in omega (arith, all, room)

pub next_in_segment : (s : Still) → IsStill s → (p : ℕ) → p < s.shape.blocks * s.shape.pages → p < first_physical s.shape + s.shape.pblocks * s.shape.pages
next_in_segment s f p within =
    let all : (s.shape.vblocks + s.shape.pblocks) * s.shape.pages ≡ s.shape.blocks * s.shape.pages = ap (λ n. n * s.shape.pages) f.bounds.segments in
    let parts : (s.shape.vblocks + s.shape.pblocks) * s.shape.pages ≡ s.shape.vblocks * s.shape.pages + s.shape.pblocks * s.shape.pages = omega arith in
    omega (arith, within, all, parts)

-- the page that is written next holds nothing
pub next_is_none : (s : Still) → IsStill s → label_at s.labels.items s.given ≡ None
next_is_none s f = by (label_at s.labels.items s.given) refl
  where
    by : (o : Option Label) → label_at s.labels.items s.given ≡ o → o ≡ None
    by None is = refl
    by (Some l) is = let below = (f.written s.given l is).below in absurd (omega (arith, below))

pub next_is_dead : (s : Still) → IsStill s → live_at s.live.items s.given ≡ None
next_is_dead s f = ap (λ (o : Option Label). option_map page_of o) (by (label_at s.live.items s.given) refl)
  where
    by : (o : Option Label) → label_at s.live.items s.given ≡ o → o ≡ None
    by None is = refl
    by (Some l) is = let below = (f.written s.given l (f.holds s.given l is)).below in absurd (omega (arith, below))

module _ (tag : Tag) (from : PageBytes) (s t : Still) (f : IsStill s) (room : 0 < s.room) (p : PutsStill tag from s t) where
  abbrev pub written : Label
  written = label tag s.next

  within : s.given < length s.labels.items
  within = subst (λ n. s.given < n) (sym f.labels) (next_within s f room)

  within_live : s.given < length s.live.items
  within_live = subst (λ n. s.given < n) (sym f.live) (next_within s f room)

  within_pages : s.given < length s.pages.items
  within_pages = subst (λ n. s.given < n) (sym f.pages) (next_within s f room)

  same_first : first_physical t.shape ≡ first_physical s.shape
  same_first = ap first_physical p.shape

  -- what stands on a page
  split : (q : ℕ) (l : Label) → label_at t.labels.items q ≡ Some l → ((q ≡ s.given) × (written ≡ l)) ⊎ ((q ≡ s.given → ⊥) × (label_at s.labels.items q ≡ Some l))
  split q l is = set_label s.labels.items s.given written q l within (ap (λ (xs : List (Option Label)). label_at xs q) (sym p.labels) ∙ is)

  split_live : (q : ℕ) (l : Label) → label_at t.live.items q ≡ Some l → ((q ≡ s.given) × (written ≡ l)) ⊎ ((q ≡ s.given → ⊥) × (label_at s.live.items q ≡ Some l))
  split_live q l is = set_label s.live.items s.given written q l within_live (ap (λ (xs : List (Option Label)). label_at xs q) (sym p.live) ∙ is)

  is_label : (q : ℕ) (l : Label) → label_at t.labels.items q ≡ Some l → IsLabel (first_physical s.shape) t.given t.next q l
  is_label q l is = ⊎_elim
      (λ here.
      let at = here.0 in
      let same = ap (λ (x : Label). x.stamp) here.1 in
      let first = f.from in
      let some = f.some in
      let given = p.given in
      let next = p.next in
      record { from = omega (arith, at, first); below = omega (arith, at, given); some = omega (arith, same, some); stamp = omega (arith, same, next) })
      (λ was.
      let w = f.written q l was.1 in
      let a = w.from in
      let b = w.below in
      let c = w.some in
      let d = w.stamp in
      let given = p.given in
      let next = p.next in
      record { from = a; below = omega (arith, b, given); some = c; stamp = omega (arith, d, next) })
      (split q l is)

  differ : (q r : ℕ) (a b : Label) → label_at t.labels.items q ≡ Some a → label_at t.labels.items r ≡ Some b → a.stamp ≡ b.stamp → q ≡ r
  differ q r a b q_is r_is e = ⊎_elim
      (λ x. ⊎_elim
      (λ y. x.0 ∙ sym y.0)
      (λ y. let lt = (f.written r b y.1).stamp in let same = ap (λ (l : Label). l.stamp) x.1 in absurd (omega (arith, lt, same, e)))
      (split r b r_is))
      (λ x. ⊎_elim
      (λ y. let lt = (f.written q a x.1).stamp in let same = ap (λ (l : Label). l.stamp) y.1 in absurd (omega (arith, lt, same, e)))
      (λ y. f.differ q r a b x.1 y.1 e)
      (split r b r_is))
      (split q a q_is)

  labelled : label_at t.labels.items s.given ≡ Some written
  labelled = ap (λ (xs : List (Option Label)). label_at xs s.given) p.labels ∙ get_or-set_same s.labels.items s.given (Some written) None within

  holds : (q : ℕ) (l : Label) → label_at t.live.items q ≡ Some l → label_at t.labels.items q ≡ Some l
  holds q l is = ⊎_elim
      (λ here. ap (λ n. label_at t.labels.items n) here.0 ∙ (labelled ∙ ap (λ (x : Label). Some x) here.1))
      (λ was. ap (λ (xs : List (Option Label)). label_at xs q) p.labels ∙ (get_or-set_other s.labels.items s.given q (Some written) None was.0 ∙ f.holds q l was.1))
      (split_live q l is)

  pub put_still : IsStill t
  put_still =
      let room_before = f.room in
      let given = p.given in
      let left = p.room in
      let pages = ap (λ (h : Shape). h.pages) p.shape in
      let all = ap (λ (h : Shape). h.blocks * h.pages) p.shape in
      let first = f.from in
      let some = f.some in
      let next = p.next in
      record {
        volume = subst IsVolumeShape (sym p.shape) f.volume;
        bounds = subst ShapeBounds (sym p.shape) f.bounds;
        labels = ap (λ (xs : List (Option Label)). length xs) p.labels ∙ (length-set s.labels.items s.given (Some written) ∙ (f.labels ∙ sym all));
        live = ap (λ (xs : List (Option Label)). length xs) p.live ∙ (length-set s.live.items s.given (Some written) ∙ (f.live ∙ sym all));
        pages = ap (λ (xs : List PageBytes). length xs) p.pages ∙ (length-set s.pages.items s.given from ∙ (f.pages ∙ sym all));
        stamps = ap (λ (xs : List (Option ℕ)). length xs) p.stamps ∙ (f.stamps ∙ sym (ap (λ (h : Shape). h.vaddrs) p.shape));
        values = ap (λ (xs : List PageBytes). length xs) p.values ∙ (f.values ∙ sym (ap (λ (h : Shape). h.vaddrs) p.shape));
        written = λ q l is. subst (λ n. IsLabel n t.given t.next q l) (sym same_first) (is_label q l is);
        differ = differ;
        holds = holds;
        from = subst (λ n. n ≤ t.given) (sym same_first) (omega (arith, first, given));
        room = omega (arith, room_before, given, left, pages, all);
        free = p.free ∙ ap (λ n. 1 + t.room / n) (sym pages);
        some = omega (arith, some, next);
        addresses = λ v u is. let lt = f.addresses v u (ap (λ (xs : List (Option ℕ)). stamp_at xs v) (sym p.stamps) ∙ is) in omega (arith, lt, next);
      }

  -- ---- what is seen then

  pub put_live : (q : ℕ) → live_at t.live.items q ≡ with_page (λ r. live_at s.live.items r) s.given (page_of written) q
  put_live q = ap (λ (xs : List (Option Label)). live_at xs q) p.live ∙ set_live s.live.items s.given written within_live q

  pub put_bytes : bytes_at t.pages.items s.given ≡ from.main
  put_bytes = ap (λ (xs : List PageBytes). bytes_at xs s.given) p.pages ∙ ap (λ (x : PageBytes). x.main) (get_or-set_same s.pages.items s.given from no_page within_pages)

  pub other_bytes : (q : ℕ) → (q ≡ s.given → ⊥) → bytes_at t.pages.items q ≡ bytes_at s.pages.items q
  other_bytes q off = ap (λ (xs : List PageBytes). bytes_at xs q) p.pages ∙ ap (λ (x : PageBytes). x.main) (get_or-set_other s.pages.items s.given q from no_page off)

  pub put_named : named_at t.labels.items t.pages.items s.given ≡ Some (record { tag = tag; stamp = s.next; bytes = from.main })
  put_named = ap (λ (o : Option Label). option_map (holding (bytes_at t.pages.items s.given)) o) labelled ∙ ap (λ (bytes : List ℕ). Some (holding bytes written)) put_bytes

  pub other_named : (q : ℕ) → (q ≡ s.given → ⊥) → named_at t.labels.items t.pages.items q ≡ named_at s.labels.items s.pages.items q
  other_named q off =
      ap (λ (o : Option Label). option_map (holding (bytes_at t.pages.items q)) o) (ap (λ (xs : List (Option Label)). label_at xs q) p.labels ∙ get_or-set_other s.labels.items s.given q (Some written) None off)
      ∙ ap (λ (bytes : List ℕ). option_map (holding bytes) (label_at s.labels.items q)) (other_bytes q off)

  pub same_map : (v : ℕ) → map_at t.stamps.items t.values.items v ≡ map_at s.stamps.items s.values.items v
  same_map v = λ i. map_at (p.stamps i) (p.values i) v

  -- one page more is live
  pub put_count : live_in t.shape t.live.items ≡ live_in s.shape s.live.items + 1
  put_count =
      ap (λ (h : Shape). live_in h t.live.items) p.shape
      ∙ one_more (λ q. is_some (live_at s.live.items q)) (λ q. is_some (live_at t.live.items q)) s.given (first_physical s.shape) (s.shape.pblocks * s.shape.pages) f.from
      (next_in_segment s f s.given (next_within s f room)) (ap is_some (next_is_dead s f))
      (ap is_some (put_live s.given ∙ cond-true (s.given == s.given) (Some (page_of written)) (live_at s.live.items s.given) (eq-eqb s.given s.given refl)))
      (λ q off. ap is_some (put_live q ∙ cond-false (q == s.given) (Some (page_of written)) (live_at s.live.items q) (ne_eqb q s.given off)))

  -- of a memory that holds the same, with as many live pages or more
  module _ (old : Still) (g : IsStill old) (same_shape : old.shape ≡ s.shape) (same_given : old.given ≡ s.given) (same_labels : old.labels.items ≡ s.labels.items) (same_pages : old.pages.items ≡ s.pages.items) where
    pub is_new : IsNewName old.shape (names_of old) s.given
    is_new = record {
      low = subst (λ (h : Shape). first_physical h ≤ s.given) (sym same_shape) f.from;
      high = subst (λ (h : Shape). s.given < h.blocks * h.pages) (sym same_shape) (next_within s f room);
      dead = ap (λ n. live_at old.live.items n) (sym same_given) ∙ next_is_dead old g;
      own = refl;
    }

    off_next : (q : ℕ) (page : LivePage) → live_at old.live.items q ≡ Some page → q ≡ s.given → ⊥
    off_next q page live here = none-some page (sym (next_is_dead old g) ∙ (ap (λ n. live_at old.live.items n) (same_given ∙ sym here) ∙ live))

    as_before : (q : ℕ) → named_at s.labels.items s.pages.items q ≡ named_at old.labels.items old.pages.items q
    as_before q = λ i. named_at ((sym same_labels) i) ((sym same_pages) i) q

    pub kept_bytes : (q : ℕ) (page : LivePage) → live_at old.live.items q ≡ Some page → bytes_at t.pages.items q ≡ bytes_at old.pages.items q
    kept_bytes q page live = other_bytes q (off_next q page live) ∙ ap (λ (xs : List PageBytes). bytes_at xs q) (sym same_pages)

    holds_still : HoldsLive (λ q. live_at old.live.items q) (λ q. bytes_at old.pages.items q) (stored_in t)
    holds_still q page live = other_named q (off_next q page live) ∙ (as_before q ∙ holds_live old g q page live)

    pub tried : ((v : ℕ) → map_at s.stamps.items s.values.items v ≡ map_at old.stamps.items old.values.items v)
        → LeavesTried old.shape (names_of old) (λ q. bytes_at old.pages.items q) (record { tag = tag; stamp = s.next; bytes = from.main }) (stored_in old) (stored_in t)
    tried map = record {
      same_virtual = record { values = λ v. same_map v ∙ map v; firm = refl };
      holds = holds_still;
      pages = leaves_in old g (stored_in t) holds_still;
      others = λ q. ⊎_elim
          (λ here. inr (inr (subst (λ n. IsNewName old.shape (names_of old) n) (sym here) is_new, ap (λ n. named_at t.labels.items t.pages.items n) here ∙ put_named)))
          (λ off. inl (other_named q off ∙ as_before q))
          (cases_eq q s.given);
    }

    -- what a stop leaves then
    pub left_with : ((v : ℕ) → map_at s.stamps.items s.values.items v ≡ map_at old.stamps.items old.values.items v) → (c : Stored) → c ≡ stored_in t
        → LeavesTried old.shape (names_of old) (λ q. bytes_at old.pages.items q) (record { tag = tag; stamp = s.next; bytes = from.main }) (stored_in old) c
        × (c.named s.given ≡ Some (record { tag = tag; stamp = s.next; bytes = from.main }))
    left_with map c is = subst
        (λ (k : Stored). LeavesTried old.shape (names_of old) (λ q. bytes_at old.pages.items q) (record { tag = tag; stamp = s.next; bytes = from.main }) (stored_in old) k
        × (k.named s.given ≡ Some (record { tag = tag; stamp = s.next; bytes = from.main })))
        (sym is)
        (tried map, put_named)

-- the numbers after it, where as many pages as `gone` are live no longer
pub wrote : (gone : ℕ) (old t : Still) → t.shape ≡ old.shape → t.room + 1 ≡ old.room → live_in t.shape t.live.items + gone ≡ live_in old.shape old.live.items + 1 → Wrote gone (space_of old) (space_of t)
wrote gone old t shape room live = record {
  same = record { block = ap (λ (h : Shape). h.pages) shape; all = ap (λ (h : Shape). h.pblocks * h.pages) shape; bad = omega arith; kept = refl };
  lessened = record { victim = refl; waiting = omega arith; pairs = omega arith; left = omega arith; left_most = omega arith; lands = λ none can. omega arith };
  live = live;
  room = λ none. omega (arith, room);
  exact = λ none why. (refl, room);
}
