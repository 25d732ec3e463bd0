-- A number is given an entry.
use Rattle.std.proofs.Common.{◌≡◌, ◌⊎◌, inl, inr, ⊎_elim, ℕ, ◌+◌, ◌-◌, ◌/◌, ◌<◌, ◌≤◌, ◌==◌, if◌then◌else◌, true, Some, length, refl, sym, ◌∙◌, ap, subst, arith, eqb-true, ne_eqb, eq-eqb}
use Rattle.std.proofs.lemmas.Bool.{cases_eq, cond-false, cond-true}
use Rattle.std.proofs.lemmas.Option.{same_Some}
use Rattle.nl_field.specs.Page.{page_at}
use Rattle.nl_nand.specs.declared.geometry.Geometry.{Geometry}
use Rattle.nl_pagemap.specs.Mapped.{Mapped, live_among, untried_of}
use Rattle.nl_pagemap.specs.Stands.{IsEntry, IsMapped}
use Rattle.nl_pagemap.proofs.Counted.{less, less_but_one}
use Rattle.nl_pagemap.proofs.Numbers.{numbers_with, within}
use Rattle.nl_pagemap_names.specs.Table.{entry_at, given, live_at}
use Rattle.nl_pagemap_names.specs.Untried.{is_in, used_in}
use Rattle.nl_pagemap_names.specs.declared.entry.Entry.{Entry}
use Rattle.nl_pagemap_names.proofs.Changed.{given_entry, given_live}
use Rattle.nl_pseg_pages.specs.Pages.{main_of, shown_by}

module _ {tells : Type 0} {geometry : Geometry} (s : Mapped) (f : IsMapped tells geometry s) (name : ℕ) (entry : Entry) (is : IsEntry s.shape s.untried s.table.last s.next name entry) where
  has_entry : name < length s.table.entries
  has_entry = within f name is.below

  new_entry : (q : ℕ) → entry_at (given name entry s.table) q ≡ (if q == name then Some entry else entry_at s.table q)
  new_entry q = given_entry s.table f.numbers.table name has_entry entry q

  pub entry_here : entry_at (given name entry s.table) name ≡ Some entry
  entry_here = new_entry name ∙ cond-true (name == name) (Some entry) (entry_at s.table name) (eq-eqb name name refl)

  pub entry_other : (q : ℕ) → (q ≡ name → ⊥) → entry_at (given name entry s.table) q ≡ entry_at s.table q
  entry_other q off = new_entry q ∙ cond-false (q == name) (Some entry) (entry_at s.table q) (ne_eqb q name off)

  pub live_here : live_at (given name entry s.table) name ≡ Some entry
  live_here = given_live s.table f.numbers.table name has_entry entry name ∙ cond-true (name == name) (Some entry) (live_at s.table name) (eq-eqb name name refl)

  pub live_other : (q : ℕ) → (q ≡ name → ⊥) → live_at (given name entry s.table) q ≡ live_at s.table q
  live_other q off = given_live s.table f.numbers.table name has_entry entry q ∙ cond-false (q == name) (Some entry) (live_at s.table q) (ne_eqb q name off)

  -- what a number was last given
  split : (q : ℕ) (e : Entry) → entry_at (given name entry s.table) q ≡ Some e → ((q ≡ name) × (entry ≡ e)) ⊎ ((q ≡ name → ⊥) × (entry_at s.table q ≡ Some e))
  split q e at = elim (cases_eq q name) [
    | inl same ↦ inl (same, same_Some entry e (sym entry_here ∙ (ap (λ m. entry_at (given name entry s.table) m) (sym same) ∙ at)))
    | inr off ↦ inr (off, sym (entry_other q off) ∙ at)
  ]

  -- ---- the numbers in use of a block

  used_most : (b : ℕ) → used_in s.shape.pages (given name entry s.table) b ≤ used_in s.shape.pages s.table b + 1
  used_most b = less_but_one (λ n. is_in s.shape.pages b (live_at s.table n)) (λ n. is_in s.shape.pages b (live_at (given name entry s.table) n)) name s.table.first (s.table.last - s.table.first)
      (λ q off has. ap (λ o. is_in s.shape.pages b o) (sym (live_other q off)) ∙ has)

  used_other : (b : ℕ) → (entry.page / s.shape.pages ≡ b → ⊥) → used_in s.shape.pages (given name entry s.table) b ≤ used_in s.shape.pages s.table b
  used_other b off = less (λ n. is_in s.shape.pages b (live_at s.table n)) (λ n. is_in s.shape.pages b (live_at (given name entry s.table) n)) s.table.first (s.table.last - s.table.first)
      (λ q from has. ⊎_elim
      (λ here.
      let there : is_in s.shape.pages b (Some entry) ≡ true = ap (λ o. is_in s.shape.pages b o) (sym live_here) ∙ (ap (λ m. is_in s.shape.pages b (live_at (given name entry s.table) m)) (sym here) ∙ has) in
      absurd (off (eqb-true (entry.page / s.shape.pages) b there)))
      (λ away. ap (λ o. is_in s.shape.pages b o) (sym (live_other q away)) ∙ has)
      (cases_eq q name))

  module _ (count : ℕ) (own : (m : ℕ) (d : Entry) → entry_at s.table m ≡ Some d → d.stamp ≡ entry.stamp → m ≡ name)
      (holds : tells → shown_by (page_at s.image entry.page) ≡ Some (entry.tag, entry.stamp, main_of (page_at s.image entry.page)))
      (slack : used_in s.shape.pages s.table (entry.page / s.shape.pages) + untried_of s.shape s.untried (entry.page / s.shape.pages) + 1 ≤ s.shape.pages)
      (count_is : count ≡ live_among s.shape (given name entry s.table)) where
    abbrev pub granted : Mapped
    granted = record s { table = given name entry s.table; count = count }

    few : (b : ℕ) → s.shape.vblocks ≤ b → b < s.shape.blocks → used_in s.shape.pages (given name entry s.table) b + untried_of s.shape s.untried b ≤ s.shape.pages
    few b from below = ⊎_elim
        (λ here.
        let most = used_most b in
        let room : used_in s.shape.pages s.table b + untried_of s.shape s.untried b + 1 ≤ s.shape.pages = subst (λ q. used_in s.shape.pages s.table q + untried_of s.shape s.untried q + 1 ≤ s.shape.pages) here slack in
        omega (arith, most, room))
        (λ off. let le = used_other b off in let was = f.counts.few b from below in omega (arith, le, was))
        (cases_eq (entry.page / s.shape.pages) b)

    differ : (q r : ℕ) (a b : Entry) → entry_at granted.table q ≡ Some a → entry_at granted.table r ≡ Some b → a.stamp ≡ b.stamp → q ≡ r
    differ q r a b q_is r_is e = ⊎_elim
        (λ x. ⊎_elim
        (λ y. x.0 ∙ sym y.0)
        (λ y. let same = ap (λ (l : Entry). l.stamp) x.1 in x.0 ∙ sym (own r b y.1 (sym e ∙ sym same)))
        (split r b r_is))
        (λ x. ⊎_elim
        (λ y. let same = ap (λ (l : Entry). l.stamp) y.1 in own q a x.1 (e ∙ sym same) ∙ sym y.0)
        (λ y. f.differ q r a b x.1 y.1 e)
        (split r b r_is))
        (split q a q_is)

    pub granted_mapped : IsMapped tells geometry granted
    granted_mapped = record {
      volume = f.volume;
      bounds = f.bounds;
      blocks = f.blocks;
      pages = f.pages;
      virtual = f.virtual;
      numbers = numbers_with s.shape s.table name entry f.numbers;
      counts = record { count = f.counts.count; few = few };
      entries = λ q e at. ⊎_elim
          (λ here. subst (λ (x : Entry). IsEntry s.shape s.untried s.table.last s.next q x) here.1 (subst (λ m. IsEntry s.shape s.untried s.table.last s.next m entry) (sym here.0) is))
          (λ was. f.entries q e was.1)
          (split q e at);
      differ = differ;
      room = f.room;
      free = f.free;
      count = count_is;
      some = f.some;
      most = f.most;
      addresses = f.addresses;
      medium = λ told. record {
        virtual_is = (f.medium told).virtual_is;
        holds = λ q e at. ⊎_elim
            (λ here. subst (λ (x : Entry). shown_by (page_at s.image x.page) ≡ Some (x.tag, x.stamp, main_of (page_at s.image x.page))) here.1 (holds told))
            (λ was. (f.medium told).holds q e was.1)
            (split q e at);
        blank = (f.medium told).blank;
      };
    }
