-- The numbers that are not in use keep no entry.
use Rattle.std.proofs.Common.{◌≡◌, ◌⊎◌, inl, inr, ℕ, ◌+◌, ◌-◌, ◌*◌, ◌/◌, Bool, true, false, cond, count_by, Option, Some, None, is_some, option_map, length, get_or, refl, sym, ◌∙◌, ap, subst, arith, eq-eqb}
use Rattle.std.specs.List.{range_with_len}
use Rattle.std.proofs.lemmas.Bool.{false≢true}
use Rattle.nl_field.specs.Medium.{first_physical}
use Rattle.nl_nand.specs.declared.geometry.Geometry.{Geometry}
use Rattle.nl_pagemap.specs.Cleaning.{KeepsNumbers}
use Rattle.nl_pagemap.specs.Laws.{live_entry}
use Rattle.nl_pagemap.specs.Mapped.{Mapped, named_at, named_by, page_live, page_of}
use Rattle.nl_pagemap.specs.Stands.{IsEntry, IsMapped}
use Rattle.nl_pagemap.proofs.Counted.{same_count}
use Rattle.nl_pagemap_names.specs.Table.{ForgetsReleased, Table, entry_at, live_at}
use Rattle.nl_pagemap_names.specs.Untried.{is_in, used_in}
use Rattle.nl_pagemap_names.specs.declared.entry.Entry.{Entry}

twice : (b : Bool) (o : Option Entry) → cond b (cond b o None) None ≡ cond b o None
twice true o = refl
twice false o = refl

module _ {tells : Type 0} {geometry : Geometry} (s : Mapped) (t : Table) (f : IsMapped tells geometry s) (k : ForgetsReleased s.table t) where
  abbrev pub forgotten : Mapped
  forgotten = record s { table = t }

  -- what is in use has what it had
  pub live_same : (n : ℕ) → live_at t n ≡ live_at s.table n
  live_same n = (λ i. cond (get_or (k.used i) n false) (k.entries n i) None) ∙ twice (get_or s.table.used n false) (entry_at s.table n)

  was : (n : ℕ) (e : Entry) → entry_at t n ≡ Some e → entry_at s.table n ≡ Some e
  was n e is = live_entry s.table.entries s.table.used n e (sym (k.entries n) ∙ is)

  used_same : (b : ℕ) → used_in s.shape.pages t b ≡ used_in s.shape.pages s.table b
  used_same b =
      (λ i. count_by (λ n. is_in s.shape.pages b (live_at t n)) (range_with_len (k.first i) (k.last i - k.first i)))
      ∙ same_count (λ n. is_in s.shape.pages b (live_at s.table n)) (λ n. is_in s.shape.pages b (live_at t n)) s.table.first (s.table.last - s.table.first) (λ n from. ap (λ o. is_in s.shape.pages b o) (live_same n))

  pub forgotten_mapped : IsMapped tells geometry forgotten
  forgotten_mapped = record {
    volume = f.volume;
    bounds = f.bounds;
    blocks = f.blocks;
    pages = f.pages;
    virtual = f.virtual;
    numbers = record {
      table = record { same = ap length k.used ∙ (f.numbers.table.same ∙ sym k.count) };
      count = k.count ∙ f.numbers.count;
      first = k.first ∙ f.numbers.first;
      last = ap (λ n. n + s.shape.pages) k.last ∙ f.numbers.last;
    };
    counts = record { count = f.counts.count; few = λ b from below. let few = f.counts.few b from below in let same = used_same b in omega (arith, few, same) };
    entries = λ n e is. subst (λ last. IsEntry s.shape s.untried last s.next n e) (sym k.last) (f.entries n e (was n e is));
    differ = λ n m d e is other same. f.differ n m d e (was n d is) (was m e other) same;
    room = f.room;
    free = f.free;
    count = f.count ∙ sym (same_count (λ n. is_some (page_live s.table n)) (λ n. is_some (page_live t n)) (first_physical s.shape) (s.shape.pblocks * s.shape.pages) (λ n from. ap (λ o. is_some (option_map page_of o)) (live_same n)));
    some = f.some;
    most = f.most;
    addresses = f.addresses;
    medium = λ told. record {
      virtual_is = (f.medium told).virtual_is;
      holds = λ n e is. (f.medium told).holds n e (was n e is);
      blank = (f.medium told).blank;
    };
  }

  stored : (n : ℕ) → (named_at forgotten n ≡ named_at s n) ⊎ ((page_live s.table n ≡ None) × (named_at forgotten n ≡ None))
  stored n = by (get_or s.table.used n false) (k.entries n)
    where
      by : (b : Bool) → entry_at t n ≡ cond b (entry_at s.table n) None
          → (named_by s.image (entry_at t n) ≡ named_by s.image (entry_at s.table n))
          ⊎ ((option_map page_of (cond b (entry_at s.table n) None) ≡ None) × (named_by s.image (entry_at t n) ≡ None))
      by true is = inl (ap (λ o. named_by s.image o) is)
      by false is = inr (refl, ap (λ o. named_by s.image o) is)

  pub forgotten_keeps : KeepsNumbers tells s forgotten
  forgotten_keeps = record {
    shape = refl;
    vseg = refl;
    next = refl;
    count = refl;
    live = λ n. ap (option_map page_of) (live_same n);
    map = λ told v. refl;
    stored = λ told n. stored n;
  }

-- where no number in use has its page in a block, none at all has
pub forgotten_off : (size block : ℕ) (s t : Table) → ForgetsReleased s t → ((n : ℕ) → is_in size block (live_at s n) ≡ false)
    → (n : ℕ) (e : Entry) → entry_at t n ≡ Some e → e.page / size ≡ block → ⊥
forgotten_off size block s t k off n e is here =
    let none : is_in size block (Some e) ≡ false = sym (ap (λ o. is_in size block o) (sym (k.entries n) ∙ is)) ∙ off n in
    false≢true (sym none ∙ eq-eqb (e.page / size) block here)
