-- Calls of a core one after the other.
use Rattle.std.proofs.Common.{◌≡◌, ◌⊎◌, inl, inr, ⊎_elim, ℕ, ◌+◌, ◌<◌, ◌≤◌, ◌^◌, length, Option, refl, sym, subst, ◌∙◌, arith}
use Rattle.std.proofs.lemmas.Bool.{cases_eq, cases_lt}
use Rattle.nl_field.specs.CrashStates.{Earlier, Rose, saturated, top}
use Rattle.nl_field.specs.Members.{Has}
use Rattle.nl_field.specs.declared.shape.Shape.{Shape}
use Rattle.nl_tree.specs.Tree.{Tree}
use Rattle.nl_iface.specs.Calls.{CrashStatesHave}
use Rattle.nl_iface.specs.declared.counts.Counts.{Ghosts}
use Rattle.nl_meta.specs.Consistent.{PageOfStamp}
use Rattle.nl_journal_commit.proofs.Paid.{has_number, paid_then}
use Rattle.nl_spec_commits.specs.TreeLaws.{OpensFrom}
use Rattle.nl_spec_commits.specs.Trees.{StoredOpensAs, Prefix, Trees, prefixes}
use Rattle.nl_core.specs.Calls.{FailureIsCounted}
use Rattle.nl_core.specs.Core.{IsCore, begun_of}
use Rattle.nl_core.specs.Goes.{PreservesVolume, PreservesTrees, PaidSince, PreservesTree, TurnsReadOnly}
use Rattle.nl_core.specs.Trees.{CoreRepresentsTree, CoreRepresents, CoreIsObservable}
use Rattle.nl_core.specs.declared.state.Core.{Core}
use Rattle.nl_core.proofs.Counts.{onward_none, onward_then}
use Rattle.nl_core.proofs.Running.{with_none}

-- a count that did not rise
not_rose : (x y : ℕ) → (Rose x y → ⊥) → y < saturated (x + 1)
not_rose x y none = ⊎_elim (λ low. low) (λ high. absurd (none high)) (cases_lt y (saturated (x + 1)))

none_rose : (x y z : ℕ) → y < saturated (x + 1) → z < saturated (y + 1) → Rose x z → ⊥
none_rose x y z one two rose = omega (arith, one, two, rose)

module _ {D : Type 0} (g : Ghosts D) (u v w : Core D) (m n : ℕ) (a : PreservesVolume g m u v) (b : PreservesVolume g n v w) where
  stops_then : TurnsReadOnly g u w
  stops_then = record {
    stands = λ off. let one = a.stops.stands off in b.stops.stands (λ z. off (sym one ∙ z)) ∙ one;
    none = λ none rose.
        let still : v.stopped ≡ 0 = ⊎_elim (λ e. e) (λ off. sym (b.stops.stands off) ∙ none) (cases_eq v.stopped 0) in
        none_rose (g.write_faults u.device) (g.write_faults v.device) (g.write_faults w.device)
        (not_rose (g.write_faults u.device) (g.write_faults v.device) (a.stops.none still)) (not_rose (g.write_faults v.device) (g.write_faults w.device) (b.stops.none none)) rose;
    some = λ none later. ⊎_elim
        (λ still.
        let k = b.stops.some still later in
        let r = k.0 in
        let s = k.1.0 in
        let reads = a.reads in
        let writes = a.writes in
        (omega (arith, r, writes), (omega (arith, s, reads, writes), k.1.1)))
        (λ off.
        let same = b.stops.stands off in
        let k = a.stops.some none off in
        let r = k.0 in
        let s = k.1.0 in
        let t = k.1.1 in
        let reads = b.reads in
        let writes = b.writes in
        (omega (arith, r, writes), (omega (arith, s, same), omega (arith, t, same, reads, writes))))
        (cases_eq v.stopped 0);
  }

  moment_then : ((w.moment ≡ v.moment) × (w.committed ≡ v.committed)) ⊎ (Earlier (g.clock v.device) w.moment × (g.clock v.device ≤ w.moment))
      → ((v.moment ≡ u.moment) × (v.committed ≡ u.committed)) ⊎ (Earlier (g.clock u.device) v.moment × (g.clock u.device ≤ v.moment))
      → ((w.moment ≡ u.moment) × (w.committed ≡ u.committed)) ⊎ (Earlier (g.clock u.device) w.moment × (g.clock u.device ≤ w.moment))
  moment_then (inl same) (inl first) = inl (same.0 ∙ first.0, same.1 ∙ first.1)
  moment_then (inl same) (inr first) = inr (subst (λ n. Earlier (g.clock u.device) n × (g.clock u.device ≤ n)) (sym same.0) first)
  moment_then (inr second) any =
      let clock = a.clock in
      let from = second.1 in
      inr (λ low. ⊎_elim (λ below. let high = second.0 below in omega (arith, clock, high)) (λ end. omega (arith, low, end, from)) (cases_lt (g.clock v.device) top), omega (arith, clock, from))

  told_first : CoreIsObservable g w → CoreIsObservable g v
  told_first told = record {
    tells = told.tells;
    numbers = let one = b.numbers in let all = told.numbers in omega (arith, one, all);
    calls = subst (λ k. k < 2 ^ 63) b.count told.calls;
    moments = let one = b.clock in let all = told.moments in omega (arith, one, all);
  }

  runs_then : g.tells → (page_of_stamp : ℕ → Option PageOfStamp) (tree : Tree) → CoreRepresentsTree g u page_of_stamp tree → PreservesTree g w page_of_stamp tree
  runs_then tells page_of_stamp tree at =
      let k = a.runs tells page_of_stamp tree at in
      let l = b.runs tells k.pages tree k.runs in
      record { pages = l.pages; extends = λ stamp page has. l.extends stamp page (k.extends stamp page has); runs = l.runs }

  -- a tree of the volume between them is one of that before
  one_of : (page_of_stamp : ℕ → Option PageOfStamp) (t : Trees) (k : PreservesTrees g u v page_of_stamp t) (z : Prefix) → Has (prefixes v.count k.trees) z → Has (prefixes u.count t) z
  one_of page_of_stamp t k z (inl e) = subst (λ (x : Prefix). Has (prefixes u.count t) x) e k.committed
  one_of page_of_stamp t k z (inr (inl e)) = subst (λ (x : Prefix). Has (prefixes u.count t) x) e k.frozen
  one_of page_of_stamp t k z (inr (inr (inl e))) = inr (inr (inl ((λ i. (sym a.count i, sym k.running i)) ∙ e)))
  one_of page_of_stamp t k z (inr (inr (inr none))) = absurd none

  trees_then : CoreIsObservable g w → (page_of_stamp : ℕ → Option PageOfStamp) (t : Trees) → CoreRepresents g u page_of_stamp t → PreservesTrees g u w page_of_stamp t
  trees_then told page_of_stamp t at =
      let k = a.trees (told_first told) page_of_stamp t at in
      let l = b.trees told k.pages k.trees k.stands in
      record {
        pages = l.pages;
        trees = l.trees;
        stands = l.stands;
        extends = λ stamp page has. l.extends stamp page (k.extends stamp page has);
        running = l.running ∙ k.running;
        committed = one_of page_of_stamp t k l.trees.committed l.committed;
        frozen = one_of page_of_stamp t k l.trees.frozen l.frozen;
        later = let one = k.later in let two = l.later in omega (arith, one, two);
      }

  -- what the first one leaves opens as none earlier than what the second one committed, from its moment on
  after_first : (y z : ℕ) (k : ℕ) → y ≡ w.committed → g.clock w.device < 2 ^ 63 → k ≤ g.clock v.device → (v.moment ≤ k → v.committed ≤ z)
      → ((w.moment ≡ v.moment) × (w.committed ≡ v.committed)) ⊎ (Earlier (g.clock v.device) w.moment × (g.clock v.device ≤ w.moment)) → w.moment ≤ k → y ≤ z
  after_first y z k is few to after (inl same) high =
      let moment = same.0 in
      let committed = same.1 in
      let low = after (omega (arith, moment, high)) in
      omega (arith, is, committed, low)
  after_first y z k is few to after (inr later) high =
      let clock = b.clock in
      let far = later.0 (omega (arith, few, clock)) in
      absurd (let no : ⊥ = omega (arith, far, high, to) in no)

  left_then : CoreIsObservable g w → (page_of_stamp : ℕ → Option PageOfStamp) (t : Trees) (y : Prefix) → y.0 ≡ w.committed → CoreRepresents g u page_of_stamp t
      → CrashStatesHave g (OpensFrom (g.shape u.device) u.count w.moment t y) u.device w.device
  left_then told page_of_stamp t y is at =
      let few = told.moments in
      let k = a.trees (told_first told) page_of_stamp t at in
      let first = a.left (told_first told) page_of_stamp t (v.committed, t.running) refl at in
      let second = b.left told k.pages k.trees y is k.stands in
      let from = a.clock in
      let to = b.clock in
      record {
        later = omega (arith, from, to);
        each = λ i c left. ⊎_elim
            (λ before. ⊎_elim inl
            (λ x.
            let one = x.0 in
            let two = x.1 in
            inr (one, omega (arith, two, to), (x.2.0, x.2.1, x.2.2, λ high. after_first y.0 x.2.0.0 i is few two x.2.3 b.moment high)))
            (first.each i c before))
            (λ x.
            let one = x.0 in
            let two = x.1 in
            inr (omega (arith, one, from), two, (x.2.0, one_of page_of_stamp t k x.2.0 x.2.1, subst (λ (h : Shape). StoredOpensAs h (g.stored_of c) x.2.0) a.same_shape x.2.2, x.2.3)))
            (second.each i c left);
      }

  pub goes_then : PreservesVolume g (m + n) u w
  goes_then = record {
    same_shape = b.same_shape ∙ a.same_shape;
    count = b.count ∙ a.count;
    nodes = record { generation = λ k. b.nodes.generation k ∙ a.nodes.generation k; body = λ k. b.nodes.body k ∙ a.nodes.body k };
    numbers = let one = a.numbers in let two = b.numbers in omega (arith, one, two);
    paid = paid_then (g.clock u.device) u.journal.number (g.clock v.device) v.journal.number (g.clock w.device) w.journal.number b.clock a.paid b.paid;
    reads = let one = a.reads in let two = b.reads in omega (arith, one, two);
    writes = let one = a.writes in let two = b.writes in omega (arith, one, two);
    moment = moment_then b.moment a.moment;
    onward = onward_then u v w a.count a.onward b.onward;
    clock = let one = a.clock in let two = b.clock in omega (arith, one, two);
    stops = stops_then;
    stamps = record {
      never_falls = let one = a.stamps.never_falls in let two = b.stamps.never_falls in omega (arith, one, two);
      at_most = let one = a.stamps.at_most in let two = b.stamps.at_most in omega (arith, one, two);
      paid = λ low less.
          let clock = b.clock in
          let writes = b.writes in
          let one = a.stamps.paid (omega (arith, low, clock)) (omega (arith, less, writes)) in
          let two = b.stamps.paid low less in
          omega (arith, one, two);
    };
    posted = let one = a.posted in let two = b.posted in omega (arith, one, two);
    runs = runs_then;
    trees = trees_then;
    left = left_then;
  }

-- a failure of the second of two calls has its cause
pub cause_then : {D : Type 0} (g : Ghosts D) (second failed : Type 0) (u v w : Core D) (m : ℕ) → PreservesVolume g m u v → FailureIsCounted g second v w → (failed → second) → FailureIsCounted g failed u w
cause_then g second failed u v w m a b of f =
    let reads = a.reads in
    let writes = a.writes in
    ⊎_elim (λ rose. inl (omega (arith, rose, reads))) (λ rose. inr (omega (arith, rose, writes))) (b (of f))

-- a failure of the first of two calls has its cause
pub cause_first : {D : Type 0} (g : Ghosts D) (first failed : Type 0) (u v w : Core D) (n : ℕ) → FailureIsCounted g first u v → PreservesVolume g n v w → (failed → first) → FailureIsCounted g failed u w
cause_first g first failed u v w n a b of f =
    let reads = b.reads in
    let writes = b.writes in
    ⊎_elim (λ rose. inl (omega (arith, rose, reads))) (λ rose. inr (omega (arith, rose, writes))) (a (of f))

-- more numbers may be taken
pub goes_more : {D : Type 0} (g : Ghosts D) (m n : ℕ) (u v : Core D) → m ≤ n → PreservesVolume g m u v → PreservesVolume g n u v
goes_more g m n u v low a = record {
  same_shape = a.same_shape;
  count = a.count;
  nodes = a.nodes;
  numbers = a.numbers;
  paid = a.paid;
  reads = a.reads;
  writes = a.writes;
  clock = a.clock;
  moment = a.moment;
  onward = a.onward;
  stops = a.stops;
  stamps = record { never_falls = a.stamps.never_falls; at_most = let most = a.stamps.at_most in omega (arith, most, low); paid = a.stamps.paid };
  posted = a.posted;
  runs = a.runs;
  trees = a.trees;
  left = a.left;
}

-- no call
pub goes_none : {D : Type 0} (g : Ghosts D) (v : Core D) → IsCore g v → PreservesVolume g 0 v v
goes_none g v core = record {
  same_shape = refl;
  count = refl;
  nodes = record { generation = λ n. refl; body = λ n. refl };
  numbers = omega arith;
  paid = λ low. omega arith;
  reads = omega arith;
  writes = omega arith;
  clock = omega arith;
  moment = inl (refl, refl);
  onward = onward_none v;
  stops = record {
    stands = λ off. refl;
    none = λ none rose. let low = (core.writes none).counts in omega (arith, low, rose);
    some = λ none later. absurd (later none);
  };
  stamps = record { never_falls = omega arith; at_most = omega arith; paid = λ low less. omega arith };
  posted = omega arith;
  runs = λ tells page_of_stamp tree at. with_none g v page_of_stamp tree at;
  trees = λ told page_of_stamp t at. record {
    pages = page_of_stamp;
    trees = t;
    stands = at;
    extends = λ stamp page is. is;
    running = refl;
    committed = inl refl;
    frozen = inr (inl refl);
    later = omega arith;
  };
  left = λ told page_of_stamp t y is at. record { later = omega arith; each = λ m c left. inl left };
}

-- where the volume became read-only, a write failed
pub cause_stopped : {D : Type 0} (g : Ghosts D) (failed : Type 0) (u v : Core D) (m : ℕ) → PreservesVolume g m u v → u.stopped ≡ 0 → (v.stopped ≡ 0 → ⊥) → FailureIsCounted g failed u v
cause_stopped g failed u v m a ran off of = inr (a.stops.some ran off).0

-- the number rises on
pub paid_on : {D : Type 0} (g : Ghosts D) (clock number : ℕ) (u v : Core D) (m : ℕ) → PreservesVolume g m u v → PaidSince g clock number u → PaidSince g clock number v
paid_on g clock number u v m a was = paid_then clock number (g.clock u.device) u.journal.number (g.clock v.device) v.journal.number a.clock was a.paid

-- the number has a spelling, as long as the clock leaves room
pub number_lasts : {D : Type 0} (g : Ghosts D) (clock : ℕ) (origin v : Core D) → PaidSince g clock origin.journal.number v → g.clock v.device < top → begun_of origin + g.clock v.device + 1 < 2 ^ 63 + clock
    → begun_of v < 2 ^ 63
number_lasts g clock origin v paid low room =
    has_number origin.journal (length origin.meta.frozen.addresses) clock v.journal (length v.meta.frozen.addresses) (g.clock v.device) paid low room
