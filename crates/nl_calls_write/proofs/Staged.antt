-- Pages that were staged for a call are pages of it, as it leaves them.
use Rattle.std.proofs.Common.{◌≡◌, ◌≢◌, ◌⊎◌, inl, inr, ℕ, zero, suc, ◌+◌, ◌-◌, ◌*◌, ◌<◌, ◌≤◌, Bool, true, false, cond, List, [], ◌∷◌, ◌++◌, length, map, take, drop, replicate, Option, Some, None, IsSome, IsTrue, refl, sym, ap, subst, ◌∙◌, arith}
use Rattle.std.proofs.lemmas.Bool.{and_from, and_parts, cases_eq, leb-true, lt-ltb}
use Rattle.std.proofs.lemmas.List.{append-nil, append_assoc, drop-replicate, drop_all, length-drop, length-replicate, length-take-le, take-replicate}
use Rattle.std.specs.Int.{div_ceil}
use Rattle.std.specs.Prelude.{slice_get}
use Rattle.nl_field.specs.FileContent.{is_content, overlaid, page_bytes}
use Rattle.nl_field.specs.Members.{Has}
use Rattle.nl_field.specs.declared.pointer.Pointer.{Pointer}
use Rattle.nl_field.specs.declared.pointer.Tag.{Tag}
use Rattle.nl_tree_content.proofs.ContentProofs.{byte_laws}
use Rattle.nl_tree.specs.CountLaws.{Differ}
use Rattle.nl_tree.specs.Event.{is_whole, page_given}
use Rattle.nl_tree.specs.Represents.{node_reached}
use Rattle.nl_tree.specs.Tree.{Node, Tree, content_of}
use Rattle.nl_tree.specs.declared.call.Call.{Call}
use Rattle.nl_tree.specs.declared.call.Call.TheVariants.{Fill, Write}
use Rattle.nl_core_callbacks.specs.Handled.{nameless_line}
use Rattle.nl_flight.specs.Flight.{InFlight, IsFlight, begun, carried, of_worker}
use Rattle.nl_flight.specs.declared.page.FlightPage.{FlightPage}
use Rattle.nl_iface.specs.Names.{place_of}
use Rattle.nl_iface.specs.Names as names
use Rattle.nl_iface.specs.declared.counts.Counts.{Ghosts}
use Rattle.nl_meta.specs.Consistent.{PageOfStamp}
use Rattle.nl_meta.proofs.Lists.{none_some, some_in}
use Rattle.nl_core.specs.Core.{IsCore, names_of, running_of}
use Rattle.nl_core.specs.Dropping.{DropsLine}
use Rattle.nl_core.specs.Goes.{PreservesVolume}
use Rattle.nl_core.specs.Laws.{FlightLeads}
use Rattle.nl_core.specs.Programming.{HasLineOrNone}
use Rattle.nl_core.specs.Trees.{CoreRepresentsTree}
use Rattle.nl_core.specs.declared.state.Core.{Core}
use Rattle.nl_core.proofs.Lines.{carried_own, in_flight}
use Rattle.nl_core.proofs.Onward.{goes_none}
use Rattle.nl_calls_files.specs.FileTrees.{held_content}
use Rattle.nl_calls_files.specs.LinePages.{indexes_of}
use Rattle.nl_calls_bytes.specs.InFlight.{AreOfCall, AreWritten}
use Rattle.nl_calls_bytes.specs.Ranges.{IsWriting, data_of, from_of, is_written, len_of, path_of}
use Rattle.nl_calls_bytes.specs.Staged.{AllOfFile}
use Rattle.nl_calls_steps.specs.Lines.{worker_pages}
use Rattle.nl_calls_steps.specs.Calls.{RepresentsSomeTree}
use Rattle.nl_calls_steps.specs.Finding.{IsSomeFile, nodes_of}
use Rattle.nl_calls_steps.proofs.FilePages.{at-path}
use Rattle.nl_calls_steps.proofs.WorkerLines.{others_dropped, own_dropped}
use Rattle.nl_calls_steps.proofs.Going.{others_none}
use Rattle.nl_calls_write.specs.Calls.{AreStaged}
use Rattle.nl_calls_write.specs.Lines.{KeepsLine}
use Rattle.nl_calls_write.specs.Making.{content_at}

-- ---- what a call gives a whole page

some_test : {X : Type 0} (b : Bool) (x : X) → IsSome (cond {A = Option X} b (Some x) None) → b ≡ true
some_test true x h = refl
some_test false x h = cc h

pub given_whole : (call : Call) → IsWriting call → (i : ℕ) → IsSome (page_given call i) → is_whole (from_of call) (len_of call) i ≡ true
unfolding page_given
given_whole (Write path from bytes) w i h = some_test (is_whole from (length bytes) i) _ h
given_whole (Fill path from len byte) w i h = some_test (is_whole from len i) _ h
given_whole _ w i h = absurd w

pub whole_written : (call : Call) (i : ℕ) → 0 < len_of call → is_whole (from_of call) (len_of call) i ≡ true → is_written call i ≡ true
whole_written call i some h =
    let p = and_parts _ _ h in
    let low = leb-true (from_of call) (4096 * i) p.0 in
    let high = leb-true (4096 * i + 4096) (from_of call + len_of call) p.1 in
    and_from _ _ (and_from _ _ (lt-ltb 0 (len_of call) some) (lt-ltb (4096 * i) (from_of call + len_of call) (omega (arith, high)))) (lt-ltb (from_of call) (4096 * i + 4096) (omega (arith, low)))

take_none : (xs : List ℕ) → take 0 xs ≡ []
take_none [] = refl
take_none (x ∷ xs) = refl

-- laid over a whole page nothing of it is left
module _ (page bytes : List ℕ) (i from : ℕ) (long : length page ≡ 4096) (low : from ≤ 4096 * i) (high : 4096 * i + 4096 ≤ from + length bytes) where
  abbrev piece : ℕ → List ℕ
  piece b = take (4096 - b) (drop (4096 * i - from) bytes)

  piece_long : length (piece 0) ≡ 4096
  piece_long = length-take-le 4096 (drop (4096 * i - from) bytes) (let d = length-drop (4096 * i - from) bytes in omega (arith, d, low, high))

  pub overlaid_whole : overlaid page i from bytes ≡ take 4096 (drop (4096 * i - from) bytes)
  unfolding overlaid
  overlaid_whole =
      append_assoc (take (from - 4096 * i) page) (piece (from - 4096 * i)) (drop (from - 4096 * i + length (piece (from - 4096 * i))) page)
      ∙ ap (λ (b : ℕ). take b page ++ (piece b ++ drop (b + length (piece b)) page)) (let e : from - 4096 * i ≡ 0 = omega (arith, low) in e)
      ∙ ap (λ (xs : List ℕ). xs ++ (piece 0 ++ drop (0 + length (piece 0)) page)) (take_none page)
      ∙ ap (λ (xs : List ℕ). piece 0 ++ xs) (drop_all (0 + length (piece 0)) page (let l = piece_long in omega (arith, l, long))) ∙ append-nil (piece 0)

filled : (n d len byte : ℕ) → n ≤ len - d → take n (drop d (replicate len byte)) ≡ replicate n byte
filled n d len byte few = ap (λ (xs : List ℕ). take n xs) (drop-replicate d len byte) ∙ take-replicate n (len - d) byte few

whole_parts : (from len i : ℕ) → is_whole from len i ≡ true → (from ≤ 4096 * i) × (4096 * i + 4096 ≤ from + len)
whole_parts from len i h = let p = and_parts _ _ h in (leb-true from (4096 * i) p.0, leb-true (4096 * i + 4096) (from + len) p.1)

some_is : {X : Type 0} (b : Bool) (x y : X) → b ≡ true → cond {A = Option X} b (Some x) None ≡ Some y → x ≡ y
some_is true x y t e = some_in x y e
some_is false x y t e = absurd (none_some y e)

pub given_is : (call : Call) → IsWriting call → (i : ℕ) (b page : List ℕ) → length page ≡ 4096 → is_whole (from_of call) (len_of call) i ≡ true → page_given call i ≡ Some b → b ≡ overlaid page i (from_of call) (data_of call)
unfolding page_given
given_is (Write path from bytes) w i b page long whole e =
    let p = whole_parts from (length bytes) i whole in
    sym (some_is (is_whole from (length bytes) i) _ b whole e) ∙ sym (overlaid_whole page bytes i from long p.0 p.1)
given_is (Fill path from len byte) w i b page long whole e =
    let p = whole_parts from len i whole in
    let count = length-replicate len byte in
    sym (some_is (is_whole from len i) _ b whole e) ∙ sym (filled 4096 (4096 * i - from) len byte (omega (arith, p.0, p.1)))
    ∙ sym (overlaid_whole page (replicate len byte) i from long p.0 (omega (arith, p.1, count)))
given_is _ w i b page long whole e = absurd w

-- ---- pages in flight

has_left : {X : Type 0} (xs ys : List X) (x : X) → names.Has xs x → names.Has (xs ++ ys) x
has_left [] ys x has = absurd has
has_left (y ∷ xs) ys x (inl e) = inl e
has_left (y ∷ xs) ys x (inr has) = inr (has_left xs ys x has)

has_right : {X : Type 0} (xs ys : List X) (x : X) → names.Has ys x → names.Has (xs ++ ys) x
has_right [] ys x has = has
has_right (y ∷ xs) ys x has = inr (has_right xs ys x has)

held_at : (ps : List FlightPage) (k : ℕ) (p : FlightPage) → slice_get ps k ≡ Some p → names.Has {X = Tag × Pointer} (map (λ (x : FlightPage). (x.tag, x.at)) ps) (p.tag, p.at)
held_at [] k p at = absurd (none_some p at)
held_at (x ∷ ps) zero p at = inl (ap (λ (z : FlightPage). (z.tag, z.at)) (some_in x p at))
held_at (x ∷ ps) (suc k) p at = inr (held_at ps k p at)

pub carried_at : (flight : List InFlight) (worker k : ℕ) (p : FlightPage) → IsFlight flight → worker < 8 → slice_get (of_worker flight worker).pages k ≡ Some p → names.Has {X = Tag × Pointer} (carried flight) (p.tag, p.at)
carried_at flight worker k p is known at =
    subst (λ (xs : List (Tag × Pointer)). names.Has {X = Tag × Pointer} xs (p.tag, p.at)) (sym (carried_own flight worker (in_flight flight worker is known)))
    (has_right _ _ (p.tag, p.at) (has_left _ _ (p.tag, p.at) (held_at (of_worker flight worker).pages k p at)))

-- indexes that rise one by one differ
at_least : (ps : List FlightPage) (a : ℕ) → ((k : ℕ) (p : FlightPage) → slice_get ps k ≡ Some p → p.index ≡ a + k) → (i : ℕ) → Has (indexes_of ps) i → a ≤ i
at_least [] a rise i has = absurd has
at_least (x ∷ ps) a rise i (inl e) = let here = rise 0 x refl in omega (arith, here, e)
at_least (x ∷ ps) a rise i (inr has) = let low = at_least ps (a + 1) (λ k p at. let r = rise (suc k) p at in omega (arith, r)) i has in omega (arith, low)

rising_differ : (ps : List FlightPage) (a : ℕ) → ((k : ℕ) (p : FlightPage) → slice_get ps k ≡ Some p → p.index ≡ a + k) → Differ (indexes_of ps)
rising_differ [] a rise = tt
rising_differ (x ∷ ps) a rise = ((λ has. below has), rising_differ ps (a + 1) (λ k p at. let r = rise (suc k) p at in omega (arith, r)))
  where
    below : Has (indexes_of ps) x.index → ⊥
    below has =
        let low = at_least ps (a + 1) (λ k p at. let r = rise (suc k) p at in omega (arith, r)) x.index has in
        let here = rise 0 x refl in
        omega (arith, low, here)

module _ {D : Type 0} (g : Ghosts D) (v : Core D) (worker : ℕ) (call : Call) (w : IsWriting call) (core : IsCore g v) (known : worker < 8) (staged : AreStaged g v call (worker_pages v worker)) where
  module _ (n generation : ℕ) (some : 0 < len_of call) (all : AllOfFile n generation (worker_pages v worker)) where
    pub staged_are : AreOfCall n generation call (worker_pages v worker)
    staged_are = record {
      tag = λ k p at. let a = all k p at in let s = staged k p at in λ i. record { ino = a.ino i; generation = a.generation_is i; index = s.tagged i };
      written = λ k p at. whole_written call p.index some (given_whole call w p.index (staged k p at).whole);
      stamp = λ k p at. (all k p at).stamp;
      differ = rising_differ (worker_pages v worker) (div_ceil (from_of call) 4096) (λ k p at. (staged k p at).index);
    }

  module _ (lead : FlightLeads g v) (page_of_stamp : ℕ → Option PageOfStamp) (tree : Tree) (tells : g.tells) (at : CoreRepresentsTree g v page_of_stamp tree) (right : IsTrue (is_content (content_at tree call))) where
    pub staged_written : AreWritten page_of_stamp (content_at tree call) call (worker_pages v worker)
    staged_written = λ k p here.
        let l = lead (p.tag, p.at) (carried_at v.flight worker k p core.flight known here) in
        let s = staged k p here in
        at.shows (place_of (names_of g v) p.at) (record { tag = p.tag; stamp = p.at.stamp }) l.live
        ∙ ap (λ (bytes : List ℕ). Some (record { tag = p.tag; bytes = bytes }))
        (given_is call w p.index (g.bytes v.device (place_of (names_of g v) p.at)) (page_bytes (content_at tree call) p.index) (byte_laws.whole_page (content_at tree call) p.index right) (given_whole call w p.index s.whole) (s.given tells))

-- what the tree has at the path of the call is a content, where it leads to a file
pub content_right : {D : Type 0} (g : Ghosts D) (v : Core D) (page_of_stamp : ℕ → Option PageOfStamp) (tree : Tree) (n : ℕ) (call : Call) → IsSomeFile g v n → CoreRepresentsTree g v page_of_stamp tree
    → node_reached (nodes_of g v) 0 (path_of call) ≡ Some n → IsTrue (is_content (content_at tree call))
content_right g v page_of_stamp tree n call f at leads =
    let there = at-path g v page_of_stamp tree n f.0 f.1 at (path_of call) leads in
    subst (λ (o : Option Node). IsTrue (is_content (content_of o))) (sym there) (at.runs.represents.is_tree.contents (path_of call) (held_content page_of_stamp (running_of g v) f.0) there)

-- ---- they are kept or dropped

module _ {D : Type 0} (g : Ghosts D) (v : Core D) (n generation worker line : ℕ) (call : Call) (writing : IsWriting call) (core : IsCore g v) (known : worker < 8) (runs : RepresentsSomeTree g v) (has : HasLineOrNone v.flight worker line)
    (few : (w : ℕ) → length (of_worker v.flight w).pages ≤ 16) where
  pub line_kept : AreStaged g v call (worker_pages v worker) → FlightLeads g v → 0 < len_of call → AllOfFile n generation (worker_pages v worker) → IsSomeFile g v n → node_reached (nodes_of g v) 0 (path_of call) ≡ Some n
      → KeepsLine g n generation worker line call v v
  line_kept staged lead some all f leads = record {
    goes = goes_none g v core;
    stopped = refl;
    pages = staged_are g v worker call writing core known staged n generation some all;
    written = λ tells.
        let r = runs tells in (
          r.0,
          r.1,
          record {
            pages = r.0;
            extends = λ stamp page is. is;
            runs = r.2;
            written = staged_written g v worker call writing core known staged lead r.0 r.1 tells r.2 (content_right g v r.0 r.1 n call f r.2 leads);
          },
        );
    has_line = has;
    few = few;
    others = others_none worker v.flight;
  }

  pub line_dropped : (w : Core D) → PreservesVolume g 0 v w → DropsLine g worker v w → KeepsLine g n generation worker line call v w
  line_dropped w a d = record {
    goes = a;
    stopped = ap (λ (x : Core D). x.stopped) d.others;
    pages = subst (λ (ps : List FlightPage). AreOfCall n generation call ps) (sym none) (record { tag = λ k p at. absurd (none_some p at); written = λ k p at. absurd (none_some p at); stamp = λ k p at. absurd (none_some p at); differ = tt });
    written = λ tells.
        let r = runs tells in
        let k = a.runs tells r.0 r.1 r.2 in (
          r.0,
          r.1,
          record {
            pages = k.pages;
            extends = k.extends;
            runs = k.runs;
            written = subst (λ (ps : List FlightPage). AreWritten k.pages (content_at r.1 call) call ps) (sym none) (λ j p at. absurd (none_some p at));
          },
        );
    has_line = inl (ap (λ (x : InFlight). x.line) own);
    few = λ w'. by w' (cases_eq w' worker);
    others = λ w' far. ap nameless_line (ap (λ (f : List InFlight). of_worker f w') d.flight ∙ others_dropped v.flight worker core.flight known w' far);
  }
    where
      own : of_worker w.flight worker ≡ begun 0
      own = ap (λ (f : List InFlight). of_worker f worker) d.flight ∙ own_dropped v.flight worker core.flight known

      none : worker_pages w worker ≡ []
      none = ap (λ (x : InFlight). x.pages) own

      by : (w' : ℕ) → (w' ≡ worker) ⊎ (w' ≢ worker) → length (of_worker w.flight w').pages ≤ 16
      by w' (inl e) = let size = ap (λ (k : ℕ). length (of_worker w.flight k).pages) e ∙ ap length none in omega (arith, size)
      by w' (inr far) =
          let size = ap (λ (x : InFlight). length x.pages) (ap (λ (f : List InFlight). of_worker f w') d.flight ∙ others_dropped v.flight worker core.flight known w' far) in
          let most = few w' in
          omega (arith, size, most)
