-- All pages of a call become pages of its file.
use Rattle.std.proofs.Common.{◌≡◌, ◌⊎◌, ◌^◌, inl, inr, ℕ, zero, suc, ◌+◌, ◌-◌, ◌*◌, ◌<◌, ◌≤◌, ◌==◌, max, nat_le, Bool, true, false, ◌&&◌, List, [], ◌∷◌, ◌++◌, drop, get_or, length, map, option_map, unwrap_or, Option, Some, None, IsTrue, refl, sym, ap, subst, ◌∙◌, arith, mul-le-mul_right}
use Rattle.std.proofs.lemmas.Bool.{and_from, cases_lt, leb-true, lt-ltb, ltb-false}
use Rattle.std.proofs.lemmas.List.{get_or_past, length-append, length-map}
use Rattle.std.proofs.lemmas.List.FromFn.{length-range_with_len}
use Rattle.std.specs.Prelude.{slice_get, slice_index}
use Rattle.nl_field.specs.Bytes.{all_zero}
use Rattle.nl_tree_content.specs.ContentLaws.{is_touched}
use Rattle.nl_field.specs.FileContent.{FileContent, is_content, overlaid, page_bytes, written_over}
use Rattle.nl_field.specs.Members.{Has}
use Rattle.nl_field.specs.Numbers.{max_bytes, max_file_size}
use Rattle.nl_field.specs.Pointers.{is_none_pointer}
use Rattle.nl_field.specs.declared.inode.InodeRec.{InodeRec}
use Rattle.nl_field.specs.declared.pointer.Pointer.{Pointer}
use Rattle.nl_field.specs.declared.pointer.Tag.{Tag}
use Rattle.nl_field.specs.declared.shape.Shape.{Shape}
use Rattle.nl_tree_content.proofs.ContentBytes.{length-overlaid, overlaid-behind, zero_from}
use Rattle.nl_tree_content.proofs.ContentProofs.{byte_laws}
use Rattle.nl_tree.specs.Represents.{node_reached}
use Rattle.nl_tree.specs.Step.{effect_of, first_of, is_too_long, step, when}
use Rattle.nl_tree.specs.Tree.{Tree, with_content}
use Rattle.nl_tree.specs.declared.call.Call.{Call}
use Rattle.nl_tree.specs.declared.reply.Refusal.{Refusal}
use Rattle.nl_tree.specs.declared.reply.Reply.TheVariants.{Count}
use Rattle.nl_core_callbacks.specs.Handled.{nameless_line}
use Rattle.nl_flight.specs.Flight.{InFlight, begun, carried, of_worker, with_line}
use Rattle.nl_flight.specs.declared.page.FlightPage.{FlightPage}
use Rattle.nl_iface.specs.Device.{IsVolumeShape}
use Rattle.nl_iface.specs.Names.{Names}
use Rattle.nl_iface.specs.declared.counts.Counts.{Ghosts}
use Rattle.nl_indirect.specs.Ranges.{range_of}
use Rattle.nl_indirect.proofs.Records.{file-parts}
use Rattle.nl_meta.specs.Consistent.{PageOfStamp}
use Rattle.nl_meta.specs.Nodes.{pointer_at, slots_of}
use Rattle.nl_meta.specs.Pages.{besides_0, most}
use Rattle.nl_meta.proofs.Lists.{map-member, member-map, member-range, range-member}
use Rattle.nl_meta_running.proofs.Holds.{bounds-of}
use Rattle.nl_spec_image.specs.Stands.{bytes_for}
use Rattle.nl_journal_commit.specs.Holding.{running_holders}
use Rattle.nl_spec_commits.specs.Trees.{RepresentsTree}
use Rattle.nl_core.specs.Core.{IsCore, running_of}
use Rattle.nl_core.specs.Laws.{FlightLeads}
use Rattle.nl_core.specs.Trees.{CoreRepresentsTree}
use Rattle.nl_core.specs.declared.state.Core.{Core}
use Rattle.nl_core.proofs.Lines.{carried_own, carried_with, in_flight}
use Rattle.nl_core.proofs.Onward.{goes_none}
use Rattle.nl_calls_files.specs.LineNeeds.{free_addresses, gets_page, new_pointers, new_ranges, with_pages}
use Rattle.nl_calls_files.specs.LinePages.{AreThere, indexes_of, shown_pages}
use Rattle.nl_calls_files.proofs.Fits.{files_stand}
use Rattle.nl_calls_bytes.specs.InFlight.{AreOfCall, AreWritten, HasAll}
use Rattle.nl_calls_bytes.specs.Contents.{IsWholeWrite, count_indexes, first_index, indexes_written}
use Rattle.nl_calls_bytes.specs.Laws.{LooksRefuseAll}
use Rattle.nl_calls_bytes.specs.Ranges.{IsWriting, data_of, from_of, is_written, len_of, page_after, path_of}
use Rattle.nl_calls_bytes.proofs.Content.{is-written}
use Rattle.nl_calls_bytes.proofs.Flying.{flying_at, flying_has}
use Rattle.nl_calls_bytes.proofs.Members.{differ_range, same_any, same_count, same_length}
use Rattle.nl_calls_bytes.proofs.Places.{flying_written, index_in_range}
use Rattle.nl_calls_bytes.proofs.Stepped.{length-data}
use Rattle.nl_calls_bytes.proofs.Counted.{count_same}
use Rattle.nl_calls_steps.specs.Lines.{HasRoomForLine, InstallsLine, IsLineOfFile, worker_pages}
use Rattle.nl_calls_write.specs.Calls.{EndsWrite}
use Rattle.nl_calls_write.specs.Fitting.{FileIsReady}
use Rattle.nl_calls_write.specs.Lines.{RepresentsWritten}
use Rattle.nl_calls_write.specs.Making.{content_at}
use Rattle.nl_calls_steps.specs.declared.answer.Written.TheVariants as answer
use Rattle.nl_calls_steps.specs.Calls.{HasPagesOfFiles}
use Rattle.nl_calls_steps.specs.Finding.{nodes_of}
use Rattle.nl_calls_steps.proofs.WorkerLines.{others_dropped, own_dropped}
use Rattle.nl_calls_write.proofs.Answered.{done_some, replies, tree_after}
use Rattle.nl_calls_write.proofs.Known.{held_is, written_as}
use Rattle.nl_calls_write.proofs.Staged.{carried_at, content_right}

-- the pages of files are few
pub few_files : (shape : Shape) → IsVolumeShape shape → shape.cap < 2 ^ 32
few_files shape volume =
    let b = bounds-of shape volume in
    let parts = b.segments in
    let all = b.all_pages in
    let sum = b.data_pages in
    let within : shape.pblocks * shape.pages ≤ shape.blocks * shape.pages = mul-le-mul_right shape.pages (omega (arith, parts)) in
    omega (arith, within, all, sum)

range_written : (call : Call) (i : ℕ) → 0 < len_of call → first_index (from_of call) ≤ i → i < first_index (from_of call) + count_indexes (from_of call) (len_of call) → is_written call i ≡ true
range_written call i some low high =
    and_from _ _ (and_from _ _ (lt-ltb 0 (len_of call) some) (lt-ltb (4096 * i) (from_of call + len_of call) (omega (arith, some, low, high)))) (lt-ltb (from_of call) (4096 * i + 4096) (omega (arith, low)))

-- of two reasons none refuses
none_refuses : (a b : Bool) (x y : Refusal) → first_of (when a x ∷ when b y ∷ []) ≡ None → (a ≡ false) × (b ≡ false)
none_refuses true b x y e = absurd (cc e)
none_refuses false true x y e = absurd (cc e)
none_refuses false false x y e = (refl, refl)

has_place : {X : Type 0} (xs : List X) (x : X) → Has xs x → (k : ℕ) × (slice_get xs k ≡ Some x)
has_place [] x has = absurd has
has_place (y ∷ xs) x (inl e) = (zero, ap (λ (z : _). Some z) e)
has_place (y ∷ xs) x (inr has) = let r = has_place xs x has in (suc r.0, r.1)

place_has : {X : Type 0} (xs : List X) (k : ℕ) (x : X) → slice_get xs k ≡ Some x → Has xs x
place_has [] k x at = absurd (cc at)
place_has (y ∷ xs) zero x at = inl (cc at)
place_has (y ∷ xs) (suc k) x at = inr (place_has xs k x at)

module _ {D : Type 0} (g : Ghosts D) (v : Core D) (worker n files : ℕ) (rec : InodeRec) (call : Call) (core : IsCore g v) (known : worker < 8) (lead : FlightLeads g v) (w : IsWriting call)
    (some : 0 < len_of call) (few : len_of call ≤ max_bytes) (within : from_of call + len_of call ≤ 16809984) (short : is_too_long (path_of call) ≡ false) (leads : node_reached (nodes_of g v) 0 (path_of call) ≡ Some n)
    (ready : FileIsReady g v n (from_of call) (len_of call) files rec) (count : HasPagesOfFiles g v files) (are : AreOfCall n rec.generation call (worker_pages v worker)) (all : HasAll call (worker_pages v worker)) where
  abbrev pages : List FlightPage
  pages = worker_pages v worker

  abbrev indexes : List ℕ
  indexes = indexes_written (from_of call) (len_of call)

  to : (i : ℕ) → Has (indexes_of pages) i → Has indexes i
  to i has = let r = index_in_range call i (flying_written n rec.generation call pages are i has) in range-member i (first_index (from_of call)) (count_indexes (from_of call) (len_of call)) r.0 r.1

  back : (i : ℕ) → Has indexes i → Has (indexes_of pages) i
  back i has = let r = member-range i (first_index (from_of call)) (count_indexes (from_of call) (len_of call)) has in flying_has pages i (all i (range_written call i some r.0 r.1))

  pub count_is : length pages ≡ count_indexes (from_of call) (len_of call)
  count_is =
      sym (length-map pages (λ (page : FlightPage). page.index))
      ∙ same_length (indexes_of pages) indexes to back are.differ (differ_range (count_indexes (from_of call) (len_of call)) (first_index (from_of call)))
      ∙ length-range_with_len (first_index (from_of call)) (count_indexes (from_of call) (len_of call))

  pub some_pages : 0 < length pages
  some_pages = let c = count_is in omega (arith, c, some)

  index_at : (k : ℕ) (p : FlightPage) → slice_get pages k ≡ Some p → (first_index (from_of call) ≤ p.index) × (p.index < first_index (from_of call) + count_indexes (from_of call) (len_of call))
  index_at k p at = index_in_range call p.index (are.written k p at)

  pub index_low : (k : ℕ) (p : FlightPage) → slice_get pages k ≡ Some p → p.index < 4104
  index_low k p at = let r = index_at k p at in let high = r.1 in omega (arith, high, within, some)

  -- ---- the line fits

  ranges_same : new_ranges rec (indexes_of pages) ≡ new_ranges rec indexes
  ranges_same = count_same (gets_page rec indexes) (gets_page rec (indexes_of pages)) 0 16
      (λ r low high. ap (λ (b : Bool). (slice_index (slots_of rec) r == 0) && b) (same_any (indexes_of pages) indexes to back (λ i. nat_le 8 i && (range_of i == r))))

  pointers_same : new_pointers (running_of g v) rec (indexes_of pages) ≡ new_pointers (running_of g v) rec indexes
  pointers_same = same_count (indexes_of pages) indexes to back are.differ (differ_range (count_indexes (from_of call) (len_of call)) (first_index (from_of call))) (λ i. is_none_pointer (pointer_at (running_of g v) rec i))

  pub has_room : length (besides_0 v.meta.dirty) + 4 ≤ most → HasRoomForLine g v rec pages
  has_room dirty =
      let r = none_refuses _ _ _ _ ready.room in
      let enough = ltb-false (free_addresses v.nodes) (new_ranges rec indexes) r.0 in
      let left = ltb-false (g.shape v.device).cap (files + new_pointers (running_of g v) rec indexes) r.1 in
      let a = ranges_same in
      let b = pointers_same in
      record { dirty = dirty; pool = omega (arith, enough, a); few = omega (arith, left, b, count) }

  module _ (size : ℕ) (size_is : size ≡ max rec.size (from_of call + len_of call)) where
    pub line_fits : IsLineOfFile g v worker n size rec
    line_fits = record {
      file = ready.file;
      there = ready.there;
      first = first_index (from_of call);
      each = λ k p at.
          let l = lead (p.tag, p.at) (carried_at v.flight worker k p core.flight known at) in
          let r = index_at k p at in
          let low = r.0 in
          let high = r.1 in
          record {
            of_file = record { tag = are.tag k p at; within = index_low k p at; spelled = l.spelled; physical = l.physical };
            below = omega (arith, high, size_is, some);
            from_first = low;
            near = omega (arith, high, few);
            range = ready.ranges p.index low high;
          };
    }

    pub size_low : size ≤ 16809984
    size_low =
        let low = leb-true rec.size max_file_size (file-parts rec (files_stand g v.device v.meta n rec core.journaled.runs ready.file).file).size in
        omega (arith, low, size_is, within)

    -- ---- and makes what the call makes

    module _ (written : RepresentsWritten g worker call v) (tells : g.tells) (page_of_stamp : ℕ → Option PageOfStamp) (tree : Tree) (at : CoreRepresentsTree g v page_of_stamp tree) where
      abbrev content : FileContent
      content = content_at tree call

      right : IsTrue (is_content content)
      right = content_right g v page_of_stamp tree n call (rec, ready.file) at leads

      are_written : AreWritten page_of_stamp content call pages
      are_written = written_as g v core call n rec ready.file leads worker known lead index_low written tells page_of_stamp tree at

      data_count : length (data_of call) ≡ len_of call
      data_count = length-data call w

      sized : size ≡ max content.size (from_of call + length (data_of call))
      sized =
          size_is ∙ ap (λ (k : ℕ). max k (from_of call + len_of call)) (sym (ap (λ (c : FileContent). c.size) (held_is g v core call n rec ready.file leads page_of_stamp tree at)))
          ∙ ap (λ (k : ℕ). max content.size (from_of call + k)) (sym data_count)

      shown : FlightPage → ℕ × List ℕ
      shown p = (p.index, bytes_for page_of_stamp p.at.stamp)

      shown_bytes : (k : ℕ) (p : FlightPage) → slice_get pages k ≡ Some p → bytes_for page_of_stamp p.at.stamp ≡ page_after content call p.index
      shown_bytes k p here = ap (λ (o : Option PageOfStamp). unwrap_or (option_map (λ x. x.bytes) o) []) (are_written k p here)

      whole : IsWholeWrite content (from_of call) (data_of call) (shown_pages page_of_stamp pages)
      whole = record {
        made = λ q has.
            let m = member-map (λ (p : FlightPage). (p.index, bytes_for page_of_stamp p.at.stamp)) pages q has in
            let k = has_place pages m.0 m.1 in
            subst (λ (z : ℕ × List ℕ). z.1 ≡ overlaid (page_bytes content z.0) z.0 (from_of call) (data_of call)) m.2 (shown_bytes k.0 m.0 k.1);
        touched = λ q has.
            let m = member-map (λ (p : FlightPage). (p.index, bytes_for page_of_stamp p.at.stamp)) pages q has in
            let k = has_place pages m.0 m.1 in
            subst (λ (z : ℕ × List ℕ). is_touched (from_of call) (length (data_of call)) z.0 ≡ true) m.2 (ap (λ (c : ℕ). is_touched (from_of call) c m.0.index) data_count ∙ are.written k.0 m.0 k.1);
        all = λ i touched.
            let f = flying_at pages i (all i (sym (ap (λ (c : ℕ). is_touched (from_of call) c i) data_count) ∙ touched)) in (
              (f.1.index, bytes_for page_of_stamp f.1.at.stamp),
              map-member (λ (p : FlightPage). (p.index, bytes_for page_of_stamp p.at.stamp)) pages f.1 (place_has pages f.0 f.1 f.2),
              sym f.3,
            );
      }

      made : with_pages (shown_pages page_of_stamp pages) size content ≡ written_over content (from_of call) (data_of call)
      made = is-written content (from_of call) (data_of call) (shown_pages page_of_stamp pages) right (omega (arith, data_count, some)) whole size sized

      -- nothing stands behind the size
      module _ (i : ℕ) where
        abbrev laid : List ℕ
        laid = page_after content call i

        laid_whole : length laid ≡ 4096
        laid_whole = length-overlaid (page_bytes content i) i (from_of call) (data_of call) (byte_laws.whole_page content i right)

        zero_behind : (r : ℕ) → size - 4096 * i ≤ r → (r < 4096) ⊎ (4096 ≤ r) → get_or laid r 0 ≡ 0
        zero_behind r past (inl low) =
            overlaid-behind (page_bytes content i) i (from_of call) (data_of call) (byte_laws.whole_page content i right) r low (let s = sized in omega (arith, past, s))
            ∙ byte_laws.in_page content i r low ∙ byte_laws.past_size content (4096 * i + r) right (let s = sized in omega (arith, past, s))
        zero_behind r past (inr high) = get_or_past laid r 0 (let l = laid_whole in omega (arith, l, high))

        behind : IsTrue (all_zero (drop (size - 4096 * i) laid))
        behind = zero_from laid (size - 4096 * i) (λ r past. zero_behind r past (cases_lt r 4096))

      are_there : AreThere page_of_stamp size pages
      are_there = λ k p here. record {
        bytes = page_after content call p.index;
        holds = are_written k p here;
        whole = laid_whole p.index;
        behind = subst (λ (i : ℕ). IsTrue (all_zero (drop (size - 4096 * i) (page_after content call p.index)))) (sym (ap (λ (t : Tag). t.index) (are.tag k p here))) (behind p.index);
      }

      module _ (looks : LooksRefuseAll) where
        done : step (g.shape v.device) tree call ≡ effect_of tree call
        done = done_some g v core n rec ready.file call w short leads looks page_of_stamp tree at some within files count ready.room

        pub replied : (step (g.shape v.device) tree call).reply ≡ Count (len_of call)
        replied = replies (g.shape v.device) tree call w done

        pub made_tree : (new : Core D) (is : InodeRec) → InstallsLine g worker n size rec is v new → RepresentsTree (g.shape new.device) (running_of g new) page_of_stamp (step (g.shape v.device) tree call).tree
        made_tree new is installs = subst (λ (t : Tree). RepresentsTree (g.shape new.device) (running_of g new) page_of_stamp t)
            (ap (with_content tree (path_of call)) made ∙ tree_after (g.shape v.device) tree call w done)
            (installs.written page_of_stamp tree (path_of call) at.runs leads are_there)

  -- ---- how many pages files have then

  module _ (size : ℕ) (new : Core D) (is : InodeRec) (installs : InstallsLine g worker n size rec is v new) (after : IsCore g new) where
    flight_is : new.flight ≡ with_line v.flight worker (begun 0)
    flight_is = ap (λ (x : Core D). x.flight) installs.others

    fewer : length (carried new.flight) + length pages ≡ length (carried v.flight)
    fewer =
        let here : worker < length v.flight = in_flight v.flight worker core.flight known in
        let a = ap length (carried_own v.flight worker here) in
        let b = ap length (ap carried flight_is ∙ carried_with v.flight worker here (begun 0)) in
        counted_lists _ (map (λ (page : FlightPage). (page.tag, page.at)) pages) _ (carried v.flight) (carried new.flight) (length pages) a b (length-map pages (λ (page : FlightPage). (page.tag, page.at)))
      where
        counted_lists : (before own behind old now : List (Tag × Pointer)) (k : ℕ) → length old ≡ length (before ++ (own ++ behind)) → length now ≡ length (before ++ ([] ++ behind)) → length own ≡ k → length now + k ≡ length old
        counted_lists before own behind old now k a b c =
            let d = length-append before (own ++ behind) in
            let e = length-append own behind in
            let f = length-append before behind in
            omega (arith, a, b, c, d, e, f)

    pub taken : length (running_holders g new.device new.meta) + length new.freeing.items ≡ files + length v.freeing.items + count_indexes (from_of call) (len_of call)
    taken =
        let one = core.space.counted in
        let two = after.space.counted in
        let live = ap (λ (m : Names). m.space.live) installs.steps.reads.names in
        let lines = fewer in
        let many = count_is in
        omega (arith, one, two, live, lines, many, count)

  -- ---- all of it

  module _ (written : RepresentsWritten g worker call v) (looks : LooksRefuseAll) (size : ℕ) (size_is : size ≡ max rec.size (from_of call + len_of call)) (new : Core D) (is : InodeRec) (installs : InstallsLine g worker n size rec is v new)
      (now : ℕ) (has : HasPagesOfFiles g new now) where
    pub install_ends : EndsWrite g 0 worker call v new (answer.Done now)
    install_ends = record {
      done = (
        record {
          between = v;
          core = core;
          goes = goes_none g v core;
          steps = installs.steps;
          makes = λ tells page_of_stamp tree at. made_tree size size_is written tells page_of_stamp tree at looks new is installs;
          ended = ap (λ (f : List InFlight). of_worker f worker) lines ∙ own_dropped v.flight worker core.flight known;
        },
        has,
      );
      undone = tt;
      answers = λ tells page_of_stamp tree at. replied size size_is written tells page_of_stamp tree at looks;
      others = λ x far. ap nameless_line (ap (λ (f : List InFlight). of_worker f x) lines ∙ others_dropped v.flight worker core.flight known x far);
      early = tt;
    }
      where
        lines : new.flight ≡ with_line v.flight worker (begun 0)
        lines = ap (λ (x : Core D). x.flight) installs.others
