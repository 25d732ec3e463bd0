-- Who holds live pages once a file took a page that was in flight, or was cut.
use Rattle.std.proofs.Common.{◌≡◌, ◌≢◌, ℕ, suc, ◌+◌, ◌/◌, ◌%◌, ◌^◌, ◌<◌, Bool, true, false, List, [], ◌∷◌, ◌++◌, drop, length, Option, Some, None, is_some, refl, sym, ap, subst, ◌∙◌, arith}
use Rattle.std.proofs.lemmas.List.{append-nil, append_assoc, length-append, length-map}
use Rattle.std.proofs.lemmas.Bool.{and_parts, both_ways, eqb-true}
use Rattle.std.specs.Int.{div_ceil}
use Rattle.std.specs.Prelude.{IfSome, IsTrue, ◌==◌, nat_le, nat_lt}
use Rattle.nl_field.specs.Graph.{GraphNode}
use Rattle.nl_field.specs.Pointers.{is_none_pointer, no_pointer}
use Rattle.nl_field.specs.Spelling.{is_stamp}
use Rattle.nl_field.specs.declared.inode.InodeRec.{InodeRec}
use Rattle.nl_field.specs.declared.pointer.Pointer.{Pointer}
use Rattle.nl_field.specs.declared.pointer.Tag.{Tag}
use Rattle.nl_field.specs.declared.shape.Shape.{Shape}
use Rattle.nl_iface.specs.Device.{IsVolumeShape}
use Rattle.nl_iface.specs.Holders.{tagged}
use Rattle.nl_iface.specs.declared.counts.Counts.{Ghosts}
use Rattle.nl_inode.specs.Nodes.{Spaces}
use Rattle.nl_meta.specs.Committed.{VirtualMap}
use Rattle.nl_meta.specs.Consistent.{IsNode}
use Rattle.nl_meta.specs.Nodes.{pointer_at}
use Rattle.nl_meta.specs.Pages.{Pages}
use Rattle.nl_meta.specs.PointerLists.{IsFile, OneChanges, shown, tagged_by, tagged_in}
use Rattle.nl_meta.proofs.PointerListProofs.{one_pointer_changes}
use Rattle.nl_journal.specs.Progress.{Progress}
use Rattle.nl_spec_holders.specs.Lists.{ListLoses}
use Rattle.nl_meta_running.specs.Running.{running_on}
use Rattle.nl_meta_running.proofs.Holds.{reads-none}
use Rattle.nl_files.specs.CutRuns.{CutIsWritten, CutsOn}
use Rattle.nl_files.specs.Spans.{as_list, pointers_from, pointers_of_span}
use Rattle.nl_files.specs.Standing.{tag_of}
use Rattle.nl_files.proofs.CutOn.{cut_runs}
use Rattle.nl_files.proofs.InstalledOn.{installed_runs}
use Rattle.nl_files.proofs.OneFile.{is-used}
use Rattle.nl_journal_commit.specs.Holding.{running_holders}
use Rattle.nl_journal_commit.specs.Standing.{IsJournaled}
use Rattle.nl_spec_commits.specs.Changes.{GainsEach, LosesEach}
use Rattle.nl_spec_commits.specs.FileCuts.{CutsFilePointers, pointers_behind}
use Rattle.nl_spec_commits.specs.Held.{IsHeldVolume}
use Rattle.nl_spec_commits.proofs.FileCutting as cutting
use Rattle.nl_spec_commits.proofs.FileCutting.{parting_keeps_held, truncating_keeps_held}
use Rattle.nl_spec_commits.proofs.FileLists.{all_of, there}
use Rattle.nl_spec_commits.proofs.Replacing.{installing_keeps_held, shown_plain, shown_some}
use Rattle.nl_calls_files.proofs.Fits.{is_file_at}
use Rattle.nl_calls_files.specs.Holders.{CuttingHolds, KeepsVolumeHeld, InstallingHolds, LosesGiven, cut_off}

-- ---- lists

lost_size : (xs old new : List (Tag × Pointer)) → LosesEach xs old new → length old ≡ length new + length xs
lost_size [] old new same = let e = ap length same in omega (arith, e)
lost_size (x ∷ xs) old new l = let one = l.1.size in let more = lost_size xs l.0 new l.2 in omega (arith, one, more)

gained_size : (xs old new : List (Tag × Pointer)) → GainsEach xs old new → length new ≡ length old + length xs
gained_size [] old new same = let e = ap length same in omega (arith, e)
gained_size (x ∷ xs) old new l = let one = l.1.size in let more = gained_size xs l.0 new l.2 in omega (arith, one, more)

-- one pointer in place of another
pub changed_size : (tag : Tag) (p q : Pointer) (old new : List (Tag × Pointer)) → OneChanges tag p q old new → length new + length (shown tag p) ≡ length old + length (shown tag q)
changed_size tag p q old new c =
    let a = ap length c.was ∙ length-append (c.front ++ shown tag p) c.behind in
    let b = length-append c.front (shown tag p) in
    let d = ap length c.is ∙ length-append (c.front ++ shown tag q) c.behind in
    let e = length-append c.front (shown tag q) in
    omega (arith, a, b, d, e)

pub shown_size : (tag : Tag) (p : Pointer) → length (shown tag p) ≡ length (as_list p)
shown_size tag p = sym (length-map (shown tag p) tagged) ∙ ap length (shown_plain tag p)

-- a pointer with a write sequence number is one
pub stamp_some : (p : Pointer) → IsTrue (is_stamp p.stamp) → is_none_pointer p ≡ false
stamp_some p is = by (is_none_pointer p) refl
  where
    by : (b : Bool) → is_none_pointer p ≡ b → b ≡ false
    by false e = refl
    by true e =
        let zero_ = eqb-true p.stamp 0 (and_parts (p.name == 0) (p.stamp == 0) e).1 in
        let low : nat_le 1 0 ≡ true = ap (λ s. nat_le 1 s) (sym zero_) ∙ (and_parts (nat_le 1 p.stamp) (nat_lt p.stamp (2 ^ 63)) is).0 in
        absurd (both_ways false refl low)

-- ---- a page in flight is installed

pub installing_holds : {D : Type 0} (g : Ghosts D) → InstallingHolds g
installing_holds g s p flight later freeing n index size to was is old new written f t leaving volume j h on lost =
    let r = installed_runs g s n index to size was is old new written f t volume j.runs on in
    let put : InodeRec = record is { size = size } in
    let before = pointer_at (running_on g s old) was index in
    let one : OneChanges (tag_of n was index) before to (running_holders g s old) (running_holders g s written) =
    subst (λ (q : Pointer). OneChanges (tag_of n was index) before q (running_holders g s old) (running_holders g s written)) r.installed.now
    (one_pointer_changes (g.shape s) (running_on g s old) (running_on g s written) n index was put r.installed.pointer) in
    let some = stamp_some to on.spelled in
    let size_ = changed_size (tag_of n was index) before to (running_holders g s old) (running_holders g s written) one in
    let was_size = shown_size (tag_of n was index) before in
    let to_size : length (shown (tag_of n was index) to) ≡ 1 = ap length (shown_some (tag_of n was index) to some) in
    let fewer = lost.size in
    let added = length-append freeing (as_list before) in
    record {
      held = installing_keeps_held g s s p old written flight later freeing (tag_of n was index) before to _ volume j h (reads-none g s) r.pages.same_frozen one some lost;
      as_many = omega (arith, size_, was_size, to_size, fewer, added);
    }

-- ---- a file is cut

module _ {D : Type 0} (g : Ghosts D) (s : D) (p : Progress) (flight later : List (Tag × Pointer)) (freeing : List Pointer) (n size : ℕ) (partial : Option Pointer) (was is : InodeRec) (old new written : Pages) (f t : Spaces)
    (volume : IsVolumeShape (g.shape s)) (j : IsJournaled g s p old) {leaving : ℕ} (h : IsHeldVolume g s p old flight freeing leaving) (on : CutsOn g s n size partial was is old new written f t) where
  abbrev shape : Shape
  shape = g.shape s

  abbrev before : VirtualMap
  before = running_on g s old

  abbrev after : VirtualMap
  after = running_on g s written

  cut : CutIsWritten shape n size partial was is before after f t
  cut = (cut_runs g s n size partial was is old new written f t volume j.runs on).cut

  frozen : written.frozen ≡ old.frozen
  frozen = (cut_runs g s n size partial was is old new written f t volume j.runs on).pages.same_frozen

  file_before : IsFile shape before n was
  file_before = is_file_at shape before n was j.runs.addresses cut.changes.node_before cut.changes.file_before

  node_after : IsNode shape after n is
  node_after = record { below = cut.changes.node_before.below; spelled = cut.changes.node_after; used = is-used is.kind cut.changes.file_after }

  file_after : IsFile shape after n is
  file_after = is_file_at shape after n is cut.right.addresses node_after cut.changes.file_after

  cuts_at : (index : ℕ) → ((i : ℕ) → i < index → pointer_at after is i ≡ pointer_at before was i) → ((i : ℕ) → index < i → pointer_at after is i ≡ no_pointer) → CutsFilePointers shape before after n index was is
  cuts_at index kept gone = record {
    file_before = file_before;
    file_after = file_after;
    generation = cut.changes.generation;
    kept = kept;
    gone = gone;
    others = λ k far. ap (λ (node : GraphNode). tagged_by k node) (cut.others k far);
  }

  behind_same : (from : ℕ) → pointers_behind before was from ≡ pointers_from before was from
  unfolding pointers_of_span
  behind_same from = refl

  kept_below : (partial ≡ None) → (i : ℕ) → i < div_ceil size 4096 → pointer_at after is i ≡ pointer_at before was i
  kept_below e i low = cut.kept i low (λ some. absurd (both_ways (is_some partial) (ap is_some e) some))

  -- the pointers from an index on, as holders
  abbrev tail : ℕ → List (Tag × Pointer)
  tail from = there n was.generation from (drop from (all_of before was))

  tail_size : (index : ℕ) → CutsFilePointers shape before after n index was is → (from : ℕ) → length (tail from) ≡ length (pointers_from before was from)
  tail_size index c from = sym (length-map (tail from) tagged) ∙ ap length (cutting.plain_behind shape before after n index was is c from ∙ behind_same from)

  -- no page comes
  none_comes : partial ≡ None → later ≡ flight → KeepsVolumeHeld g s p old written flight later freeing leaving (pointers_from before was (div_ceil size 4096) ++ [])
  none_comes e same =
      let index = div_ceil size 4096 in
      let c = cuts_at index (kept_below e) (λ i far. cut.gone i (omega (arith, far))) in
      let none = cut.gone index (omega arith) in
      let r = cutting.truncates shape before after n index was is c none in
      let gone = pointers_from before was index in
      let a = ap length r.was ∙ length-append (r.front ++ tail index) r.behind in
      let b = length-append r.front (tail index) in
      let d = ap length r.is ∙ length-append (r.front ++ []) r.behind in
      let e2 = ap length (append-nil r.front) in
      let size_ = tail_size index c index in
      let added = length-append freeing gone in
      let as_many_flight = ap length same in
      subst (λ (f : List Pointer). KeepsVolumeHeld g s p old written flight later freeing leaving f) (sym (append-nil gone)) (record {
        held = subst (λ (f : List (Tag × Pointer)). IsHeldVolume g s p written f (freeing ++ gone) leaving) (sym same)
            (subst (λ (f : List Pointer). IsHeldVolume g s p written flight (freeing ++ f) leaving) (behind_same index)
            (truncating_keeps_held g s s p old written flight freeing n index was is _ volume j h (reads-none g s) frozen c none));
        as_many = omega (arith, a, b, d, e2, size_, added, as_many_flight);
      })

  -- one comes
  one_comes : (q : Pointer) → partial ≡ Some q → size % 4096 ≢ 0 → is_none_pointer q ≡ false → pointer_at after is (size / 4096) ≡ q → ListLoses tagged (tag_of n was (size / 4096), q) flight later
      → KeepsVolumeHeld g s p old written flight later freeing leaving (pointers_from before was (div_ceil size 4096) ++ as_list (pointer_at before was (size / 4096)))
  one_comes q e within some now lost =
      let index = size / 4096 in
      let is_next : div_ceil size 4096 ≡ index + 1 = omega (arith, within) in
      let c = cuts_at index (λ i low. cut.kept i (omega (arith, low, is_next)) (λ there here. absurd (let off : ⊥ = omega (arith, low, here) in off))) (λ i far. cut.gone i (omega (arith, far, is_next))) in
      let was_at = pointer_at before was index in
      let is_some_now : is_none_pointer (pointer_at after is index) ≡ false = ap is_none_pointer now ∙ some in
      let losing = lost_size (cutting.rest shape before after n index was is c ++ cutting.at shape before after n index was is c) (tagged_in shape before) (cutting.between shape before after n index was is c) (cutting.loses shape before after n index was is c) in
      let gaining = gained_size (cutting.to shape before after n index was is c) (cutting.between shape before after n index was is c) (tagged_in shape after) (cutting.gains shape before after n index was is c) in
      let parts = length-append (cutting.rest shape before after n index was is c) (cutting.at shape before after n index was is c) in
      let one : length (cutting.to shape before after n index was is c) ≡ 1 = ap length (shown_some (tag_of n was index) (pointer_at after is index) is_some_now) in
      let at_size = shown_size (tag_of n was index) was_at in
      let next : suc index ≡ index + 1 = omega arith in
      let rest_size : length (cutting.rest shape before after n index was is c) ≡ length (pointers_from before was (index + 1)) =
      ap (λ (m : ℕ). length (there n was.generation (index + 1) (drop m (all_of before was)))) next ∙ tail_size index c (index + 1) in
      let added = length-append freeing (pointers_from before was (index + 1) ++ as_list was_at) in
      let gone_size = length-append (pointers_from before was (index + 1)) (as_list was_at) in
      let fewer = lost.size in
      subst (λ (from : ℕ). KeepsVolumeHeld g s p old written flight later freeing leaving (pointers_from before was from ++ as_list was_at)) (sym is_next) (record {
        held = subst (λ (f : List Pointer). IsHeldVolume g s p written later f leaving) (append_assoc freeing (pointers_behind before was (index + 1)) (as_list was_at) ∙ ap (λ (l : List Pointer). freeing ++ (l ++ as_list was_at)) (behind_same (index + 1)))
            (parting_keeps_held g s s p old written flight later freeing n index was is _ volume j h (reads-none g s) frozen c is_some_now
            (subst (λ (x : Pointer). ListLoses tagged (tag_of n was index, x) flight later) (sym now) lost));
        as_many = omega (arith, losing, gaining, parts, one, at_size, rest_size, added, gone_size, fewer);
      })

  pub cut_holds : IfSome partial (λ to. (size % 4096 ≢ 0) × (is_none_pointer to ≡ false)) → LosesGiven (tag_of n was (size / 4096)) partial flight later → KeepsVolumeHeld g s p old written flight later freeing leaving (cut_off before was size partial)
  cut_holds right lost = by partial refl right cut.replaced lost
    where
      by : (o : Option Pointer) → partial ≡ o → IfSome o (λ to. (size % 4096 ≢ 0) × (is_none_pointer to ≡ false)) → IfSome o (λ to. pointer_at after is (size / 4096) ≡ to) → LosesGiven (tag_of n was (size / 4096)) o flight later
          → KeepsVolumeHeld g s p old written flight later freeing leaving (cut_off before was size o)
      by None e right now lost = none_comes e lost
      by (Some q) e right now lost = one_comes q e right.0 right.1 now lost

pub cutting_holds : {D : Type 0} (g : Ghosts D) → CuttingHolds g
cutting_holds g s p flight later freeing n size partial was is old new written f t leaving volume j h on right lost =
    cut_holds g s p flight later freeing n size partial was is old new written f t volume j h on right lost
