-- How far a read has come.
use Rattle.std.proofs.Common.{◌≡◌, ◌⊎◌, inl, inr, ℕ, ◌+◌, ◌-◌, ◌/◌, ◌%◌, ◌<◌, ◌≤◌, Bool, true, false, List, length, cond, refl, sym, ap, ◌∙◌, arith}
use Rattle.std.specs.Prelude.{slice_index}
use Rattle.std.proofs.lemmas.Bool.{both_ways, cases_lt, leb-true}
use Rattle.nl_field.specs.Bytes.{zeros}
use Rattle.nl_field.specs.Pointers.{is_none_pointer}
use Rattle.nl_field.specs.declared.inode.InodeRec.{InodeRec}
use Rattle.nl_field.specs.declared.pointer.Pointer.{Pointer}
use Rattle.nl_iface.proofs.Stops.{reads_then}
use Rattle.nl_iface.specs.Calls.{OnlyReads}
use Rattle.nl_iface.specs.Names.{Names, place_of}
use Rattle.nl_iface.specs.declared.counts.Counts.{Ghosts}
use Rattle.nl_meta.specs.Nodes.{pointer_at, slots_of}
use Rattle.nl_meta.specs.Pages.{Pages}
use Rattle.nl_indirect.specs.Ranges.{IsFileRecord}
use Rattle.nl_indirect.proofs.Records.{file-parts}
use Rattle.nl_files.specs.Answers.{LosesFile}
use Rattle.nl_files.specs.declared.answer.FileAnswer.{FileAnswer}
use Rattle.nl_files.specs.declared.answer.FileAnswer.TheVariants as answer
use Rattle.nl_files.proofs.Keeping.{keeps-then, pointer-then}
use Rattle.nl_files.proofs.Owning.{own-then}
use Rattle.nl_files.specs.Reading.{IsWanted, byte_at, file_page}
use Rattle.nl_files.specs.Standing.{FileIsAtHand, KeepsRunning, LoadsOwn, running_map}

-- the first bytes of the file from an offset on stand in the list
pub record IsFilled {D : Type 0} (g : Ghosts D) (s t : D) (p q : Pages) (rec : InodeRec) (at count done : ℕ) (out : List ℕ) : Type 0 where
  pub formed : g.formed t
  pub reads : OnlyReads g s t
  pub faults : g.read_faults t ≡ g.read_faults s
  pub keeps : KeepsRunning g s p q
  pub own : LoadsOwn rec p q
  pub len : length out ≡ count
  pub most : done ≤ count
  pub bytes : g.tells → (k : ℕ) → k < done → slice_index out k ≡ byte_at (file_page g s (running_map g s p) rec) (at + k)

pub file-size : (rec : InodeRec) → IsFileRecord rec → rec.size ≤ 16809984
file-size rec is = leb-true rec.size 16809984 (file-parts rec is).size

-- a stamp that is wanted once pages were made resident was so before
pub wanted-then : {D : Type 0} (g : Ghosts D) (s t : D) (rec : InodeRec) (p q : Pages) → OnlyReads g s t → KeepsRunning g s p q → FileIsAtHand g s rec p → (w : ℕ)
    → IsWanted g t (running_map g t q) rec w → IsWanted g s (running_map g s p) rec w
wanted-then g s t rec p q reads keeps stands w (inl x) = inl (record { at = x.at; not_zero = x.not_zero; stamp = sym (reads.medium.virtual.same_stamps (slice_index (slots_of rec) x.at)) ∙ x.stamp })
wanted-then g s t rec p q reads keeps stands w (inr x) =
    let same = pointer-then g s t rec p q reads keeps stands x.at in
    inr (record { at = x.at; below = x.below; some = ap is_none_pointer (sym same) ∙ x.some; stamp = ap (λ (at : Pointer). at.stamp) (sym same) ∙ x.stamp })

pub loses-by : (P Q : ℕ → Type 0) → ((w : ℕ) → P w → Q w) → (a : FileAnswer) → LosesFile P a → LosesFile Q a
loses-by P Q each answer.Done l = l
loses-by P Q each answer.Fault l = l
loses-by P Q each (answer.Lost w f) l = (each w l.0, l.1)

-- the bytes of a page are those that it had before
pub page-then : {D : Type 0} (g : Ghosts D) (s t : D) (rec : InodeRec) (p q : Pages) → g.tells → OnlyReads g s t → KeepsRunning g s p q → FileIsAtHand g s rec p → (i : ℕ)
    → file_page g t (running_map g t q) rec i ≡ file_page g s (running_map g s p) rec i
page-then {D = D} g s t rec p q tells reads keeps stands i =
    ap (λ (at : Pointer). cond (is_none_pointer at) (zeros 4096) (g.bytes t (place_of (g.names t) at))) (pointer-then g s t rec p q reads keeps stands i)
    ∙ ap (λ (names : Names). cond (is_none_pointer here) (zeros 4096) (g.bytes t (place_of names here))) reads.names
    ∙ ap (λ (bytes : List ℕ). cond (is_none_pointer here) (zeros 4096) bytes) (reads.medium.bytes tells (place_of (g.names s) here))
  where
    here : Pointer
    here = pointer_at (running_map g s p) rec i

-- one page more is filled
pub filled-on : (page : ℕ → List ℕ) (at done count : ℕ) (main out new : List ℕ) → 0 < count → (at + done) % 4096 + count ≤ 4096 → main ≡ page ((at + done) / 4096)
    → ((k : ℕ) → k < done → slice_index out k ≡ byte_at page (at + k)) → ((k : ℕ) → k < done → slice_index new k ≡ slice_index out k)
    → ((k : ℕ) → k < count → slice_index new (done + k) ≡ slice_index main ((at + done) % 4096 + k))
    → (k : ℕ) → k < done + count → slice_index new k ≡ byte_at page (at + k)
filled-on page at done count main out new some within is before same copied k below = by (cases_lt k done)
  where
    by : (k < done) ⊎ (done ≤ k) → slice_index new k ≡ byte_at page (at + k)
    by (inl first) = same k first ∙ before k first
    by (inr later) =
        let e : done + (k - done) ≡ k = omega (arith, later) in
        let lt : k - done < count = omega (arith, later, below) in
        let quotient : (at + done) / 4096 ≡ (at + k) / 4096 = omega (arith, later, below, within) in
        let rest : (at + done) % 4096 + (k - done) ≡ (at + k) % 4096 = omega (arith, later, below, within) in
        ap (slice_index new) (sym e) ∙ copied (k - done) lt
        ∙ (λ i. slice_index (is i) (rest i))
        ∙ ap (λ n. slice_index (page n) ((at + k) % 4096)) quotient

pub filled-then : {D : Type 0} (g : Ghosts D) (s t u : D) (p q r : Pages) (rec : InodeRec) (at size done count : ℕ) (main out new : List ℕ) → FileIsAtHand g s rec p
    → IsFilled g s t p q rec at size done out → g.formed u → OnlyReads g t u → g.read_faults u ≡ g.read_faults t → KeepsRunning g t q r → LoadsOwn rec q r
    → (g.tells → main ≡ file_page g t (running_map g t q) rec ((at + done) / 4096))
    → 0 < count → done + count ≤ size → (at + done) % 4096 + count ≤ 4096 → length new ≡ size → ((k : ℕ) → k < done → slice_index new k ≡ slice_index out k)
    → ((k : ℕ) → k < count → slice_index new (done + k) ≡ slice_index main ((at + done) % 4096 + k))
    → IsFilled g s u p r rec at size (done + count) new
filled-then g s t u p q r rec at size done count main out new stands is formed reads faults keeps own page some most within whole same copied = record {
  formed = formed;
  reads = reads_then g s t u is.reads reads;
  faults = faults ∙ is.faults;
  keeps = keeps-then g s t p q r is.reads is.keeps keeps;
  own = own-then rec p q r is.own own;
  len = whole;
  most = most;
  bytes = λ tells.
      filled-on (file_page g s (running_map g s p) rec) at done count main out new some within
      (page tells ∙ page-then g s t rec p q tells is.reads is.keeps stands ((at + done) / 4096)) (is.bytes tells) same copied;
}

is-done : FileAnswer → Bool
is-done answer.Done = true
is-done answer.Fault = false
is-done (answer.Lost w f) = false

pub done-not-fault : answer.Done ≡ answer.Fault → ⊥
unfolding is-done
done-not-fault e = both_ways false refl (ap is-done (sym e))
