-- One call of cleaning alone: a copy, an erase, or a victim that is begun.
use Rattle.std.proofs.Common.{◌≡◌, ◌⊎◌, inl, inr, refl, sym, ◌∙◌, ap, subst, arith}
use Rattle.std.specs.Prelude.{⊤}
use Rattle.nl_iface.specs.declared.moving.Copying.{Copying}
use Rattle.nl_iface.specs.declared.moving.Copying.TheVariants as copying
use Rattle.nl_field.specs.CrashStates.{Rose}
use Rattle.nl_iface.specs.Calls.{KeepsMedium, NoWriteFailed, OnlyReads, StoresPages, stored}
use Rattle.nl_iface.specs.Moves.{BeginsVictim, Copies, ErasesAtCrashes, ErasesVictim, FailsToCopy, HasCopied, KeepsCleaning, LeavesMove, MovesPage}
use Rattle.nl_iface.specs.Names.{Names, SameTables}
use Rattle.nl_iface.specs.Space.{CanLand, SameSegment, Space}
use Rattle.nl_iface.specs.declared.counts.Counts.{Ghosts}
use Rattle.nl_iface.specs.Counting.{FailuresCounted}
use Rattle.nl_iface.specs.declared.moving.Erasing.{Erasing}
use Rattle.nl_iface.specs.declared.moving.Erasing.TheVariants as erasure
use Rattle.nl_core_clean.specs.Carried.{CarriesPages, KeepsHeld, KeepsStored}
use Rattle.nl_core_clean.proofs.Carrying.{same_carries}
use Rattle.nl_core_clean.proofs.Emptying.{copied_pages, ended_tables, medium_itself, segment_then, taken_live, taken_same}
use Rattle.nl_core_clean.proofs.Finishing.{erased_rose, same_names}
use Rattle.nl_core_clean.proofs.Steps.{erased_keeps, erased_stored, moved_held, moved_stored, still_held, still_stored}

segment_itself : (s : Space) → SameSegment s s
segment_itself s = record { block = refl; all = refl; bad = omega arith; kept = refl }

module _ {D : Type 0} (g : Ghosts D) where
  pub reads_itself : (s : D) → OnlyReads g s s
  reads_itself s = record { medium = medium_itself g s; names = refl }

  same_space : (s t : D) → g.names t ≡ g.names s → SameSegment (g.names s).space (g.names t).space × ((g.names t).space.live ≡ (g.names s).space.live)
  same_space s t same = (
    subst (λ (n : Names). SameSegment (g.names s).space n.space) (sym same) (segment_itself (g.names s).space),
    ap (λ (n : Names). n.space.live) same,
  )

  -- ---- a copy

  -- a copy was made, or the device only read, or it failed
  abbrev pub CopyEnds : D → D → Type 0
  CopyEnds s t = HasCopied g s t ⊎ (OnlyReads g s t ⊎ FailsToCopy g s t)

  pub copy_ends : (answer : Copying) (s t : D) → (answer ≡ copying.Did → HasCopied g s t) → (answer ≡ copying.Nothing → OnlyReads g s t)
      → ((answer ≡ copying.Did → ⊥) → (answer ≡ copying.Nothing → ⊥) → FailsToCopy g s t) → CopyEnds s t
  copy_ends copying.Did s t did none failed = inl (did refl)
  copy_ends copying.Nothing s t did none failed = inr (inl (none refl))
  copy_ends (copying.Lost w f) s t did none failed = inr (inr (failed (λ e. cc) (λ e. cc)))
  copy_ends copying.Fault s t did none failed = inr (inr (failed (λ e. cc) (λ e. cc)))

  copy_carries : (s t : D) → CopyEnds s t → KeepsCleaning g s t → CarriesPages (λ p q. g.tells → g.bytes t q ≡ g.bytes s p) (g.names s) (g.names t)
  copy_carries s t (inl copied) k = copied_pages g s t copied k
  copy_carries s t (inr ended) k = same_carries _ (g.names s) (g.names t) (ended_tables g s t ended) (λ p page is tells. k.bytes tells p page is)

  pub copy_segment : (s t : D) → CopyEnds s t → SameSegment (g.names s).space (g.names t).space × ((g.names t).space.live ≡ (g.names s).space.live)
  copy_segment s t (inl (inl m)) = (
    segment_then (taken_same (g.names s).space m.taken m.takes) m.space.same,
    m.space.live ∙ taken_live (g.names s).space m.taken m.takes,
  )
  copy_segment s t (inl (inr b)) = (b.0.space.same, b.0.space.others.3)
  copy_segment s t (inr (inl reads)) = same_space s t reads.names
  copy_segment s t (inr (inr f)) = (
    segment_then (taken_same (g.names s).space f.taken f.takes) f.space.same,
    f.space.tables.1 ∙ taken_live (g.names s).space f.taken f.takes,
  )

  -- what a stop within a copy leaves, as the device tells it
  abbrev pub CopyLeaves : D → D → Type 0
  CopyLeaves s t = g.tells → LeavesMove g (MovesPage g s t) (λ c. Copies c (g.names s) (g.names t)) s t ⊎ KeepsMedium g s t

  pub copy_held : (s t : D) → CopyEnds s t → (g.tells → StoresPages g s) → CopyLeaves s t → KeepsCleaning g s t → KeepsHeld g s t
  copy_held s t ends stores left k = moved_held g (MovesPage g s t) (λ c. Copies c (g.names s) (g.names t)) s t stores (copy_carries s t ends k) left k

  pub copy_stored : (s t : D) → (g.tells → StoresPages g s) → CopyLeaves s t → g.tells → KeepsStored (stored g s) (stored g t)
  copy_stored s t stores left tells = moved_stored g (MovesPage g s t) (λ c. Copies c (g.names s) (g.names t)) s t tells (stores tells) (left tells)

  -- ---- an erase

  -- the victim was erased, or the device only read, or the erase failed
  abbrev pub EraseEnds : D → D → Type 0
  EraseEnds s t = ErasesVictim g s t ⊎ (OnlyReads g s t ⊎ ((g.names t ≡ g.names s) × Rose (g.write_faults s) (g.write_faults t)))

  pub erase_rose : (answer : Erasing) (s t : D) → FailuresCounted ⊤ (g.write_faults s) (g.write_faults t) (answer ≡ erasure.Fault) → answer ≡ erasure.Fault → Rose (g.write_faults s) (g.write_faults t)
  erase_rose answer s t f is = erased_rose (g.write_faults s) (g.write_faults t) (answer ≡ erasure.Fault) f is

  pub erase_ends : (answer : Erasing) (s t : D) → (answer ≡ erasure.Done → ErasesVictim g s t) → (answer ≡ erasure.Nothing → OnlyReads g s t)
      → ((answer ≡ erasure.Done → ⊥) → g.names t ≡ g.names s) → FailuresCounted ⊤ (g.write_faults s) (g.write_faults t) (answer ≡ erasure.Fault) → EraseEnds s t
  erase_ends erasure.Done s t done none same f = inl (done refl)
  erase_ends erasure.Nothing s t done none same f = inr (inl (none refl))
  erase_ends erasure.Fault s t done none same f = inr (inr (same (λ e. cc), erase_rose erasure.Fault s t f refl))

  erase_tables : (s t : D) → EraseEnds s t → SameTables (g.names s) (g.names t)
  erase_tables s t (inl erased) = erased.tables
  erase_tables s t (inr (inl reads)) = same_names g s t reads.names
  erase_tables s t (inr (inr failed)) = same_names g s t failed.0

  pub erase_segment : (s t : D) → EraseEnds s t → SameSegment (g.names s).space (g.names t).space × ((g.names t).space.live ≡ (g.names s).space.live)
  erase_segment s t (inl erased) = (erased.space.same, erased.space.live)
  erase_segment s t (inr (inl reads)) = same_space s t reads.names
  erase_segment s t (inr (inr failed)) = same_space s t failed.0

  pub erase_lands : (s t : D) → EraseEnds s t → CanLand (g.names s).space → CanLand (g.names t).space
  erase_lands s t (inl erased) lands = let left = erased.space.left in omega (arith, left)
  erase_lands s t (inr (inl reads)) lands = subst (λ (n : Names). CanLand n.space) (sym reads.names) lands
  erase_lands s t (inr (inr failed)) lands = subst (λ (n : Names). CanLand n.space) (sym failed.0) lands

  pub erase_held : (s t : D) → EraseEnds s t → (g.tells → ErasesAtCrashes g s t) → KeepsCleaning g s t → KeepsHeld g s t
  erase_held s t ends left k = erased_keeps g s t (erase_tables s t ends) left k

  pub erase_stored : (s t : D) → EraseEnds s t → NoWriteFailed g s t → g.tells → KeepsStored (stored g s) (stored g t)
  erase_stored s t (inl erased) none tells = erased_stored g s t (erased.now tells)
  erase_stored s t (inr (inl reads)) none tells = still_stored g s t tells reads.medium
  erase_stored s t (inr (inr failed)) none tells = absurd (none failed.1)

  -- ---- a victim that is begun

  abbrev pub BeginEnds : D → D → Type 0
  BeginEnds s t = BeginsVictim g s t ⊎ OnlyReads g s t

  begin_tables : (s t : D) → BeginEnds s t → SameTables (g.names s) (g.names t)
  begin_tables s t (inl begun) = begun.tables
  begin_tables s t (inr reads) = same_names g s t reads.names

  pub begin_medium : (s t : D) → BeginEnds s t → KeepsMedium g s t
  begin_medium s t (inl begun) = begun.medium
  begin_medium s t (inr reads) = reads.medium

  pub begin_segment : (s t : D) → BeginEnds s t → SameSegment (g.names s).space (g.names t).space × ((g.names t).space.live ≡ (g.names s).space.live)
  begin_segment s t (inl begun) = (begun.space.same, begun.space.others.3)
  begin_segment s t (inr reads) = same_space s t reads.names

  pub begin_lands : (s t : D) → BeginEnds s t → CanLand (g.names s).space → CanLand (g.names t).space
  begin_lands s t (inl begun) lands = begun.space.lands
  begin_lands s t (inr reads) lands = subst (λ (n : Names). CanLand n.space) (sym reads.names) lands

  pub begin_held : (s t : D) → BeginEnds s t → KeepsHeld g s t
  begin_held s t ends = still_held g s t (begin_tables s t ends) (begin_medium s t ends)

  pub begin_stored : (s t : D) → BeginEnds s t → g.tells → KeepsStored (stored g s) (stored g t)
  begin_stored s t ends tells = still_stored g s t tells (begin_medium s t ends)
