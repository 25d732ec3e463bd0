-- The commit page is read back from its bytes.
use Rattle.std.proofs.Common.{◌≡◌, List, ℕ, Some, refl, length}
use Rattle.std.specs.Prelude.{IsTrue}
use Rattle.nl_field.specs.Bytes.{zeros}
use Rattle.nl_field.specs.Spelling.{u64_bytes, u64_at, Decodes}
use Rattle.nl_field.specs.Journal.{commit_head, commit_bytes, commit_fields, commit_of, is_commit, fits_commit}
use Rattle.nl_field.specs.declared.commit.CommitRec.{CommitRec}
use Rattle.nl_field.proofs.AreBytes.{AreBytes, u64-back, stamp-fits}
use Rattle.nl_field.proofs.Reading.{reads-spelled, spelled-back}

pub length-commit_head : (rec : CommitRec) → length (commit_head rec) ≡ 16
unfolding commit_head u64_bytes
length-commit_head rec = refl

commit-back : (rec : CommitRec) → IsTrue (fits_commit rec) → IsTrue (is_commit rec) → commit_fields (commit_bytes rec) ≡ rec
unfolding commit_fields commit_bytes commit_head u64_bytes u64_at
commit-back rec fits spelled =
    let n = u64-back rec.number (zeros 4080) (stamp-fits rec.number spelled) in
    λ i. record { number = n i }

pub commit-reads : (bytes : List ℕ) → AreBytes bytes → Decodes fits_commit is_commit commit_bytes bytes (commit_of bytes)
unfolding commit_of
commit-reads bytes are = reads-spelled fits_commit is_commit commit_bytes commit_fields bytes refl commit-back

pub commit-spelled : (rec : CommitRec) → IsTrue (fits_commit rec) → IsTrue (is_commit rec) → commit_of (commit_bytes rec) ≡ Some rec
unfolding commit_of
commit-spelled rec fits spelled = spelled-back is_commit commit_bytes commit_fields rec (commit-back rec fits spelled) spelled
