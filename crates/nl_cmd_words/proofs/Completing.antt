-- Where nothing fails, a command is carried out.
use Rattle.std.proofs.Common.{inl, inr}
use Rattle.nl_core_open.specs.Laws.{ConsistentIsReadable}
use Rattle.nl_cmd_words.specs.Complete.{CheckCompletes, DoneCompletes, FormatCompletes, OpeningCompletes}
use Rattle.nl_cmd_words.specs.Ends.{blank, check_blank, check_fault, check_no_memory, damaged, finds, format_fault, format_no_memory, formatted, is_sound, medium_fault, no_memory}

pub done_completes : DoneCompletes
done_completes source source' sink sink' medium medium' status text (inl five) none = absurd (none.medium_stays five.1)
done_completes source source' sink sink' medium medium' status text (inr (inl four)) none = absurd (none.sink_stays four.2)
done_completes source source' sink sink' medium medium' status text (inr (inr zero)) none = zero.0

pub format_completes : (tells : Type 0) → FormatCompletes tells
format_completes tells blocks pages source source' sink sink' medium medium' order syncs status (format_fault five rose prints no_lines no_syncs) none = absurd (none.medium_stays (inr rose))
format_completes tells blocks pages source source' sink sink' medium medium' order syncs status (format_no_memory six ends) none = inr six
format_completes tells blocks pages source source' sink sink' medium medium' order syncs status (formatted text made prints no_lines no_syncs done) none =
    inl (done_completes source source' sink sink' medium medium' status text done none)

module _ (readable : ConsistentIsReadable) (tells : Type 0) where
  pub opening_completes : OpeningCompletes tells
  opening_completes source source' sink sink' medium medium' status count text (no_memory six is) starts none = six
  opening_completes source source' sink sink' medium medium' status count text (medium_fault five is rose) starts none = absurd (none.medium_stays (inl rose))
  opening_completes source source' sink sink' medium medium' status count text (blank seven is image) starts none = absurd (readable medium.contents count starts.tree starts.sound (image starts.told))
  opening_completes source source' sink sink' medium medium' status count text (damaged place seven is image) starts none = absurd ((image starts.told).not_sound (count, starts.tree, starts.sound))

  pub check_completes : CheckCompletes tells
  check_completes source source' sink sink' medium medium' order syncs status count (check_no_memory six ends) starts none = inr six
  check_completes source source' sink sink' medium medium' order syncs status count (check_fault five rose ends) starts none = absurd (none.medium_stays (inl rose))
  check_completes source source' sink sink' medium medium' order syncs status count (check_blank seven image ends) starts none = absurd (readable medium.contents count starts.tree starts.sound (image starts.told))
  check_completes source source' sink sink' medium medium' order syncs status count (finds text eight faults ends) starts none = absurd ((faults.first starts.told).1.not_sound (count, starts.tree, starts.sound))
  check_completes source source' sink sink' medium medium' order syncs status count (is_sound text sound ends done) starts none =
      inl (done_completes source source' sink sink' medium medium' status text done none)
