-- Where nothing fails, a sound image is looked at.
use Rattle.std.proofs.Common.{◌⊎◌, ℕ, List, inl, inr}
use Rattle.nl_cmd_words.specs.Complete.{DoneCompletes, OpeningCompletes}
use Rattle.nl_field.specs.CrashStates.{Rose}
use Rattle.nl_field.specs.Page.{Image}
use Rattle.nl_spec_headline.specs.Streams.{Medium}
use Rattle.nl_cmd_view.specs.Complete.{LookCompletes, TreeCompletes}
use Rattle.nl_cmd_view.specs.Looking.{ShowsTree, cut_short, not_cut, not_seen, seen}

module _ (tells : Type 0) (done_completes : DoneCompletes) (opening_completes : OpeningCompletes tells) where
  never_cut : (medium medium' : Medium) → tells → (Rose medium.counts.read_faults medium'.counts.read_faults → ⊥) → Rose medium.counts.read_faults medium'.counts.read_faults ⊎ (tells → ⊥) → ⊥
  never_cut medium medium' told stays (inl rose) = stays rose
  never_cut medium medium' told stays (inr untold) = untold told

  pub look_completes : (shows : Image → List ℕ → Type 0) → LookCompletes tells shows
  look_completes shows source source' sink sink' medium medium' order syncs status count (not_seen text why before) starts none =
      inr (opening_completes source source' sink sink' medium medium' status count text why starts none)
  look_completes shows source source' sink sink' medium medium' order syncs status count (seen text shown still before done) starts none =
      inl (done_completes source source' sink sink' medium medium' status text done none)

  pub tree_completes : TreeCompletes tells
  tree_completes source source' sink sink' medium medium' order syncs status count (not_cut ends) starts none =
      look_completes ShowsTree source source' sink sink' medium medium' order syncs status count ends starts none
  tree_completes source source' sink sink' medium medium' order syncs status count (cut_short text rest five why shown before whole) starts none =
      absurd (never_cut medium medium' starts.told (λ rose. none.medium_stays (inl rose)) why)
