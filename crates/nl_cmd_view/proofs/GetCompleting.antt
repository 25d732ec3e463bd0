-- Where nothing fails, the file of a consistent image is printed, or the refusal of its tree is told.
use Rattle.std.proofs.Common.{◌≡◌, ℕ, inl, inr, sym, ap, subst, ◌∙◌, Option, Some, None}
use Rattle.nl_cmd_words.specs.Complete.{DoneCompletes, OpeningCompletes}
use Rattle.nl_field.specs.Page.{Image}
use Rattle.nl_spec_image.specs.Stands.{ConsistentAs}
use Rattle.nl_spec_image.specs.StandsLaws.{RepresentsOneTree}
use Rattle.nl_tree.specs.Tree.{Tree}
use Rattle.nl_tree.specs.declared.reply.Refusal.{Refusal}
use Rattle.nl_cmd_view.specs.Complete.{GetCompletes, IsCarriedOutUnless}
use Rattle.nl_cmd_view.specs.Getting.{cut_short, not_cut, refusal_of_read, refuses}
use Rattle.nl_cmd_view.specs.Looking.{not_seen, seen}

-- not carried out for want of memory
wanting : (o : Option Refusal) (status : ℕ) → status ≡ 6 → IsCarriedOutUnless o status
wanting None status six = inr six
wanting (Some refusal) status six = inr six

module _ (tells : Type 0) (done_completes : DoneCompletes) (opening_completes : OpeningCompletes tells) (one : RepresentsOneTree) where
  -- an image is consistent as one tree
  same_tree : (image : Image) (count count' : ℕ) (tree tree' : Tree) → ConsistentAs image count tree → ConsistentAs image count' tree' → tree ≡ tree'
  same_tree image count count' tree tree' a b = (one image count count' tree tree' a.stands b.stands).1

  pub get_completes : GetCompletes tells
  get_completes path source source' sink sink' medium medium' order syncs refused status count (not_cut none (not_seen text why before)) starts nothing =
      wanting (refusal_of_read starts.tree path) status (opening_completes source source' sink sink' medium medium' status count text why starts nothing)
  get_completes path source source' sink sink' medium medium' order syncs refused status count (not_cut none (seen text shown still before done)) starts nothing =
      let file = shown starts.told in
      let same = same_tree medium.contents file.count count file.tree starts.tree file.sound starts.sound in
      subst (λ (o : Option Refusal). IsCarriedOutUnless o status) (sym file.of_file.may_read ∙ ap (λ (t : Tree). refusal_of_read t path) same)
      (inl (done_completes source source' sink sink' medium medium' status text done nothing))
  get_completes path source source' sink sink' medium medium' order syncs refused status count (refuses refusal is two reason still same_sink before) starts nothing =
      let no = reason starts.told in
      let same = same_tree medium.contents no.count count no.tree starts.tree no.sound starts.sound in
      subst (λ (o : Option Refusal). IsCarriedOutUnless o status) (sym no.refused ∙ ap (λ (t : Tree). refusal_of_read t path) same) (inl two)
  get_completes path source source' sink sink' medium medium' order syncs refused status count (cut_short text none five (inl rose) begins before whole) starts nothing = absurd (nothing.medium_stays (inl rose))
  get_completes path source source' sink sink' medium medium' order syncs refused status count (cut_short text none five (inr untold) begins before whole) starts nothing = absurd (untold starts.told)
