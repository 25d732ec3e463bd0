-- What is put is what is got.
use Rattle.std.proofs.Common.{◌≡◌, ◌∙◌, ℕ, Bool, true, false, List, refl, sym, ap, subst, inl, inr, Option, Some}
use Rattle.nl_field.specs.FileContent.{FileContent, bytes_read}
use Rattle.nl_field.specs.Page.{Image}
use Rattle.nl_spec_headline.specs.Course.{count_after, tree_after}
use Rattle.nl_spec_headline.specs.Headline.{IsYoung}
use Rattle.nl_spec_headline.specs.Status.{DoneStatus}
use Rattle.nl_spec_headline.specs.Streams.{Medium, PrintsWhole, Stream}
use Rattle.nl_spec_headline.specs.declared.lists.Ordered.{Ordered}
use Rattle.nl_spec_headline.specs.declared.lists.Synced.{Synced}
use Rattle.nl_spec_image.specs.Crash.{Run}
use Rattle.nl_spec_image.specs.Stands.{ConsistentAs}
use Rattle.nl_spec_image.specs.StandsLaws.{RepresentsOneTree}
use Rattle.nl_tree.specs.Tree.{Tree, file, node_at}
use Rattle.nl_tree.specs.declared.reply.Refusal.{Refusal}
use Rattle.nl_cmd_words.specs.Ends.{NotOpened, blank, damaged, medium_fault, no_memory}
use Rattle.nl_put_tree.specs.Laws.{PutLaws}
use Rattle.nl_put_tree.specs.Putting.{IsPut, Path}
use Rattle.nl_cmd_put.specs.OnVolume.{CourseEnds}
use Rattle.nl_cmd_put.specs.Putting.{PutFailed, PutRan, TellsEnd, TellsPut}
use Rattle.nl_cmd_put.specs.declared.ending.End.{End}
use Rattle.nl_cmd_put.specs.declared.ending.End.TheVariants as ends
use Rattle.nl_cmd_view.specs.Getting.{GetEnds, ShowsFile, cut_short, not_cut, refuses}
use Rattle.nl_cmd_view.specs.Looking.{not_seen, seen}
use Rattle.nl_top.specs.PutAndGet.{PutIsGot}

not_true : (b : Bool) → (b ≡ true → ⊥) → b ≡ false
not_true true not = absurd (not refl)
not_true false not = refl

same_content : (c c' : FileContent) → Some (file c) ≡ Some (file c') → c ≡ c'
same_content c c' e = cc e

module _ (tells : Type 0) (laws : PutLaws) (one : RepresentsOneTree) (path : Path) (bytes : List ℕ) (stops : Run → Type 0) (sink sink' : Stream) (before after : Medium) (order : List Ordered)
    (syncs : List Synced) (refused : Option Refusal) (told : tells) (put : PutRan tells path bytes stops sink sink' before after order syncs refused 0) (young : IsYoung before.contents before.counts after.counts put.course) where
  not_failed : TellsPut put.end (PutFailed before after put.lost put.worn) sink sink' refused 0 → PutFailed before after put.lost put.worn → ⊥
  not_failed (inl (failed, none, five, same)) f = cc five
  not_failed (inr (sound, is)) f = sound f

  end_told : TellsPut put.end (PutFailed before after put.lost put.worn) sink sink' refused 0 → TellsEnd put.end sink sink' refused 0
  end_told (inl (failed, none, five, same)) = absurd (cc five)
  end_told (inr (sound, is)) = is

  -- the file was put
  was_put : (end : End) → CourseEnds tells put.runs.own path bytes before after put.course end → TellsEnd end sink sink' refused 0 → IsPut put.course.tree path bytes (tree_after put.course)
  was_put (ends.Put n) (count, durable, is) t = is told
  was_put (ends.Refused refusal) is (some, two, same) = absurd (cc two)
  was_put ends.Memory is (none, six, prints) = absurd (cc six)
  was_put ends.Fault is (none, five, same) = absurd (cc five)

  put_there : IsPut put.course.tree path bytes (tree_after put.course)
  put_there = was_put put.end put.runs.ended (end_told put.told)

  stands : ConsistentAs after.contents (count_after put.course) (tree_after put.course)
  stands = put.runs.ends told young (λ rose. not_failed put.told (inl rose)) (not_true put.worn (λ w. not_failed put.told (inr (inr w))))

  -- the text of a file of that image
  is_text : (image : Image) (text : List ℕ) → image ≡ after.contents → ShowsFile path image text → text ≡ bytes
  is_text image text same shown =
      let sound : ConsistentAs after.contents shown.count shown.tree = subst (λ (i : Image). ConsistentAs i shown.count shown.tree) same shown.sound in
      let tree : shown.tree ≡ tree_after put.course = (one after.contents shown.count (count_after put.course) shown.tree (tree_after put.course) sound.stands stands.stands).1 in
      let holds = put_there.holds in
      let content : shown.of_file.content ≡ holds.content = same_content shown.of_file.content holds.content (sym shown.of_file.is_file ∙ ap (λ (t : Tree). node_at t path) tree ∙ holds.is_file) in
      shown.of_file.text_is ∙ ap (λ (c : FileContent). bytes_read c 0 c.size) content ∙ ap (bytes_read holds.content 0) holds.holds.size ∙ laws.read_back holds.content bytes holds.holds

  module _ (out out' : Stream) (start end : Medium) (order' : List Ordered) (syncs' : List Synced) (refused' : Option Refusal) (same : start.contents ≡ after.contents) where
    taken : (text : List ℕ) (failed : Type 0) → text ≡ bytes → DoneStatus 0 failed out out' text → PrintsWhole out out' bytes
    taken text failed is (inl five) = absurd (let no = five.0 in cc no)
    taken text failed is (inr (inl four)) = absurd (let no = four.0 in cc no)
    taken text failed is (inr (inr zero)) = subst (PrintsWhole out out') is zero.2

    unopened : (text : List ℕ) → NotOpened tells start end 0 text → ⊥
    unopened text (no_memory six is) = cc six
    unopened text (medium_fault five is rose) = cc five
    unopened text (blank seven is image) = cc seven
    unopened text (damaged place seven is image) = cc seven

    got : GetEnds tells path out out' start end order' syncs' refused' 0 → PrintsWhole out out' bytes
    got (not_cut none (not_seen text why ends)) = absurd (unopened text why)
    got (not_cut none (seen text shown still ends done)) = taken text _ (is_text start.contents text same (shown told)) done
    got (refuses refusal is two reason still same_sink ends) = absurd (cc two)
    got (cut_short text none five cause begins ends whole) = absurd (cc five)

pub put_is_got : (tells : Type 0) → PutLaws → RepresentsOneTree → (stops : Run → Type 0) → PutIsGot tells stops
put_is_got tells laws one stops path bytes sink sink' before after order syncs refused told put young out out' start end order' syncs' refused' same ends =
    got tells laws one path bytes stops sink sink' before after order syncs refused told put young out out' start end order' syncs' refused' same ends
