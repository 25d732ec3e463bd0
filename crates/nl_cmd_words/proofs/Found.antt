-- What a check finds: that the image is sound, or what is at fault.
use Rattle.std.proofs.Common.{◌≡◌, ℕ, zero, suc, List, [], ◌∙◌, sym, ap, subst, refl, Option, Some, None, IsTrue, arith}
use Rattle.std.specs.Prelude.{◌≢◌, ◌⊎◌}
use Rattle.nl_check.specs.Checking.{Checks}
use Rattle.nl_field.specs.CrashStates.{Rose}
use Rattle.nl_field.specs.FindingBits.{bits_of}
use Rattle.nl_field.specs.Medium.{readable_pages}
use Rattle.nl_field.specs.Page.{Image, is_image}
use Rattle.nl_field.specs.declared.findings.Findings.{Findings}
use Rattle.nl_field.specs.declared.place.Place.{Place}
use Rattle.nl_spec_headline.specs.Status.{DoneStatus}
use Rattle.nl_spec_headline.specs.Streams.{Medium, Prints, Stream, Untouched}
use Rattle.nl_spec_headline.specs.declared.lists.Ordered.{Ordered}
use Rattle.nl_spec_headline.specs.declared.lists.Synced.{Synced}
use Rattle.nl_meta.specs.Walk.{walk}
use Rattle.nl_print.specs.Texts.{findings_text, sound_text}
use Rattle.nl_spec_image.specs.Stands.{ConsistentAs}
use Rattle.nl_spec_image.specs.StandsLaws.{WalkDecidesConsistency}
use Rattle.nl_tree.specs.Tree.{Tree}
use Rattle.nl_cmd_words.specs.Ends.{CheckEnds, finds, is_sound}
use Rattle.nl_cmd_words.specs.Others.{IsDamaged}
use Rattle.nl_cmd_words.proofs.Ending.{done_since}

module _ (walk_finds_consistency : WalkDecidesConsistency) (image : Image) (whole : IsTrue (is_image image)) (bits : Findings) (count : ℕ) (checks : Checks image bits count) where
  found_sound : bits_of bits ≡ 0 → (tree : Tree) × ConsistentAs image count tree
  found_sound none =
      let clean : walk image ≡ None = checks.empty.0 none in
      let k = (walk_finds_consistency image whole).0 clean in
      let c = checks.sound clean in
      let same : k.2.stands.metadata.super_rec ≡ c.0 = cc (sym k.2.stands.metadata.numbers.spelled ∙ c.1) in
      let is : k.0 ≡ count = sym k.2.stands.count_of_calls ∙ ap (λ r. r.count) same ∙ c.2 in
      (k.1, subst (λ n. ConsistentAs image n k.1) is k.2)

  found_damaged : bits_of bits ≢ 0 → readable_pages image ≢ [] → (place : Place) × IsDamaged image place
  found_damaged some readable = by (walk image) refl
    where
      by : (fault : Option Place) → walk image ≡ fault → (place : Place) × IsDamaged image place
      by None is = absurd (some (checks.empty.1 is))
      by (Some place) is = (place, record { readable = readable; first = is; not_sound = λ sound. some (checks.empty.1 ((walk_finds_consistency image whole).1 sound)) })

-- A check that found out what there is. The counts of faults before it are these.
pub check_found : (walk_finds_consistency : WalkDecidesConsistency) (tells : Type 0) (bits : Findings) (count reads writes : ℕ) (sink sink' : Stream) (medium middle medium' : Medium) (order : List Ordered) (syncs : List Synced) (status : ℕ)
    → reads ≡ medium.counts.read_faults → writes ≡ medium.counts.write_faults → medium' ≡ middle
    → (tells → IsTrue (is_image medium.contents)) → (tells → Checks medium.contents bits count) → (tells → readable_pages medium.contents ≢ [])
    → Untouched tells medium middle → order ≡ [] → syncs ≡ []
    → (bits_of bits ≡ 0 → Prints sink sink' (sound_text count) × DoneStatus status (Rose reads middle.counts.read_faults ⊎ Rose writes middle.counts.write_faults) sink sink' (sound_text count))
    → (bits_of bits ≢ 0 → (status ≡ 8) × Prints sink sink' (findings_text bits))
    → CheckEnds tells sink sink' medium medium' order syncs status
check_found walk_finds_consistency tells bits count reads writes sink sink' medium middle medium' order syncs status is_reads is_writes same whole checks readable untouched no_lines no_syncs sound faults =
    subst (λ m. CheckEnds tells sink sink' medium m order syncs status) (sym same) (by (bits_of bits) refl)
  where
    by : (n : ℕ) → bits_of bits ≡ n → CheckEnds tells sink sink' medium middle order syncs status
    by zero none =
        let told = sound none in
        is_sound (sound_text count)
        (record { count = count; text_is = refl; sound = λ t. found_sound walk_finds_consistency medium.contents (whole t) bits count (checks t) none })
        (record { prints = told.0; untouched = untouched; no_lines = no_lines; no_syncs = no_syncs })
        (done_since reads writes sink sink' medium middle status (sound_text count) is_reads is_writes told.1)
    by (suc n) is =
        let some : bits_of bits ≢ 0 = λ none. positive n (sym is ∙ none) in
        let told = faults some in
        finds (findings_text bits) told.0
        (record {
          found = bits;
          some = some;
          text_is = refl;
          are = λ t. (checks t).findings;
          all = λ t. (checks t).each;
          first = λ t. found_damaged walk_finds_consistency medium.contents (whole t) bits count (checks t) some (readable t);
        })
        (record { prints = told.1; untouched = untouched; no_lines = no_lines; no_syncs = no_syncs })
      where
        positive : (n : ℕ) → suc n ≡ 0 → ⊥
        positive n h = omega (arith, h)
