-- One place of a directory, whose page is there or not.
use Rattle.std.proofs.Common.{◌≡◌, ℕ, ◌%◌, ◌<◌, ◌≤◌, cond, List, [], ◌∷◌, filter_map, refl, sym, ap, ◌∙◌, Option, Some, None, option_map, is_some, nat_lt, false}
use Rattle.std.proofs.lemmas.Bool.{le-ltb, lt-ltb}
use Rattle.std.specs.List.{cons_option}
use Rattle.std.specs.Prelude.{option_to_list}
use Rattle.nl_field.specs.EntryRecord.{entry_of}
use Rattle.nl_field.specs.declared.entry.EntryRec.{EntryRec}
use Rattle.nl_field.specs.declared.inode.InodeRec.{InodeRec}
use Rattle.nl_meta.specs.Committed.{VirtualMap}
use Rattle.nl_meta.specs.Nodes.{address_of_place, bytes_of_place, slot_in}
use Rattle.nl_dir.proofs.PlaceFacts.{shown}
use Rattle.nl_recover.specs.Entries.{place_there}
use Rattle.nl_recover.specs.Reaching.{target_of}

module _ (pages : VirtualMap) (n : ℕ) (rec : InodeRec) (i a : ℕ) (at : a ≡ address_of_place rec i) where
  pub place-absent : is_some (pages a) ≡ false → place_there pages n rec i ≡ []
  place-absent gone =
      ap (λ b. cond b (record { dir = n; is_entry = nat_lt i rec.size; bytes = bytes_of_place pages rec i } ∷ []) []) (ap (λ (v : ℕ). is_some (pages v)) (sym at) ∙ gone)

  pub place-is : (main : List ℕ) → pages a ≡ Some main → place_there pages n rec i ≡ record { dir = n; is_entry = nat_lt i rec.size; bytes = slot_in 64 (i % 64) main } ∷ []
  place-is main is =
      ap (λ b. cond b (record { dir = n; is_entry = nat_lt i rec.size; bytes = bytes_of_place pages rec i } ∷ []) []) (ap is_some there)
      ∙ ap (λ (bytes : List ℕ). record { dir = n; is_entry = nat_lt i rec.size; bytes = bytes } ∷ []) (shown pages rec i main there)
    where
      there : pages (address_of_place rec i) ≡ Some main
      there = ap pages (sym at) ∙ is

  -- ---- the node that its entry names

  single : (o : Option ℕ) → cons_option o [] ≡ option_to_list o
  single None = refl
  single (Some x) = refl

  target-here : (main : List ℕ) → pages a ≡ Some main
      → filter_map target_of (place_there pages n rec i) ≡ option_to_list (cond (nat_lt i rec.size) (option_map (λ e. e.ino) (entry_of (slot_in 64 (i % 64) main))) None)
  target-here main is = ap (filter_map target_of) (place-is main is) ∙ single (cond (nat_lt i rec.size) (option_map (λ e. e.ino) (entry_of (slot_in 64 (i % 64) main))) None)

  pub none-here : is_some (pages a) ≡ false → [] ≡ filter_map target_of (place_there pages n rec i)
  none-here gone = sym (ap (filter_map target_of) (place-absent gone))

  pub behind-here : (main : List ℕ) → pages a ≡ Some main → rec.size ≤ i → [] ≡ filter_map target_of (place_there pages n rec i)
  behind-here main is h =
      sym (target-here main is ∙ ap (λ b. option_to_list (cond b (option_map (λ (e : EntryRec). e.ino) (entry_of (slot_in 64 (i % 64) main))) None)) (le-ltb i rec.size h))

  pub entry-here : (main : List ℕ) (o : Option EntryRec) → pages a ≡ Some main → i < rec.size → o ≡ entry_of (slot_in 64 (i % 64) main)
      → option_to_list (option_map (λ e. e.ino) o) ≡ filter_map target_of (place_there pages n rec i)
  entry-here main o is h e =
      sym (target-here main is ∙ ap (λ b. option_to_list (cond b (option_map (λ (e : EntryRec). e.ino) (entry_of (slot_in 64 (i % 64) main))) None)) (lt-ltb i rec.size h)
      ∙ ap (λ (o : Option EntryRec). option_to_list (option_map (λ e. e.ino) o)) (sym e))
