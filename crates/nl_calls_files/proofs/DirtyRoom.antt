-- The pages that become dirty where a file takes a pointer.
use Rattle.std.proofs.Common.{◌≡◌, ◌≢◌, ◌⊎◌, inl, inr, ℕ, ◌/◌, ◌≤◌, ◌<◌, ◌==◌, ◌||◌, Bool, true, false, List, length, Option, Some, None, is_some, refl, ap, ◌∙◌, arith, nat_lt}
use Rattle.std.proofs.lemmas.Bool.{both_ways, cases_eq, cond-false, le-leb, lt-ltb}
use Rattle.std.specs.List.{list_any}
use Rattle.std.specs.Prelude.{IsTrue}
use Rattle.nl_field.specs.Inode.{is_inode}
use Rattle.nl_field.specs.Numbers.{max_file_size}
use Rattle.nl_field.specs.declared.inode.InodeRec.{InodeRec}
use Rattle.nl_field.specs.declared.pointer.Pointer.{Pointer}
use Rattle.nl_inode.specs.Nodes.{Spaces, page_of_node}
use Rattle.nl_indirect.specs.Ranges.{IsFileRecord, address_of}
use Rattle.nl_indirect.proofs.Records.{file-parts, file-spelled}
use Rattle.nl_meta.specs.Pages.{Pages, besides_0, has_room, is_dirty, most, with_address}
use Rattle.nl_meta.proofs.RunningProofs.{not-with}
use Rattle.nl_files.specs.Cutting.{Cuts, Rewrites}
use Rattle.nl_files.specs.Installing.{Installs}
use Rattle.nl_calls_files.specs.Taking.{HasRoomToTake, clean_at}

or_true : (a b : Bool) → (a || b || true) ≡ true
or_true true b = refl
or_true false true = refl
or_true false false = refl

or_second : (a c : Bool) → (a || true || c) ≡ true
or_second true c = refl
or_second false c = refl

-- where fewer than the most are dirty, any page may become so
pub few_has_room : (p : Pages) (v : ℕ) → length (besides_0 p.dirty) < most → has_room p v ≡ true
few_has_room p v few = ap (λ b. v == 0 || is_dirty p v || b) (lt-ltb (length (besides_0 p.dirty)) most few) ∙ or_true (v == 0) (is_dirty p v)

pub dirty_room : (p : Pages) (v : ℕ) → is_dirty p v ≡ true → has_room p v ≡ true
dirty_room p v is = ap (λ b. v == 0 || b || nat_lt (length (besides_0 p.dirty)) most) is ∙ or_second (v == 0) (nat_lt (length (besides_0 p.dirty)) most)

-- a page that is dirty stays so
pub still_dirty : (a : ℕ) (xs : List ℕ) (v : ℕ) → list_any (λ b. b == v) xs ≡ true → list_any (λ b. b == v) (with_address a xs) ≡ true
still_dirty a xs v is = by (list_any (λ b. b == v) (with_address a xs)) refl
  where
    by : (b : Bool) → list_any (λ b. b == v) (with_address a xs) ≡ b → b ≡ true
    by true e = refl
    by false e = absurd (both_ways (list_any (λ b. b == v) xs) (not-with a xs v e).1 is)

module _ (index : ℕ) (to : Pointer) (was is : InodeRec) (old new : Pages) (s t : Spaces) (i : Installs index to was is old new s t) where
  pub stays_dirty : (v : ℕ) → is_dirty old v ≡ true → is_dirty new v ≡ true
  stays_dirty v dirty = by (cases_eq (address_of is index) 0) i.fresh refl
    where
      by : (address_of is index ≡ 0) ⊎ (address_of is index ≢ 0) → (o : Option ℕ) → i.fresh ≡ o → is_dirty new v ≡ true
      by (inl none) o e = ap (λ (p : Pages). is_dirty p v) (i.stores.pages.same none) ∙ dirty
      by (inr far) None e = ap (λ (p : Pages). is_dirty p v) (i.stores.pages.written far e) ∙ still_dirty (address_of is index) old.dirty v dirty
      by (inr far) (Some a) e = ap (λ (xs : List ℕ). list_any (λ b. b == v) xs) (i.stores.pages.begun (ap is_some e)).dirty ∙ still_dirty (address_of is index) old.dirty v dirty

  pub node_has_room : (n : ℕ) → HasRoomToTake old was n index → has_room new (page_of_node n) ≡ true
  node_has_room n room = by (is_dirty old (page_of_node n)) refl
    where
      by : (b : Bool) → is_dirty old (page_of_node n) ≡ b → has_room new (page_of_node n) ≡ true
      by true e = dirty_room new (page_of_node n) (stays_dirty (page_of_node n) e)
      by false e =
          let one : clean_at old (page_of_node n) ≡ 1 = cond-false (is_dirty old (page_of_node n)) 0 1 e in
          let more = i.stores.pages.one_more in
          few_has_room new (page_of_node n) (omega (arith, one, more, room))

-- a file's record with another size has a spelling
pub sized_spelled : (rec : InodeRec) (size : ℕ) → IsFileRecord rec → size ≤ 16809984 → IsTrue (is_inode (record { kind = rec.kind; generation = rec.generation; size = size; direct = rec.direct; addresses = rec.addresses }))
sized_spelled rec size is low =
    let parts = file-parts rec is in
    file-spelled (record { kind = rec.kind; generation = rec.generation; size = size; direct = rec.direct; addresses = rec.addresses }) is.kind
    (record { direct = parts.direct; addresses = parts.addresses; size = le-leb size max_file_size low; pointers = parts.pointers })

-- ---- a file is cut

module _ (size : ℕ) (partial : Option Pointer) (was is : InodeRec) (old new : Pages) (s t : Spaces) (c : Cuts size partial was is old new s t) where
  cut_stays_dirty : (v : ℕ) → is_dirty old v ≡ true → is_dirty new v ≡ true
  cut_stays_dirty v dirty = by c.written
    where
      by : (new ≡ old) ⊎ Rewrites (address_of is (size / 4096)) old new → is_dirty new v ≡ true
      by (inl same) = ap (λ (p : Pages). is_dirty p v) same ∙ dirty
      by (inr r) = ap (λ (p : Pages). is_dirty p v) r.page ∙ still_dirty (address_of is (size / 4096)) old.dirty v dirty

  pub cut_has_room : (n : ℕ) → HasRoomToTake old was n (size / 4096) → has_room new (page_of_node n) ≡ true
  cut_has_room n room = by (is_dirty old (page_of_node n)) refl
    where
      by : (b : Bool) → is_dirty old (page_of_node n) ≡ b → has_room new (page_of_node n) ≡ true
      by true e = dirty_room new (page_of_node n) (cut_stays_dirty (page_of_node n) e)
      by false e =
          let one : clean_at old (page_of_node n) ≡ 1 = cond-false (is_dirty old (page_of_node n)) 0 1 e in
          let more = c.one_more in
          few_has_room new (page_of_node n) (omega (arith, one, more, room))
