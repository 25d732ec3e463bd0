-- A file's record with another pointer, or another address.
use Rattle.std.proofs.Common.{◌≡◌, ◌≢◌, ℕ, zero, suc, ◌<◌, true, ◌&&◌, ◌==◌, List, [], ◌∷◌, length, get_or, refl, sym, ap, ◌∙◌, ◌⊎◌, inl, inr, nat_le, arith}
use Rattle.std.proofs.Math.ListN.{set}
use Rattle.std.proofs.lemmas.Bool.{and_parts, and_from, cases_eq, eq-eqb, eqb-true}
use Rattle.std.proofs.lemmas.List.{get_or-set_same, get_or-set_other, length-set}
use Rattle.std.specs.List.{list_all}
use Rattle.std.specs.Prelude.{IsTrue}
use Rattle.nl_field.specs.Inode.{is_inode, is_inode_of_kind}
use Rattle.nl_field.specs.Numbers.{max_file_size}
use Rattle.nl_field.specs.Pointers.{is_pointer}
use Rattle.nl_field.specs.declared.inode.InodeRec.{InodeRec}
use Rattle.nl_field.specs.declared.inode.Kind.{Kind}
use Rattle.nl_field.specs.declared.inode.Kind.TheVariants.{File}
use Rattle.nl_field.specs.declared.pointer.Pointer.{Pointer}
use Rattle.nl_indirect.specs.Ranges.{IsFileRecord}

-- what the spelling of a file's record asks
pub record FileParts (rec : InodeRec) : Type 0 where
  pub direct : length rec.direct ≡ 8
  pub addresses : length rec.addresses ≡ 16
  pub size : nat_le rec.size max_file_size ≡ true
  pub pointers : list_all is_pointer rec.direct ≡ true

pub file-parts : (rec : InodeRec) → IsFileRecord rec → FileParts rec
unfolding is_inode_of_kind
file-parts rec is =
    let p = and_parts (length rec.direct == 8 && length rec.addresses == 16) (is_inode_of_kind rec.kind rec) is.spelled in
    let q = and_parts (length rec.direct == 8) (length rec.addresses == 16) p.0 in
    let r = and_parts (nat_le rec.size max_file_size) (list_all is_pointer rec.direct) (sym (ap (λ (k : Kind). is_inode_of_kind k rec) is.kind) ∙ p.1) in
    record { direct = eqb-true _ _ q.0; addresses = eqb-true _ _ q.1; size = r.0; pointers = r.1 }

pub file-spelled : (rec : InodeRec) → rec.kind ≡ File → FileParts rec → IsTrue (is_inode rec)
unfolding is_inode_of_kind
file-spelled rec kind is =
    and_from (length rec.direct == 8 && length rec.addresses == 16) (is_inode_of_kind rec.kind rec)
    (and_from (length rec.direct == 8) (length rec.addresses == 16) (eq-eqb _ _ is.direct) (eq-eqb _ _ is.addresses))
    (ap (λ (k : Kind). is_inode_of_kind k rec) kind ∙ and_from (nat_le rec.size max_file_size) (list_all is_pointer rec.direct) is.size is.pointers)

all-set : (xs : List Pointer) (i : ℕ) (p : Pointer) → is_pointer p ≡ true → list_all is_pointer xs ≡ true → list_all is_pointer (set xs i p) ≡ true
all-set [] i p is all = refl
all-set (x ∷ xs) zero p is all = and_from (is_pointer p) (list_all is_pointer xs) is (and_parts (is_pointer x) (list_all is_pointer xs) all).1
all-set (x ∷ xs) (suc i) p is all =
    and_from (is_pointer x) (list_all is_pointer (set xs i p)) (and_parts (is_pointer x) (list_all is_pointer xs) all).0 (all-set xs i p is (and_parts (is_pointer x) (list_all is_pointer xs) all).1)

abbrev pub with-pointer : InodeRec → ℕ → Pointer → InodeRec
with-pointer rec i p = record { kind = rec.kind; generation = rec.generation; size = rec.size; direct = set rec.direct i p; addresses = rec.addresses }

abbrev pub with-address : InodeRec → ℕ → ℕ → InodeRec
with-address rec r a = record { kind = rec.kind; generation = rec.generation; size = rec.size; direct = rec.direct; addresses = set rec.addresses r a }

pub file-with-pointer : (rec : InodeRec) (i : ℕ) (p : Pointer) → IsFileRecord rec → is_pointer p ≡ true → IsFileRecord (with-pointer rec i p)
file-with-pointer rec i p is spelled = record {
  kind = is.kind;
  spelled = file-spelled (with-pointer rec i p) is.kind (record {
    direct = length-set rec.direct i p ∙ parts.direct;
    addresses = parts.addresses;
    size = parts.size;
    pointers = all-set rec.direct i p spelled parts.pointers;
  });
  differ = is.differ;
}
  where
    parts : FileParts rec
    parts = file-parts rec is

pub file-with-address : (rec : InodeRec) (r a : ℕ) → IsFileRecord rec → r < 16 → (a ≢ 0 → (s : ℕ) → get_or rec.addresses s 0 ≢ a) → IsFileRecord (with-address rec r a)
file-with-address rec r a is below unused = record {
  kind = is.kind;
  spelled = file-spelled (with-address rec r a) is.kind (record { direct = parts.direct; addresses = length-set rec.addresses r a ∙ parts.addresses; size = parts.size; pointers = parts.pointers });
  differ = λ k s far e. differ k s far e (cases_eq k r) (cases_eq s r);
}
  where
    parts : FileParts rec
    parts = file-parts rec is

    here : get_or (set rec.addresses r a) r 0 ≡ a
    here = get_or-set_same rec.addresses r a 0 (let l = parts.addresses in omega (arith, below, l))

    at : (k : ℕ) → k ≡ r → get_or (set rec.addresses r a) k 0 ≡ a
    at k e = ap (λ (n : ℕ). get_or (set rec.addresses r a) n 0) e ∙ here

    off : (k : ℕ) → k ≢ r → get_or (set rec.addresses r a) k 0 ≡ get_or rec.addresses k 0
    off k far = get_or-set_other rec.addresses r k a 0 far

    differ : (k s : ℕ) → get_or (set rec.addresses r a) k 0 ≢ 0 → get_or (set rec.addresses r a) s 0 ≡ get_or (set rec.addresses r a) k 0 → (k ≡ r) ⊎ (k ≡ r → ⊥) → (s ≡ r) ⊎ (s ≡ r → ⊥) → s ≡ k
    differ k s far e (inl ek) (inl es) = es ∙ sym ek
    differ k s far e (inl ek) (inr fs) = absurd (unused (λ z. far (at k ek ∙ z)) s (sym (off s fs) ∙ e ∙ at k ek))
    differ k s far e (inr fk) (inl es) = absurd (unused (λ z. far (sym e ∙ at s es ∙ z)) k (sym (off k fk) ∙ sym e ∙ at s es))
    differ k s far e (inr fk) (inr fs) = is.differ k s (λ z. far (off k fk ∙ z)) (sym (off s fs) ∙ e ∙ off k fk)
