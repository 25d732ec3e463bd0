-- Which bytes a call gives a page that lies wholly in its range.
use Rattle.std.proofs.Common.{◌≡◌, ℕ, ◌+◌, ◌-◌, ◌*◌, ◌≤◌, ◌∙◌, arith, Bool, true, false, cond, List, ◌++◌, length, take, drop, replicate, Some, None, refl, sym, ap, subst}
use Rattle.std.specs.Int.{div_ceil}
use Rattle.std.specs.Prelude.{IsSome, IsTrue, is_some}
use Rattle.std.proofs.lemmas.Bool.Decides.{nat_tests}
use Rattle.std.proofs.lemmas.List.{append-nil, length-drop, length-take}
use Rattle.nl_field.specs.Bytes.{zeros}
use Rattle.nl_field.specs.declared.pointer.Tag.{Tag}
use Rattle.nl_tree.specs.Event.{is_whole, page_given}
use Rattle.nl_tree.specs.declared.call.Call.{Call}
use Rattle.nl_tree.specs.declared.call.Call.TheVariants.{Mkdir, Rmdir, Create, Unlink, Rename, Write, Fill, Read, Truncate, Stat, List as ListCall, Sync, Clean}
use Rattle.nl_volume_stage.specs.Staging.{IfPage, IsNextTag}
use Rattle.nl_volume_stage.specs.declared.next.Next.{Next}
use Rattle.nl_volume_stage.specs.declared.next.Next.TheVariants as next

given_by : (b : Bool) (page : List ℕ) → IsSome (cond b (Some page) None) → b ≡ true
given_by true page some = refl
given_by false page some = absurd (cc some)

pub write_whole : (path : List (List ℕ)) (from : ℕ) (bytes : List ℕ) (index : ℕ) → IsSome (page_given (Write path from bytes) index) → is_whole from (length bytes) index ≡ true
unfolding page_given
write_whole path from bytes index some = given_by (is_whole from (length bytes) index) (take 4096 (drop (4096 * index - from) bytes)) some

pub write_given : (path : List (List ℕ)) (from : ℕ) (bytes : List ℕ) (index : ℕ) → is_whole from (length bytes) index ≡ true → page_given (Write path from bytes) index ≡ Some (take 4096 (drop (4096 * index - from) bytes))
unfolding page_given
write_given path from bytes index whole = ap (λ b. cond b (Some (take 4096 (drop (4096 * index - from) bytes))) None) whole

pub fill_whole : (path : List (List ℕ)) (from len byte index : ℕ) → IsSome (page_given (Fill path from len byte) index) → is_whole from len index ≡ true
unfolding page_given
fill_whole path from len byte index some = given_by (is_whole from len index) (replicate 4096 byte) some

pub fill_given : (path : List (List ℕ)) (from len byte index : ℕ) → is_whole from len index ≡ true → page_given (Fill path from len byte) index ≡ Some (replicate 4096 byte)
unfolding page_given
fill_given path from len byte index whole = ap (λ b. cond b (Some (replicate 4096 byte)) None) whole

-- no other call gives a page
pub none_given : (call : Call) (index : ℕ) → ((path : List (List ℕ)) (from : ℕ) (bytes : List ℕ) → call ≡ Write path from bytes → ⊥) → ((path : List (List ℕ)) (from len byte : ℕ) → call ≡ Fill path from len byte → ⊥) → IsSome (page_given call index) → ⊥
unfolding page_given
none_given (Mkdir path) index w f some = cc some
none_given (Rmdir path) index w f some = cc some
none_given (Create path) index w f some = cc some
none_given (Unlink path) index w f some = cc some
none_given (Rename from to) index w f some = cc some
none_given (Write path from bytes) index w f some = w path from bytes refl
none_given (Fill path from len byte) index w f some = f path from len byte refl
none_given (Read path from len) index w f some = cc some
none_given (Truncate path size) index w f some = cc some
none_given (Stat path) index w f some = cc some
none_given (ListCall path) index w f some = cc some
none_given Sync index w f some = cc some
none_given Clean index w f some = cc some

-- ---- the next page of a call

pub if_page : (r : Next) (P Q : Tag → Type 0) → ((tag : Tag) → P tag → Q tag) → IfPage r P → IfPage r Q
if_page (next.Page tag) P Q step is = step tag is
if_page next.Whole P Q step is = is
if_page (next.Lost w f) P Q step is = is
if_page next.Fault P Q step is = is

pub next_write : (call : Call) (path : List (List ℕ)) (from : ℕ) (bytes : List ℕ) (place : ℕ) (tag : Tag) → call ≡ Write path from bytes → (tag.index ≡ div_ceil from 4096 + place) × IsTrue (is_whole from (length bytes) tag.index) → IsNextTag call place tag
next_write call path from bytes place tag is at = subst (λ c. IsNextTag c place tag) (sym is) (record { index = at.0; whole = ap is_some (write_given path from bytes tag.index at.1) })

pub next_fill : (call : Call) (path : List (List ℕ)) (from len byte place : ℕ) (tag : Tag) → call ≡ Fill path from len byte → (tag.index ≡ div_ceil from 4096 + place) × IsTrue (is_whole from len tag.index) → IsNextTag call place tag
next_fill call path from len byte place tag is at = subst (λ c. IsNextTag c place tag) (sym is) (record { index = at.0; whole = ap is_some (fill_given path from len byte tag.index at.1) })

-- ---- pages that are full

pub full_head : (xs : List ℕ) → length xs ≡ 4096 → xs ++ zeros (4096 - length xs) ≡ xs
unfolding zeros
full_head xs len = ap (λ n. xs ++ zeros n) (let none : 4096 - length xs ≡ 0 = omega (arith, len) in none) ∙ append-nil xs

-- a part of bytes that fills a page
pub part_head : (k s t : ℕ) (bytes : List ℕ) → k ≡ 4096 → s ≡ t → t + 4096 ≤ length bytes → take k (drop s bytes) ++ zeros (4096 - length (take k (drop s bytes))) ≡ take 4096 (drop t bytes)
part_head k s t bytes whole same fits =
    let is : take k (drop s bytes) ≡ take 4096 (drop t bytes) = λ i. take (whole i) (drop (same i) bytes) in
    let one = length-take 4096 (drop t bytes) in
    let two = length-drop t bytes in
    let len : length (take 4096 (drop t bytes)) ≡ 4096 = omega (arith, one, two, fits) in
    ap (λ xs. xs ++ zeros (4096 - length xs)) is ∙ full_head (take 4096 (drop t bytes)) len

pub whole_parts : (from len index : ℕ) → is_whole from len index ≡ true → (from ≤ 4096 * index) × (4096 * index + 4096 ≤ from + len)
whole_parts from len index e = (grind (arith, nat_tests, e), grind (arith, nat_tests, e))
