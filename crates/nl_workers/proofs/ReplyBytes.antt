-- How many bytes a reply has.
use Rattle.std.proofs.Common.{◌≡◌, ℕ, ◌≤◌, ◌-◌, min, Bool, true, false, cond, nat_le, List, [], length, Option, Some, None, refl, sym, ◌∙◌, subst, arith}
use Rattle.std.proofs.lemmas.Bool.Decides.{nat_tests}
use Rattle.std.proofs.lemmas.List.FromFn.{length-map-range_with_len}
use Rattle.nl_field.specs.FileContent.{FileContent, bytes_read, byte_of}
use Rattle.nl_field.specs.Numbers.{max_bytes}
use Rattle.nl_field.specs.declared.shape.Shape.{Shape}
use Rattle.nl_tree.specs.Calls.{read_length}
use Rattle.nl_tree.specs.Replay.{step_marked}
use Rattle.nl_tree.specs.Step.{step, effect_of, outcome_unless}
use Rattle.nl_tree.specs.Tree.{Tree, node_at, content_of}
use Rattle.nl_tree.specs.declared.call.Call.{Call}
use Rattle.nl_tree.specs.declared.call.Call.TheVariants.{Mkdir, Rmdir, Create, Unlink, Rename, Write, Fill, Read, Truncate, Stat, List as ListCall, Sync, Clean}
use Rattle.nl_tree.specs.declared.call.Line.{Line}
use Rattle.nl_tree.specs.declared.reply.FaultReply.{FaultReply}
use Rattle.nl_tree.specs.declared.reply.Refusal.{Refusal}
use Rattle.nl_tree.specs.declared.turn.Answered.{Answered}
use Rattle.nl_turns.specs.History.{Opening, tree_after, fault_of}
use Rattle.nl_turns.specs.Seat.{Passed, entries}
use Rattle.nl_turns.specs.Served.{fault_mark}
use Rattle.nl_workers.specs.Placed.{IsDueAt, IsAnswered}
use Rattle.nl_workers.specs.Table.{kept_bytes}

read_few : (file : FileContent) (from len : ℕ) → length (bytes_read file from len) ≤ len
unfolding bytes_read
read_few file from len = let e = length-map-range_with_len (byte_of file) from (min len (file.size - from)) in grind (arith, e)

effect_few : (tree : Tree) (call : Call) → length (effect_of tree call).bytes ≤ max_bytes → length (effect_of tree call).bytes ≤ read_length call
unfolding effect_of
effect_few tree (Mkdir path) h = omega arith
effect_few tree (Create path) h = omega arith
effect_few tree (Rmdir path) h = omega arith
effect_few tree (Unlink path) h = omega arith
effect_few tree (Rename from to) h = omega arith
effect_few tree (Write path from bytes) h = omega arith
effect_few tree (Fill path from len byte) h = omega arith
effect_few tree (Read path from len) h = read_few (content_of (node_at tree path)) from len
effect_few tree (Truncate path size) h = omega arith
effect_few tree (Stat path) h = omega arith
effect_few tree (ListCall path) h = h
effect_few tree Sync h = omega arith
effect_few tree Clean h = omega arith

unless_few : (tree : Tree) (call : Call) (r : Option Refusal) → length (outcome_unless tree (effect_of tree call) r).bytes ≤ max_bytes → length (outcome_unless tree (effect_of tree call) r).bytes ≤ read_length call
unless_few tree call None h = effect_few tree call h
unless_few tree call (Some refusal) h = omega arith

step_few : (shape : Shape) (tree : Tree) (call : Call) → length (step shape tree call).bytes ≤ max_bytes → length (step shape tree call).bytes ≤ read_length call
unfolding step
step_few shape tree call h = unless_few tree call _ h

marked_few : (shape : Shape) (tree : Tree) (call : Call) (fault : Option FaultReply) → length (step_marked shape tree (call, fault)).bytes ≤ max_bytes → length (step_marked shape tree (call, fault)).bytes ≤ read_length call
marked_few shape tree call None h = step_few shape tree call h
marked_few shape tree call (Some fault) h = omega arith

kept_all : (room : ℕ) (bytes : List ℕ) → length bytes ≤ room → kept_bytes room bytes ≡ bytes
kept_all room bytes h = go (nat_le (length bytes) room) refl
  where
    go : (b : Bool) → nat_le (length bytes) room ≡ b → cond b bytes [] ≡ bytes
    go true e = refl
    go false e = absurd (grind (arith, nat_tests))

-- what is due is kept whole
due_kept : (tells : Type 0) (opening : Opening) (line : Line) (answered : Answered) (bytes : List ℕ) (history : List Passed) → length bytes ≤ max_bytes
    → IsDueAt tells opening line answered bytes (entries history) → IsDueAt tells opening line answered (kept_bytes (read_length line.call) bytes) (entries history)
due_kept tells opening line answered bytes history small due = record {
  place = due.place;
  ordinal = due.ordinal;
  answer = λ t.
      let a = due.answer t in
      let fits : length bytes ≤ read_length line.call = subst (λ (xs : List ℕ). length xs ≤ read_length line.call) (sym a.1)
      (marked_few opening.shape (tree_after opening (entries history)) line.call (fault_of (fault_mark answered.reply)) (subst (λ (xs : List ℕ). length xs ≤ max_bytes) a.1 small)) in
      (a.0, kept_all (read_length line.call) bytes fits ∙ a.1);
}

pub answered_kept : (tells : Type 0) (opening : Opening) (line : Line) (answered : Answered) (bytes : List ℕ) (history : List Passed) → length bytes ≤ max_bytes
    → IsAnswered tells opening line answered bytes history → IsAnswered tells opening line answered (kept_bytes (read_length line.call) bytes) history
answered_kept tells opening line answered bytes history small h =
    record { number = h.number; before = h.before; after = h.after; split = h.split; due = due_kept tells opening line answered bytes h.before small h.due }
