-- All laws of a put.
use Rattle.std.proofs.Common.{◌≡◌, ◌⊎◌, ℕ, true, List, length, refl, sym, inl, inr}
use Rattle.nl_field.specs.declared.shape.Shape.{Shape}
use Rattle.nl_tree.specs.Replay.{ReplyFits}
use Rattle.nl_tree.specs.Step.{effect_of}
use Rattle.nl_tree.specs.Tree.{Tree}
use Rattle.nl_tree.specs.declared.call.Call.TheVariants.{Create, Rename, Write}
use Rattle.nl_tree.specs.declared.reply.Refusal.{Refusal}
use Rattle.nl_tree.specs.declared.reply.Reply.{Reply}
use Rattle.nl_tree.specs.declared.reply.Reply.TheVariants.{Count, Done, No}
use Rattle.nl_put_tree.specs.Putting.{IsBeside, IsDue, IsUnderWay, IsWriting, Path, is_fault}
use Rattle.nl_put_tree.specs.Laws.{IsDoneOrNot, PutLaws}
use Rattle.nl_put_tree.proofs.Contents.{read_back}
use Rattle.nl_put_tree.proofs.Renaming.{other_path, renamed}
use Rattle.nl_put_tree.proofs.Steps.{answered, created, refused, synced, unlinked, written_so}

create_answers : (shape : Shape) (now : Tree) (own : Path) (reply : Reply) → IsDue shape now (Create own) reply → IsDoneOrNot reply
unfolding effect_of
create_answers shape now own reply due = answered shape now (Create own) Done reply refl due

rename_answers : (shape : Shape) (now : Tree) (own path : Path) (reply : Reply) → IsDue shape now (Rename own path) reply → IsDoneOrNot reply
unfolding effect_of
rename_answers shape now own path reply due = answered shape now (Rename own path) Done reply refl due

write_answers : (shape : Shape) (now : Tree) (own : Path) (from : ℕ) (bytes : List ℕ) (reply : Reply) → IsDue shape now (Write own from bytes) reply
    → ((n : ℕ) × (reply ≡ Count n)) ⊎ (((r : Refusal) × (reply ≡ No r)) ⊎ (is_fault reply ≡ true))
unfolding effect_of
write_answers shape now own from bytes reply due = by (answered shape now (Write own from bytes) (Count (length bytes)) reply refl due)
  where
    by : ReplyFits (Count (length bytes)) reply ⊎ (((r : Refusal) × (reply ≡ No r)) ⊎ (is_fault reply ≡ true))
        → ((n : ℕ) × (reply ≡ Count n)) ⊎ (((r : Refusal) × (reply ≡ No r)) ⊎ (is_fault reply ≡ true))
    by (inl count) = inl (length bytes, count)
    by (inr other) = inr other

writes : (tree now : Tree) (own path : Path) (written bytes : List ℕ) → IsBeside path own → IsWriting tree own written now → IsUnderWay tree own path bytes now
writes tree now own path written bytes beside w = record {
  at_path = inl (w.others path (λ e. other_path path own beside (sym e)));
  others = λ q ne ne'. w.others q ne;
}

pub put_laws : PutLaws
put_laws = record {
  refused = refused;
  create_answers = create_answers;
  created = created;
  write_answers = write_answers;
  written = written_so;
  rename_answers = rename_answers;
  renamed = λ shape tree now own path bytes is beside w due. renamed tree now own path bytes is beside w shape due;
  unlinked = λ shape tree now own bytes reply fits w due. unlinked shape tree now own bytes fits w reply due;
  synced = synced;
  begins = λ tree own path bytes. record { at_path = inl refl; others = λ q ne ne'. refl };
  writes = writes;
  puts = λ tree now own path bytes p. record { at_path = inr p.holds; others = λ q ne ne'. p.others q ne' };
  read_back = read_back;
}
