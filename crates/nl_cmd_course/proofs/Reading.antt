-- For a caller: a medium was only read before lines were run, so what is said from there on is said from before; and there are as many rows
-- as lines.
use Rattle.std.proofs.Common.{length, ap, ◌≡◌, inl, inr, ⊎_elim, ℕ, Bool, List, sym, subst, arith}
use Rattle.std.proofs.lemmas.List.{length-map}
use Rattle.std.proofs.lemmas.List.Sorted.{length_permutation}
use Rattle.nl_field.specs.Page.{Image}
use Rattle.nl_tree.specs.Causes.{Counts, MayBeExhausted}
use Rattle.nl_tree.specs.Tree.{Tree}
use Rattle.nl_tree.specs.declared.call.Line.{Line}
use Rattle.nl_tree.specs.declared.reply.Reply.{Reply}
use Rattle.nl_spec_image.specs.Crash.{Run, CrashesSafely}
use Rattle.nl_workers.specs.Table.{Row}
use Rattle.nl_spec_headline.specs.Course.{Course, RepliedLine, lines_in}
use Rattle.nl_spec_headline.specs.Headline.{AnswersByTree, IsYoung, OpensAs, CrashesLeavePrefixes, TellsSyncs}
use Rattle.nl_spec_headline.specs.Streams.{Medium, MediumRose}
use Rattle.nl_cmd_course.specs.declared.charges.Charges.{Charges}
use Rattle.nl_cmd_course.specs.Rounds.{LinesRan, syncs_of_rows}

-- what was left before the reading was left before it
pub stops_from : {I : Type 0} (opens : I → ℕ → Tree → Type 0) (earlier before left : ℕ → I → Type 0) (first start last : ℕ) (run : Run) → ((m : ℕ) (c : I) → before m c → earlier m c) → start ≡ first
    → CrashesSafely opens before left first last run → CrashesSafely opens earlier left start last run
stops_from opens earlier before left first start last run was same s = record {
  each = λ m c is. ⊎_elim (λ b. inl (was m c b)) (λ x. inr ((let low = x.0 in omega (arith, low, same)), x.1, x.2)) (s.each m c is);
}

module _ (tells : Type 0) (lines : List Line) (stops stops' : Run → Type 0) (earlier medium medium' : Medium) (rows : List Row) (lost worn : Bool) (charges : Charges) (course : Course)
    (contents : tells → medium.contents ≡ earlier.contents) (counts : medium.counts ≡ earlier.counts) (from : tells → (run : Run) → stops run → stops' run) where
  young_from : tells → IsYoung earlier.contents earlier.counts medium'.counts course → IsYoung medium.contents medium.counts medium'.counts course
  young_from t = subst (λ (x : Image × Counts). IsYoung x.0 x.1 medium'.counts course) (λ k. (sym (contents t) k, sym counts k))

  rose_from : (MediumRose earlier medium' → ⊥) → MediumRose medium medium' → ⊥
  rose_from none rose = none (subst (λ (x : Counts). MediumRose (record medium { counts = x }) medium') counts rose)

  stopped_from : tells → CrashesLeavePrefixes medium.contents medium.counts stops course → CrashesLeavePrefixes earlier.contents earlier.counts stops' course
  stopped_from t s =
      let here = subst (λ (x : Image × Counts). CrashesLeavePrefixes x.0 x.1 stops course) (λ k. (contents t k, counts k)) s in
      record { starts = here.starts; leaves = from t _ here.leaves }

  pub ran_from : LinesRan tells lines stops medium medium' rows lost worn charges course → LinesRan tells lines stops' earlier medium' rows lost worn charges course
  ran_from r = record {
    runs = record {
      opens = λ t. subst (λ (x : Image). OpensAs x course) (contents t) (r.runs.opens t);
      begins = r.runs.begins;
      order_is = r.runs.order_is;
      answers = subst (λ (x : Counts). AnswersByTree tells x medium'.counts course) counts r.runs.answers;
      syncs_are = subst (λ (x : Counts). TellsSyncs x medium'.counts course (syncs_of_rows rows)) counts r.runs.syncs_are;
      stopped = λ t young. stopped_from t (r.runs.stopped t (young_from t young));
      ends = λ t young none unworn. r.runs.ends t (young_from t young) (rose_from none) unworn;
    };
    causes = record { lost_is = r.causes.lost_is; worn_is = λ is. subst (λ (x : Counts). MayBeExhausted x medium'.counts course.next_stamp) counts (r.causes.worn_is is) };
    said = r.said;
    places = r.places;
    charged = r.charged;
  }

-- there are as many rows as lines
pub as_many_rows : (tells : Type 0) (lines : List Line) (stops : Run → Type 0) (medium medium' : Medium) (rows : List Row) (lost worn : Bool) (charges : Charges) (course : Course) → LinesRan tells lines stops medium medium' rows lost worn charges course → length rows ≡ length lines
as_many_rows tells lines stops medium medium' rows lost worn charges course r =
    let said = ap length r.said in
    let a = length-map {B = ℕ × Reply × List ℕ} rows (λ (row : Row). (row.line, row.answered.reply, row.bytes)) in
    let b = length-map {B = ℕ × Reply × List ℕ} course.answers (λ (x : RepliedLine). (x.line.line, x.reply, x.bytes)) in
    let c = length-map course.answers (λ (x : RepliedLine). x.line) in
    let d = length_permutation lines (lines_in course) r.runs.order_is.in_order.each_once in
    omega (arith, said, a, b, c, d)
