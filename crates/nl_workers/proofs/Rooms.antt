-- Room for one line more.
use Rattle.std.proofs.Common.{◌≡◌, ◌==◌, ℕ, zero, suc, ◌+◌, ◌≤◌, Bool, false, cond, List, [], ◌∷◌, ◌++◌, length, Some, refl, sym, ap, ◌∙◌, subst, arith}
use Rattle.std.proofs.lemmas.List.{length-map}
use Rattle.std.proofs.lemmas.List.Sums.{sum_by_push}
use Rattle.std.specs.Prelude.{slice_get, take, IfSome, Option}
use Rattle.nl_field.specs.Numbers.{max_bytes}
use Rattle.nl_tree.specs.Calls.{IsBounded, HasFewBytes, read_length}
use Rattle.nl_tree.specs.declared.call.Call.{Call}
use Rattle.nl_tree.specs.declared.call.Call.TheVariants.{Mkdir, Rmdir, Create, Unlink, Rename, Write, Fill, Read, Truncate, Stat, List as ListCall, Sync, Clean}
use Rattle.nl_tree.specs.declared.call.Line.{Line}
use Rattle.nl_callbacks.specs.Notices.{IsTaker}
use Rattle.nl_callbacks.specs.declared.notices.Notices.{Notices}
use Rattle.nl_workers.specs.Duties.{IsOutbox}
use Rattle.nl_workers.specs.Kit.{IsKit}
use Rattle.nl_workers.specs.declared.kit.Passes.{Passes}
use Rattle.nl_workers.specs.Fresh.{IsFreshStation, AreFresh}
use Rattle.nl_workers.specs.Table.{DeskState, DeskHasRoom, TableState, IsTableFor, lines_to_come, bytes_to_come, read_bytes_of_line}
use Rattle.nl_workers.specs.Placed.{one_if}
use Rattle.nl_workers.specs.Spots.{desks_of, losses_of}
use Rattle.nl_workers.specs.declared.station.Station.{Station}
use Rattle.nl_workers.proofs.Working.{take_snoc}

few_bytes : (call : Call) → HasFewBytes call → read_length call ≤ max_bytes
few_bytes (Mkdir path) h = omega arith
few_bytes (Create path) h = omega arith
few_bytes (Rmdir path) h = omega arith
few_bytes (Unlink path) h = omega arith
few_bytes (Rename from to) h = omega arith
few_bytes (Write path from bytes) h = omega arith
few_bytes (Fill path from len byte) h = omega arith
few_bytes (Read path from len) h = h
few_bytes (Truncate path size) h = omega arith
few_bytes (Stat path) h = omega arith
few_bytes (ListCall path) h = omega arith
few_bytes Sync h = omega arith
few_bytes Clean h = omega arith

pub bounded_few : (call : Call) → IsBounded call → read_length call ≤ 65536
bounded_few call b = few_bytes call b.bytes

pub room_more : (worker at : ℕ) (lines : List Line) (line : Line) → slice_get lines at ≡ Some line
    → (lines_to_come worker (take (at + 1) lines) ≡ lines_to_come worker (take at lines) + one_if (line.worker == worker)) × (bytes_to_come worker (take (at + 1) lines) ≡ bytes_to_come worker (take at lines) + read_bytes_of_line worker line)
room_more worker at lines line e = (
  ap (lines_to_come worker) (take_snoc lines at line e) ∙ sum_by_push (λ (l : Line). cond (l.worker == worker) 1 0) (take at lines) line,
  ap (bytes_to_come worker) (take_snoc lines at line e) ∙ sum_by_push (read_bytes_of_line worker) (take at lines) line,
)

fresh_either : (xs : List Station) (x y : Station) (i : ℕ) (P : ℕ → Station → Type 0) → ((w : ℕ) (s : Station) → slice_get xs w ≡ Some s → P w s) → P (length xs) x → slice_get (xs ++ x ∷ []) i ≡ Some y → P i y
fresh_either [] x y zero P h p e = let same : x ≡ y = cc e in subst (P 0) same p
fresh_either [] x y (suc i) P h p e = absurd (cc e)
fresh_either (z ∷ xs) x y zero P h p e = h 0 y e
fresh_either (z ∷ xs) x y (suc i) P h p e = fresh_either xs x y i (λ w s. P (suc w) s) (λ w s f. h (suc w) s f) p e

-- one station more is fresh
pub fresh_more : (lines : List Line) (xs ys : List Station) (x : Station) (worker : ℕ) → length xs ≡ worker → ys ≡ xs ++ x ∷ [] → ((w : ℕ) (s : Station) → slice_get xs w ≡ Some s → IsFreshStation lines w s) → IsFreshStation lines worker x
    → (w : ℕ) (s : Station) → slice_get ys w ≡ Some s → IsFreshStation lines w s
fresh_more lines xs ys x worker count push each new w s e = fresh_either xs x s w (IsFreshStation lines) each (subst (λ n. IsFreshStation lines n x) (sym count) new) (ap (λ zs. slice_get zs w) (sym push) ∙ e)

pub none_fresh : (lines : List Line) (xs : List Station) → xs ≡ [] → (w : ℕ) (s : Station) → slice_get xs w ≡ Some s → IsFreshStation lines w s
none_fresh lines xs none w s e = let h : slice_get [] w ≡ Some s = ap (λ zs. slice_get zs w) (sym none) ∙ e in absurd (cc h)

-- ---- a table for lines

each_desk : (xs : List Station) (P : ℕ → DeskState → Type 0) → ((w : ℕ) (s : Station) → slice_get xs w ≡ Some s → P w s.desk) → (w : ℕ) → IfSome (slice_get (desks_of xs) w) (P w)
each_desk [] P h w = tt
each_desk (x ∷ xs) P h zero = h 0 x refl
each_desk (x ∷ xs) P h (suc w) = each_desk xs (λ n. P (suc n)) (λ n s e. h (suc n) s e) w

each_loss : (xs : List Station) → ((w : ℕ) (s : Station) → slice_get xs w ≡ Some s → s.lost ≡ false) → (w : ℕ) → IfSome (slice_get (losses_of xs) w) (λ b. b ≡ false)
each_loss [] h w = tt
each_loss (x ∷ xs) h zero = h 0 x refl
each_loss (x ∷ xs) h (suc w) = each_loss xs (λ n s e. h (suc n) s e) w

pub table_for : (lines : List Line) (stations : List Station) (table : TableState) → AreFresh lines stations → table.rows ≡ [] → table.lost ≡ false → table.desks ≡ desks_of stations → table.lost_by ≡ losses_of stations → table.places ≡ length lines
    → IsTableFor lines table
table_for lines stations table fresh rows lost desks losses places = record {
  no_rows = rows;
  not_lost = lost;
  workers = ap length desks ∙ (length-map stations (λ (s : Station). s.desk) ∙ fresh.size);
  places = places;
  desks = λ w. subst (λ (ds : List DeskState). IfSome (slice_get ds w) (λ d. DeskHasRoom w lines d)) (sym desks) (each_desk stations (λ n d. DeskHasRoom n lines d) (λ n s e. (fresh.each n s e).room) w);
  none_lost = λ w. subst (λ (bs : List Bool). IfSome (slice_get bs w) (λ b. b ≡ false)) (sym losses) (each_loss stations (λ n s e. (fresh.each n s e).not_lost) w);
  blank = λ w. subst (λ (ds : List DeskState). IfSome (slice_get ds w) (λ d. d.rows ≡ [])) (sym desks) (each_desk stations (λ n d. d.rows ≡ []) (λ n s e. (fresh.each n s e).no_rows) w);
}

desk_at : (xs : List Station) (w : ℕ) (s : Station) → slice_get xs w ≡ Some s → slice_get (desks_of xs) w ≡ Some s.desk
desk_at [] w s e = absurd (cc e)
desk_at (x ∷ xs) zero s e = let h : x ≡ s = cc e in ap (λ (z : Station). Some z.desk) h
desk_at (x ∷ xs) (suc w) s e = desk_at xs w s e

loss_at : (xs : List Station) (w : ℕ) (s : Station) → slice_get xs w ≡ Some s → slice_get (losses_of xs) w ≡ Some s.lost
loss_at [] w s e = absurd (cc e)
loss_at (x ∷ xs) zero s e = let h : x ≡ s = cc e in ap (λ (z : Station). Some z.lost) h
loss_at (x ∷ xs) (suc w) s e = loss_at xs w s e

pub fresh_from : (lines : List Line) (stations : List Station) (table : TableState) → IsTableFor lines table → table.desks ≡ desks_of stations → table.lost_by ≡ losses_of stations → AreFresh lines stations
fresh_from lines stations table t desks losses = record {
  size = sym (length-map stations (λ (s : Station). s.desk)) ∙ (ap length (sym desks) ∙ t.workers);
  each = λ w s e.
      let d : slice_get table.desks w ≡ Some s.desk = ap (λ (ds : List DeskState). slice_get ds w) desks ∙ desk_at stations w s e in
      let b : slice_get table.lost_by w ≡ Some s.lost = ap (λ (bs : List Bool). slice_get bs w) losses ∙ loss_at stations w s e in
      record {
        room = subst (λ o. IfSome o (λ x. DeskHasRoom w lines x)) d (t.desks w);
        no_rows = subst (λ o. IfSome o (λ (x : DeskState). x.rows ≡ [])) d (t.blank w);
        not_lost = subst (λ (o : Option Bool). IfSome o (λ x. x ≡ false)) b (t.none_lost w);
      };
}

-- both ends of a queue that are there
pub kit_passes : (notices : Notices) (there : Option Passes) (passes : Passes) → there ≡ Some passes → IsKit notices there → IsOutbox notices passes.outbox × IsTaker notices passes.taker
kit_passes notices there passes is kit = subst (IsKit notices) is kit
