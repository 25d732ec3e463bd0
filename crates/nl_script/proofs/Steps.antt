-- What one more line adds to a script.
use Rattle.std.proofs.Common.{◌≡◌, ℕ, ◌+◌, List, [], ◌∷◌, ◌++◌, length, refl, sym, ◌∙◌, ap, inl, inr, append_assoc}
use Rattle.std.specs.Prelude.{◌⊎◌, Result, Ok, Err, IfOk, IfErr, OnOk}
use Rattle.std.proofs.lemmas.List.{length_push, append-nil}
use Rattle.nl_tree.specs.declared.call.Call.{Call}
use Rattle.nl_tree.specs.declared.call.Line.{Line}
use Rattle.nl_script.specs.declared.fault.Fault.{Fault}
use Rattle.nl_script.specs.declared.reading.Place.{Place}
use Rattle.nl_script.specs.declared.refusal.ScriptRefusal.{ScriptRefusal}
use Rattle.nl_script.specs.declared.refusal.ScriptRefusal.TheVariants.{Refused, Memory}
use Rattle.nl_script.specs.declared.said.Said.TheVariants.{Nothing, Barrier, CallOf}
use Rattle.nl_script.specs.declared.why.Why.{Why}
use Rattle.nl_script.specs.Grammar.{line_says}
use Rattle.nl_script.specs.Reading.{lines_before, read_on}
use Rattle.nl_script.specs.Script.{with_read_total, line_before, lines_from}

module _ (at : Place) (lines : List Line) (raw : List ℕ) where
  pub on-fault : (fault : Fault) → line_says raw ≡ Err fault → (rest : List (List ℕ)) → read_on at lines (raw ∷ rest) ≡ Err (Refused (at.number + 1) fault.column fault.why)
  unfolding lines_from
  on-fault fault e rest = rw (e, lines_from) refl

  pub on-nothing : line_says raw ≡ Ok Nothing → (rest : List (List ℕ)) → read_on at lines (raw ∷ rest) ≡ read_on (record { number = at.number + 1; round = at.round; total = at.total }) lines rest
  unfolding lines_from
  on-nothing e rest = rw (e, lines_from) refl

  pub on-barrier : line_says raw ≡ Ok Barrier → (rest : List (List ℕ)) → read_on at lines (raw ∷ rest) ≡ read_on (record { number = at.number + 1; round = at.round + 1; total = at.total }) lines rest
  unfolding lines_from
  on-barrier e rest = rw (e, lines_from) refl

before_push : (lines : List Line) (line : Line) (later : Result (List Line) ScriptRefusal) → lines_before lines (line_before line later) ≡ lines_before (lines ++ line ∷ []) later
before_push lines line (Ok later) = ap Ok (sym (append_assoc lines (line ∷ []) later))
before_push lines line (Err refusal) = refl

module _ (at : Place) (lines : List Line) (raw : List ℕ) (worker : ℕ) (made : Call) where
  call-ok : (sum : ℕ) → line_says raw ≡ Ok (CallOf worker made) → with_read_total (length lines) at.total made ≡ Ok sum → (rest : List (List ℕ)) → read_on at lines (raw ∷ rest) ≡ lines_before lines (line_before (record { line = at.number + 1; round = at.round; worker = worker; call = made }) (lines_from (at.number + 1 + 1) at.round (length lines + 1) sum rest))
  unfolding lines_from
  call-ok sum said is rest = rw (said, is, lines_from) refl

  call-err : (why : Why) → line_says raw ≡ Ok (CallOf worker made) → with_read_total (length lines) at.total made ≡ Err why → (rest : List (List ℕ)) → read_on at lines (raw ∷ rest) ≡ Err (Refused (at.number + 1) 1 why)
  unfolding lines_from
  call-err why said is rest = rw (said, is, lines_from) refl

  on-call : (next : Place) (new : List Line) → line_says raw ≡ Ok (CallOf worker made) → with_read_total (length lines) at.total made ≡ Ok next.total → next.number ≡ at.number + 1 → next.round ≡ at.round → new ≡ lines ++ record { line = at.number + 1; round = at.round; worker = worker; call = made } ∷ [] → (rest : List (List ℕ)) → read_on at lines (raw ∷ rest) ≡ read_on next new rest
  on-call next new said is number round added rest =
      let one : Line = record { line = at.number + 1; round = at.round; worker = worker; call = made } in
      let later = lines_from (at.number + 1 + 1) at.round (length lines + 1) next.total rest in
      let count : length lines + 1 ≡ length new = sym (ap length added ∙ length_push lines one) in
      let same : later ≡ lines_from (next.number + 1) next.round (length new) next.total rest = cc in
      call-ok next.total said is rest ∙ before_push lines one later ∙ ap (λ (ls : List Line). lines_before ls later) (sym added) ∙ ap (lines_before new) same

  -- what adding the call answers
  pub goes-on : (r : Result Place ScriptRefusal) (new : List Line) → line_says raw ≡ Ok (CallOf worker made) → IfOk r (λ next. with_read_total (length lines) at.total made ≡ Ok next.total) → IfOk r (λ next. (next.number ≡ at.number + 1) × (next.round ≡ at.round)) → OnOk r (new ≡ lines ++ record { line = at.number + 1; round = at.round; worker = worker; call = made } ∷ []) → IfOk r (λ next. (rest : List (List ℕ)) → read_on at lines (raw ∷ rest) ≡ read_on next new rest)
  goes-on (Ok next) new said is place added = on-call next new said is place.0 place.1 added
  goes-on (Err e) new said is place added = tt

  pub ends : (r : Result Place ScriptRefusal) → line_says raw ≡ Ok (CallOf worker made) → IfErr r (λ e. (e ≡ Memory) ⊎ ((why : Why) × (with_read_total (length lines) at.total made ≡ Err why) × (e ≡ Refused (at.number + 1) 1 why))) → IfErr r (λ e. (e ≡ Memory) ⊎ ((rest : List (List ℕ)) → read_on at lines (raw ∷ rest) ≡ Err e))
  ends (Ok next) said err = tt
  ends (Err e) said (inl none) = inl none
  ends (Err e) said (inr w) = inr (λ rest. call-err w.0 said w.1 rest ∙ ap Err (sym w.2))

none : (r : Result (List Line) ScriptRefusal) → lines_before [] r ≡ r
none (Ok later) = refl
none (Err e) = refl

pub at-start : (lines : List Line) (rest : List (List ℕ)) → lines ≡ [] → read_on (record { number = 0; round = 0; total = 0 }) lines rest ≡ lines_from 1 0 0 0 rest
at-start [] rest e = none (lines_from 1 0 0 0 rest)
at-start (line ∷ lines) rest e = cc

pub at-end : (at : Place) (lines : List Line) (rest : List (List ℕ)) → rest ≡ [] → read_on at lines rest ≡ Ok lines
unfolding lines_from
at-end at lines [] e = ap Ok (append-nil lines)
at-end at lines (l ∷ rest) e = cc
