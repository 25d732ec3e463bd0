-- How a call that only looks ends, from its parts.
use Rattle.std.proofs.Common.{◌≡◌, ℕ, Bool, true, false, Some, refl, sym, ap, subst, arith}
use Rattle.std.proofs.lemmas.Bool.{both_ways}
use Rattle.std.specs.Bool.{⊤}
use Rattle.nl_iface.specs.Calls.{ReadsCounted}
use Rattle.nl_iface.specs.Counting.{FailuresCounted}
use Rattle.nl_iface.specs.declared.counts.Counts.{Ghosts}
use Rattle.nl_meta_running.specs.Reading.{ReadsExplainStop}
use Rattle.nl_meta_running.specs.declared.answer.Stop.TheVariants as stop
use Rattle.nl_tree.specs.declared.reply.Reply.{Reply}
use Rattle.nl_files.specs.Answers.{LosesFile}
use Rattle.nl_files.specs.declared.answer.CountPages.{CountPages}
use Rattle.nl_files.specs.declared.answer.CountPages.TheVariants as counted
use Rattle.nl_files.specs.declared.answer.FileAnswer.{FileAnswer}
use Rattle.nl_files.specs.declared.answer.FileAnswer.TheVariants as file
use Rattle.nl_calls_read.specs.Looking.{EndsLook}
use Rattle.nl_calls_read.specs.declared.answer.Looked.{Looked}
use Rattle.nl_calls_read.specs.declared.answer.Looked.TheVariants as looked

is-fault : Looked → Bool
is-fault (looked.Replied reply) = false
is-fault (looked.Lost w f) = false
is-fault looked.Fault = true

replied-no-fault : (reply : Reply) → looked.Replied reply ≡ looked.Fault → ⊥
unfolding is-fault
replied-no-fault reply e = both_ways true (sym (ap is-fault e)) refl

lost-no-fault : (w f : ℕ) → looked.Lost w f ≡ looked.Fault → ⊥
unfolding is-fault
lost-no-fault w f e = both_ways true (sym (ap is-fault e)) refl

module _ {D : Type 0} (g : Ghosts D) (s t : D) where
  -- no read failed
  none-failed : (answer : Looked) → (answer ≡ looked.Fault → ⊥) → g.read_faults t ≡ g.read_faults s → ReadsCounted g (answer ≡ looked.Fault) s t
  none-failed answer other same = record { never_falls = omega (arith, same); cause = λ e. absurd (other e); once = λ u e. absurd (other e); stays = λ u f. same }

  pub ends-replied : (reply : Reply) → g.read_faults t ≡ g.read_faults s → EndsLook g s t (looked.Replied reply)
  ends-replied reply same = record { faults = none-failed (looked.Replied reply) (replied-no-fault reply) same; lost = tt; told = λ tells h. h }

  pub ends-lost : (w f : ℕ) → g.read_faults t ≡ g.read_faults s → (f ≡ w → ⊥) → (g.tells → ⊥) → EndsLook g s t (looked.Lost w f)
  ends-lost w f same other silent = record { faults = none-failed (looked.Lost w f) (lost-no-fault w f) same; lost = other; told = λ tells h. silent tells }

  pub ends-fault : {F : Type 0} → F → ReadsCounted g F s t → EndsLook g s t looked.Fault
  ends-fault is counted = record {
    faults = record { never_falls = counted.never_falls; cause = λ e. counted.cause is; once = λ u e. counted.once u is; stays = λ u f. absurd (f refl) };
    lost = tt;
    told = λ tells h. h;
  }

  -- what ended the reading of pages ends the call
  pub stop-fault : ReadsExplainStop g s t (Some stop.Fault) → EndsLook g s t looked.Fault
  stop-fault r = ends-fault tt r

  pub stop-lost : (w f : ℕ) → ReadsExplainStop g s t (Some (stop.Lost w f)) → EndsLook g s t (looked.Lost w f)
  stop-lost w f r = ends-lost w f r.0 r.2 r.3

-- after a part in which no read failed
pub ends-after : {D : Type 0} (g : Ghosts D) (s t u : D) (answer : Looked) → g.read_faults t ≡ g.read_faults s → EndsLook g t u answer → EndsLook g s u answer
ends-after g s t u answer same e = record {
  faults = subst (λ (n : ℕ). FailuresCounted ⊤ n (g.read_faults u) (answer ≡ looked.Fault)) same e.faults;
  lost = e.lost;
  told = e.told;
}

-- ---- what the calls on one file answer

is-counted-fault : CountPages → Bool
is-counted-fault (counted.Pages n) = false
is-counted-fault (counted.Lost w f) = false
is-counted-fault counted.Fault = true

is-file-fault : FileAnswer → Bool
is-file-fault file.Done = false
is-file-fault (file.Lost w f) = false
is-file-fault file.Fault = true

pages-no-fault : (n : ℕ) → counted.Pages n ≡ counted.Fault → ⊥
unfolding is-counted-fault
pages-no-fault n e = both_ways true (sym (ap is-counted-fault e)) refl

counted-lost-no-fault : (w f : ℕ) → counted.Lost w f ≡ counted.Fault → ⊥
unfolding is-counted-fault
counted-lost-no-fault w f e = both_ways true (sym (ap is-counted-fault e)) refl

pub done-no-fault : file.Done ≡ file.Fault → ⊥
unfolding is-file-fault
done-no-fault e = both_ways true (sym (ap is-file-fault e)) refl

file-lost-no-fault : (w f : ℕ) → file.Lost w f ≡ file.Fault → ⊥
unfolding is-file-fault
file-lost-no-fault w f e = both_ways true (sym (ap is-file-fault e)) refl

module _ {D : Type 0} (g : Ghosts D) (s t : D) where
  pub counted-pages : (reply : Reply) (n : ℕ) → ReadsCounted g (counted.Pages n ≡ counted.Fault) s t → EndsLook g s t (looked.Replied reply)
  counted-pages reply n c = ends-replied g s t reply (c.stays tt (pages-no-fault n))

  pub counted-lost : (w f : ℕ) → ReadsCounted g (counted.Lost w f ≡ counted.Fault) s t → (f ≡ w → ⊥) → (g.tells → ⊥) → EndsLook g s t (looked.Lost w f)
  counted-lost w f c other silent = ends-lost g s t w f (c.stays tt (counted-lost-no-fault w f)) other silent

  pub counted-fault : ReadsCounted g (counted.Fault ≡ counted.Fault) s t → EndsLook g s t looked.Fault
  counted-fault c = ends-fault g s t refl c

  pub file-done : (reply : Reply) → ReadsCounted g (file.Done ≡ file.Fault) s t → EndsLook g s t (looked.Replied reply)
  file-done reply c = ends-replied g s t reply (c.stays tt done-no-fault)

  pub file-lost : (w f : ℕ) → ReadsCounted g (file.Lost w f ≡ file.Fault) s t → (f ≡ w → ⊥) → (g.tells → ⊥) → EndsLook g s t (looked.Lost w f)
  file-lost w f c other silent = ends-lost g s t w f (c.stays tt (file-lost-no-fault w f)) other silent

  pub file-none : g.read_faults t ≡ g.read_faults s → ReadsCounted g (file.Done ≡ file.Fault) s t
  file-none same = record { never_falls = omega (arith, same); cause = λ e. absurd (done-no-fault e); once = λ u e. absurd (done-no-fault e); stays = λ u f. same }

  pub file-fault : ReadsCounted g (file.Fault ≡ file.Fault) s t → EndsLook g s t looked.Fault
  file-fault c = ends-fault g s t refl c

-- the count after a part in which no read failed
pub counted-after : {D : Type 0} (g : Ghosts D) (s t u : D) (F : Type 0) → g.read_faults t ≡ g.read_faults s → ReadsCounted g F t u → ReadsCounted g F s u
counted-after g s t u F same c = subst (λ (n : ℕ). FailuresCounted ⊤ n (g.read_faults u) F) same c

-- whatever was wanted, another number was found
pub loses-other : (P : ℕ → Type 0) (a : FileAnswer) → LosesFile P a → LosesFile (λ w. ⊤) a
loses-other P file.Done l = l
loses-other P file.Fault l = l
loses-other P (file.Lost w f) l = (tt, l.1)
