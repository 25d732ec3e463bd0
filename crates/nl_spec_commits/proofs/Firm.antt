-- A device stays firm.
use Rattle.std.proofs.Common.{◌≡◌, ℕ, ◌<◌, List, refl, sym, ap, subst, ◌∙◌, ⊎_elim, arith}
use Rattle.nl_field.specs.declared.answers.Named.{Named}
use Rattle.nl_field.specs.declared.answers.VirtualWrite.TheVariants as write
use Rattle.nl_field.specs.declared.pointer.Tag.{Tag}
use Rattle.nl_field.specs.declared.shape.Shape.{Shape}
use Rattle.nl_iface.specs.Calls.{LeavesNew, next_named, stored}
use Rattle.nl_iface.specs.Left.{LeavesTried}
use Rattle.nl_iface.specs.Stored.{NamedAgree, NoneFailed, SameNamed, SameVirtual, Stored, Value}
use Rattle.nl_iface.specs.declared.counts.Counts.{Ghosts}
use Rattle.nl_iface.proofs.Stops.{tried_agree}
use Rattle.nl_journal.specs.Left.{CommitWrites, LeavesRest}
use Rattle.nl_journal.specs.Progress.{Progress}
use Rattle.nl_meta.specs.Pages.{Pages}
use Rattle.nl_spec_commits.specs.FirmLaws.{CommitKeepsFirm, MediumKeepsFirm, ProgramKeepsFirm, StoredKeepsFirm, UnitKeepsFirm}

-- no write failed at an address that was none before
still_none : {D : Type 0} (g : Ghosts D) (s t : D) → g.shape t ≡ g.shape s → ((v : ℕ) (x : Value) → g.failed t v x → g.failed s v x) → NoneFailed (g.shape s).vaddrs (g.failed s)
    → NoneFailed (g.shape t).vaddrs (g.failed t)
still_none g s t same fewer none v x below failed = none v x (subst (λ (h : Shape). v < h.vaddrs) same below) (fewer v x failed)

pub stored_keeps_firm : {D : Type 0} (g : Ghosts D) → StoredKeepsFirm g
stored_keeps_firm g s t tells f k same agrees stores = record {
  firm = same.firm ∙ f.firm;
  none_failed = still_none g s t k.same_shape (k.no_failed tells) f.none_failed;
  pages = stores;
  agree = agrees f.agree;
}

pub medium_keeps_firm : {D : Type 0} (g : Ghosts D) → MediumKeepsFirm g
medium_keeps_firm g s t tells f k stores = stored_keeps_firm g s t tells f k.virtual
    (subst (λ (c : Stored). SameVirtual (stored g s) c) (sym is) (record { values = λ v. refl; firm = refl })) (λ agree. subst NamedAgree (sym is) agree) stores
  where
    is : stored g t ≡ stored g s
    is = ap g.stored_of (k.contents tells)

-- what is stored after a program was tried
tried : {D : Type 0} (g : Ghosts D) (s t : D) (tag : Tag) (main : List ℕ) (answer : Named) → LeavesNew g tag main answer s t
    → LeavesTried (g.shape s) (g.names s) (g.bytes s) (next_named g tag main s) (stored g s) (stored g t)
tried g s t tag main answer l = ⊎_elim (λ x. x.1) (λ x. x.0) l.now

pub program_keeps_firm : {D : Type 0} (g : Ghosts D) → ProgramKeepsFirm g
program_keeps_firm g s t tag main answer tells f k l stores =
    let x = tried g s t tag main answer l in
    stored_keeps_firm g s t tells f k x.same_virtual
    (λ agree. tried_agree (g.shape s) (g.names s) (g.bytes s) (next_named g tag main s) (stored g s) (stored g t) x agree
    (λ p page is same. absurd (let low = f.pages.named_below p page is in let at : page.stamp ≡ g.next_stamp s = same in let off : ⊥ = omega (arith, low, at) in off)))
    stores

-- pages that are the same agree as before
agree_on : (old c : Stored) → SameNamed old c → NamedAgree old → NamedAgree c
agree_on old c same agree p q a b is_a is_b stamps = agree p q a b (sym (same p) ∙ is_a) (sym (same q) ∙ is_b) stamps

-- what is stored after a commit, of all but the values of addresses
rest_of : {D : Type 0} (g : Ghosts D) (done : Type 0) (s t : D) (p r : Progress) (pages now : Pages) → CommitWrites g done p r pages now s t
    → LeavesRest (g.shape s).vaddrs (g.failed s) (stored g s) (stored g t)
rest_of g done s t p r pages now w = ⊎_elim (λ x. x.1.1) (λ x. x.1) w.left.now

pub commit_keeps_firm : {D : Type 0} (g : Ghosts D) → CommitKeepsFirm g
commit_keeps_firm g answer most s t p r pages now tells f w k fine stores =
    let rest = rest_of g (answer ≡ write.Done) s t p r pages now w in
    record {
      firm = rest.firm f.firm f.none_failed;
      none_failed = still_none g s t k.named.same_shape
          (λ v x failed. ⊎_elim (λ old. old) (λ late. ⊎_elim (λ d. absurd (late.0 d)) (λ none. absurd (none late.1)) fine) (k.failed tells v x failed)) f.none_failed;
      pages = stores;
      agree = agree_on (stored g s) (stored g t) rest.named f.agree;
    }

pub unit_keeps_firm : {D : Type 0} (g : Ghosts D) → UnitKeepsFirm g
unit_keeps_firm g answer most s t p q pages now tells f w k fine stores =
    let rest : LeavesRest (g.shape s).vaddrs (g.failed s) (stored g s) (stored g t) = ⊎_elim (λ x. x.1.1) (λ x. x.1) w.left.now in
    record {
      firm = rest.firm f.firm f.none_failed;
      none_failed = still_none g s t k.named.same_shape
          (λ v x failed. ⊎_elim (λ old. old) (λ late. ⊎_elim (λ d. absurd (late.0 d)) (λ none. absurd (none late.1)) fine) (k.failed tells v x failed)) f.none_failed;
      pages = stores;
      agree = agree_on (stored g s) (stored g t) rest.named f.agree;
    }
