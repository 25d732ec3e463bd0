-- What a device leaves that cleans by itself: its names stay, and so does who holds a page.
use Rattle.std.proofs.Common.{◌≡◌, inl, ⊎_elim, ℕ, List, Some, refl, sym, ◌∙◌, subst, arith}
use Rattle.std.proofs.lemmas.Option.{none-some}
use Rattle.nl_field.proofs.Crashes.{weaken}
use Rattle.nl_iface.specs.Calls.{stored}
use Rattle.nl_iface.specs.Moves.{ErasesAtCrashes, KeepsCleaning, LeavesErased}
use Rattle.nl_iface.specs.Names.{Has, LivePage, Names, SameTables}
use Rattle.nl_iface.specs.Stored.{NamedAgree, NamedPage, Stored}
use Rattle.nl_iface.specs.declared.counts.Counts.{Ghosts}
use Rattle.nl_spec_holders.proofs.LawProofs.{erase_keeps}
use Rattle.nl_core_clean.specs.Carried.{CarriesPages, KeepsHeld, KeepsStored}

-- where the tables are the same, each page is carried to its own place
carried : (alike : ℕ → ℕ → Type 0) (s t : Names) → SameTables s t → ((p : ℕ) (page : LivePage) → s.live p ≡ Some page → alike p p) → CarriesPages alike s t
carried alike s t k self = record {
  holders = λ v. erase_keeps (record v { names = s }) t k;
  was_live = λ q page is. let was = sym (k.live q) ∙ is in (q, was, self q page was);
  stays_live = λ p page is. (p, k.live p ∙ is, self p page is);
  pending = λ c has. (subst (λ xs. Has xs c) (sym k.pending) has, k.handled c.number);
  posted = λ c has. inl (subst (λ xs. Has xs c) k.pending has);
  given = let same = k.posted in omega (arith, same);
}

-- pages that are gone and pages as they were agree
agree_still : (names : Names) (bytes : ℕ → List ℕ) (old c : Stored) → LeavesErased names bytes old c → NamedAgree old → NamedAgree c
agree_still names bytes old c l agree p q a b is_a is_b same = agree p q a b (there p a is_a) (there q b is_b) same
  where
    there : (r : ℕ) (n : NamedPage) → c.named r ≡ Some n → old.named r ≡ Some n
    there r n is = ⊎_elim (λ was. sym was ∙ is) (λ gone. absurd (none-some n (sym gone.1 ∙ is))) (l.others r)

pub stored_still : (names : Names) (bytes : ℕ → List ℕ) (old c : Stored) → LeavesErased names bytes old c → KeepsStored old c
stored_still names bytes old c l = record { same_virtual = l.same_virtual; agree = agree_still names bytes old c l }

pub held_still : {D : Type 0} (g : Ghosts D) (old new : D) → SameTables (g.names old) (g.names new) → (g.tells → ErasesAtCrashes g old new) → KeepsCleaning g old new → KeepsHeld g old new
held_still g old new tables left k = record {
  pages = carried _ (g.names old) (g.names new) tables (λ p page is t. k.bytes t p page is);
  left = λ t. weaken _ _ (left t) (λ m c from to x. record {
    stored = stored_still (g.names old) (g.bytes old) (stored g old) (g.stored_of c) x.0;
    moved = g.names old;
    contents = g.bytes old;
    carries = carried (λ p q. g.bytes old q ≡ g.bytes old p) (g.names old) (g.names old) (record { live = λ q. refl; pairs = refl; pending = refl; handled = λ n. refl; posted = refl }) (λ p page is. refl);
    holds = x.0.holds;
    pages = x.1;
  });
  virtual = k.virtual;
  clean = k.clean;
  next_stamp = k.next_stamp;
  clock = k.clock;
}
