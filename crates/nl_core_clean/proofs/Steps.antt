-- What a move and an erase keep, and what a stop within them leaves.
use Rattle.std.proofs.Common.{◌≡◌, ◌⊎◌, ⊎_elim, ℕ, List, Some, refl, sym, ◌∙◌, ap, subst, arith}
use Rattle.std.proofs.lemmas.Option.{none-some}
use Rattle.nl_field.proofs.Crashes.{then, turns_either, weaken}
use Rattle.nl_field.specs.declared.shape.Shape.{Shape}
use Rattle.nl_iface.proofs.Stops.{keeps_leave, keeps_virtual_then, tried_agree}
use Rattle.nl_iface.specs.Calls.{KeepsMedium, StoresPages, stored}
use Rattle.nl_iface.specs.Left.{LeavesPages}
use Rattle.nl_iface.specs.Moves.{ErasesAtCrashes, KeepsCleaning, LeavesCopy, LeavesErased, LeavesMove, copy_of}
use Rattle.nl_iface.specs.Names.{Names, SameTables}
use Rattle.nl_iface.specs.Stored.{NamedAgree, NamedPage, Stored}
use Rattle.nl_iface.specs.declared.Callback.{Callback}
use Rattle.nl_iface.specs.declared.counts.Counts.{Ghosts}
use Rattle.nl_core_clean.specs.Carried.{CarriesPages, KeepsHeld, KeepsStored, LeavesHeld}
use Rattle.nl_core_clean.proofs.Carrying.{carries_then, same_carries, same_itself}

pub stored_then : {a b c : Stored} → KeepsStored a b → KeepsStored b c → KeepsStored a c
stored_then k l = record {
  same_virtual = record { values = λ v. l.same_virtual.values v ∙ k.same_virtual.values v; firm = l.same_virtual.firm ∙ k.same_virtual.firm };
  agree = λ agree. l.agree (k.agree agree);
}

pub stored_same : {a b : Stored} → b ≡ a → KeepsStored a b
stored_same {a} {b} same = subst (λ c. KeepsStored a c) (sym same) (record { same_virtual = record { values = λ v. refl; firm = refl }; agree = λ agree. agree })

-- no page was moved
unmoved : (bytes : ℕ → List ℕ) (names : Names) → CarriesPages (λ p q. bytes q ≡ bytes p) names names
unmoved bytes names = same_carries (λ p q. bytes q ≡ bytes p) names names (same_itself names) (λ p page is. refl)

-- an erase empties pages and changes none
erased_agree : (names : Names) (bytes : ℕ → List ℕ) (old c : Stored) → LeavesErased names bytes old c → NamedAgree old → NamedAgree c
erased_agree names bytes old c l agree p q a b is_a is_b same = agree p q a b (there p a is_a) (there q b is_b) same
  where
    there : (r : ℕ) (n : NamedPage) → c.named r ≡ Some n → old.named r ≡ Some n
    there r n is = ⊎_elim (λ was. sym was ∙ is) (λ gone. absurd (none-some n (sym gone.1 ∙ is))) (l.others r)

erased_held : (shape : Shape) (names : Names) (bytes : ℕ → List ℕ) (old c : Stored) → LeavesErased names bytes old c → LeavesPages shape names bytes c → LeavesHeld shape names bytes old c
erased_held shape names bytes old c l pages = record {
  stored = record { same_virtual = l.same_virtual; agree = erased_agree names bytes old c l };
  moved = names;
  contents = bytes;
  carries = unmoved bytes names;
  holds = l.holds;
  pages = pages;
}

-- what is left of a later state, by what it kept of the first
left_later : (shape : Shape) (s t : Names) (bytes mid : ℕ → List ℕ) (old now c : Stored) → CarriesPages (λ p q. mid q ≡ bytes p) s t → KeepsStored old now → LeavesHeld shape t mid now c → LeavesHeld shape s bytes old c
left_later shape s t bytes mid old now c carries kept l = record {
  stored = stored_then kept l.stored;
  moved = l.moved;
  contents = l.contents;
  carries = carries_then (λ p q r first second. second ∙ first) carries l.carries;
  holds = l.holds;
  pages = l.pages;
}

module _ {D : Type 0} (g : Ghosts D) where
  -- a call that leaves the medium
  pub still_held : (old new : D) → SameTables (g.names old) (g.names new) → KeepsMedium g old new → KeepsHeld g old new
  still_held old new tables k = record {
    pages = same_carries _ (g.names old) (g.names new) tables (λ p page is t. k.bytes t p);
    left = λ t. keeps_leave g (λ m c. LeavesHeld (g.shape old) (g.names old) (g.bytes old) (stored g old) c) old new t k;
    virtual = k.virtual;
    clean = k.clean;
    next_stamp = k.next_stamp;
    clock = let same = k.clock in omega (arith, same);
  }

  pub still_stored : (old new : D) → g.tells → KeepsMedium g old new → KeepsStored (stored g old) (stored g new)
  still_stored old new t k = stored_same (ap g.stored_of (k.contents t))

  -- calls one after the other
  pub held_then : (a b d : D) → (g.tells → KeepsStored (stored g a) (stored g b)) → KeepsHeld g a b → KeepsHeld g b d → KeepsHeld g a d
  held_then a b d kept k l = record {
    pages = carries_then (λ p q r first second t. second t ∙ first t) k.pages l.pages;
    left = λ t. then _ (k.left t) (weaken _ _ (l.left t) (λ m c from to leaves.
        left_later (g.shape a) (g.names a) (g.names b) (g.bytes a) (g.bytes b) (stored g a) (stored g b) (g.stored_of c) (told t) (kept t)
        (subst (λ n. LeavesHeld n (g.names b) (g.bytes b) (stored g b) (g.stored_of c)) k.virtual.same_shape leaves)));
    virtual = keeps_virtual_then g a b d k.virtual l.virtual;
    clean = λ was. l.clean (k.clean was);
    next_stamp = l.next_stamp ∙ k.next_stamp;
    clock = let first = k.clock in let second = l.clock in omega (arith, first, second);
  }
    where
      told : g.tells → CarriesPages (λ p q. g.bytes b q ≡ g.bytes a p) (g.names a) (g.names b)
      told t = carries_then (λ p q r first second. second ∙ first t) k.pages (unmoved (g.bytes b) (g.names b))

  -- what a move leaves
  copy_held : (old : D) → StoresPages g old → (c : Stored) → LeavesCopy g old c → LeavesHeld (g.shape old) (g.names old) (g.bytes old) (stored g old) c
  copy_held old stores c x = record {
    stored = record {
      same_virtual = x.3.same_virtual;
      agree = λ agree. tried_agree (g.shape old) (g.names old) (g.bytes old) (copy_of x.1 (g.bytes old x.0)) (stored g old) c x.3 agree
          (λ p a is same. agree p x.0 a (copy_of x.1 (g.bytes old x.0)) is (stores.holds x.0 x.1 x.2) same);
    };
    moved = g.names old;
    contents = g.bytes old;
    carries = unmoved (g.bytes old) (g.names old);
    holds = x.3.holds;
    pages = x.3.pages;
  }

  pub moved_held : (done : Type 0) (IsMove : Callback → Type 0) (old new : D) → (g.tells → StoresPages g old) → CarriesPages (λ p q. g.tells → g.bytes new q ≡ g.bytes old p) (g.names old) (g.names new)
      → (g.tells → LeavesMove g done IsMove old new ⊎ KeepsMedium g old new) → KeepsCleaning g old new → KeepsHeld g old new
  moved_held done IsMove old new stores pages left k = record {
    pages = pages;
    left = λ t. ⊎_elim
        (λ moves. turns_either done _ _ (λ c. LeavesHeld (g.shape old) (g.names old) (g.bytes old) (stored g old) (g.stored_of c)) moves.stops
        (λ c was. copy_held old (stores t) (g.stored_of c) was)
        (λ c now. copy_held old (stores t) (g.stored_of c) now.2.0))
        (λ still. keeps_leave g (λ m c. LeavesHeld (g.shape old) (g.names old) (g.bytes old) (stored g old) c) old new t still)
        (left t);
    virtual = k.virtual;
    clean = k.clean;
    next_stamp = k.next_stamp;
    clock = k.clock;
  }

  pub moved_stored : (done : Type 0) (IsMove : Callback → Type 0) (old new : D) → g.tells → StoresPages g old → LeavesMove g done IsMove old new ⊎ KeepsMedium g old new → KeepsStored (stored g old) (stored g new)
  moved_stored done IsMove old new t stores left = ⊎_elim
      (λ moves. ⊎_elim (λ was. (copy_held old stores (stored g new) was.1).stored) (λ now. (copy_held old stores (stored g new) now.2.0).stored) moves.now)
      (λ still. still_stored old new t still)
      left

  -- what an erase leaves
  pub erased_keeps : (old new : D) → SameTables (g.names old) (g.names new) → (g.tells → ErasesAtCrashes g old new) → KeepsCleaning g old new → KeepsHeld g old new
  erased_keeps old new tables left k = record {
    pages = same_carries _ (g.names old) (g.names new) tables (λ p page is t. k.bytes t p page is);
    left = λ t. weaken _ _ (left t) (λ m c from to x. erased_held (g.shape old) (g.names old) (g.bytes old) (stored g old) (g.stored_of c) x.0 x.1);
    virtual = k.virtual;
    clean = k.clean;
    next_stamp = k.next_stamp;
    clock = k.clock;
  }

  pub erased_stored : (old new : D) → LeavesErased (g.names old) (g.bytes old) (stored g old) (stored g new) → KeepsStored (stored g old) (stored g new)
  erased_stored old new l = record { same_virtual = l.same_virtual; agree = erased_agree (g.names old) (g.bytes old) (stored g old) (stored g new) l }
