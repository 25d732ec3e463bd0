use Rattle.std.proofs.Common.{◌≡◌, inl, inr, ⊎_elim, ◌∙◌, ◌<◌, ◌≤◌, ◌*◌, ℕ, true, false, cond, is_some, List, Option, None, ap, arith, get_or, refl, subst, sym}
use Rattle.std.proofs.lemmas.Bool.{OnFalse_at, OnTrue_at, cases_Bool, cases_lt}
use Rattle.nl_pseg.specs.Segment.{Physical}
use Rattle.nl_pseg.specs.declared.held.Held.{Held}
use Rattle.nl_device.specs.Callbacks.{names_with}
use Rattle.nl_device.specs.Device.{IsDevice}
use Rattle.nl_device.specs.Shown.{live_page}
use Rattle.nl_device.proofs.Begun.{begun_device, space_size, space_victim}
use Rattle.nl_device.proofs.SpaceSteps.{begun}
use Rattle.nl_device.proofs.Spacing.{free_is, pairs_is}
use Rattle.nl_device.proofs.moving_pages.DeviceMovingPages.level.Goals as goal

pub returns-clause-formed : goal.returns-clause-formed
returns-clause-formed g c =
    let d = c.args.self.now in
    let f = c.requires.formed in
    let e = c.begin.ensures in
    ⊎_elim
    (λ (is : c.begin.result ≡ true). let b = OnTrue_at is e.begun in begun_device f (λ t. g.met.M.Nand.contents_fit d.media t) c.begin.new.self true b.0 b.1 b.2 e.whole e.kept e.segment e.spare)
    (λ (is : c.begin.result ≡ false). subst (λ s. IsDevice (g.M.Nand.geometry d.media) g.M.Nand.tells (g.M.Nand.contents d.media) d.shape d.vseg s d.pending d.kept d.next) (sym (OnFalse_at is e.none)) f)
    (cases_Bool c.begin.result)

pub returns-clause-begun : goal.returns-clause-begun
returns-clause-begun g c is =
    let b = OnTrue_at is c.begin.ensures.begun in
    record {
      tables = record { live = λ q. ap (λ (l : List (Option Held)). live_page (get_or l q None)) b.2.tables.same_held; pairs = b.2.tables.same_pairs; pending = refl; handled = λ n. refl; posted = refl };
      space = begun b.0 c.args.self.now.pseg c.begin.new.self b.2;
      medium = record {
        virtual = record { same_shape = refl; same_stamps = λ v. refl; same_map = λ t v. refl; no_failed = λ t v x stray. stray; spare = λ s. s };
        contents = λ t. refl;
        left = λ t m i l. l;
        bytes = λ t p. refl;
        found = refl;
        next_stamp = refl;
        clean = c.begin.ensures.clean;
        clock = refl;
        write_faults = refl;
      };
    }

pub returns-clause-none : goal.returns-clause-none
returns-clause-none g c is = record {
  medium = record {
    virtual = record { same_shape = refl; same_stamps = λ v. refl; same_map = λ t v. refl; no_failed = λ t v x stray. stray; spare = λ s. s };
    contents = λ t. refl;
    left = λ t m i l. l;
    bytes = λ t p. refl;
    found = refl;
    next_stamp = refl;
    clean = c.begin.ensures.clean;
    clock = refl;
    write_faults = refl;
  };
  names = ap (λ (s : Physical). names_with s c.args.self.now.pending) (OnFalse_at is c.begin.ensures.none);
}

pub returns-clause-chosen : goal.returns-clause-chosen
returns-clause-chosen g c is = let b = OnTrue_at is c.begin.ensures.begun in (b.0, b.1, b.2.victim)

pub returns-clause-exactly : goal.returns-clause-exactly
returns-clause-exactly g c =
    let seg = c.args.self.now.pseg in
    let victim = space_victim seg in
    let size = space_size seg in
    let pairs = pairs_is seg in
    let free = free_is seg in (
      (λ is.
          let no = c.begin.ensures.cannot.0 is in
          let b = OnTrue_at is c.begin.ensures.begun in
          let few = b.2.few in (
            (
              victim ∙ ap (λ (o : Option ℕ). cond (is_some o) 1 0) b.2.none,
              omega (arith, few, size, pairs),
              ⊎_elim (λ some. omega (arith, some, free)) (λ none. absurd (no (inr (inr (inl (omega (arith, none))))))) (cases_lt 0 seg.free),
            ),
            (b.0, b.1),
          )),
      (λ can. let none = can.0.0 in let few = can.0.1 in let some = can.0.2 in let cold = can.1 in
          c.begin.ensures.cannot.1 (λ why. ⊎_elim
          (λ hand. omega (arith, victim, none, hand))
          (λ rest. ⊎_elim
          (λ many. omega (arith, few, many, size, pairs))
          (λ last. ⊎_elim
          (λ empty. omega (arith, some, empty, free))
          (λ all. let worn = cold.1.worn refl in let low = all cold.0 cold.1.from cold.1.below cold.1.sealed worn.0 worn.1 worn.2 in let high = worn.3 in omega (arith, low, high))
          last)
          rest)
          why)),
    )
