use Rattle.std.proofs.Common.{◌≡◌, inl, inr, ⊎_elim, ℕ, ◌/◌, ◌==◌, ◌&&◌, not, false, Bool, cond, List, Option, Some, None, length, get_or, is_some, Contains, sym, ◌∙◌, ap, subst, arith, eq-eqb, ne_eqb}
use Rattle.nl_field.specs.Live.{resolve}
use Rattle.std.proofs.lemmas.Bool.{cases_eq}
use Rattle.std.proofs.lemmas.List.{get_or-set_other, get_or-set_same}
use Rattle.nl_remap.specs.Table.{IsOld, told}
use Rattle.nl_remap.proofs.Ways.{led_not}
use Rattle.nl_pseg_names.specs.OldNames.{NameTable}
use Rattle.nl_pseg.specs.Segment.{IsOldName, TakenAsErased, is_free, is_kept, is_soiled, names_another_free}
use Rattle.nl_pseg.specs.Seen.{seen}
use Rattle.nl_pseg.specs.declared.held.Held.{Held}
use Rattle.nl_pseg.proofs.Gone.{old_told}
use Rattle.nl_pseg.proofs.States.{within_length}
use Rattle.nl_pseg.specs.Kept.{kept}
use Rattle.nl_pseg.proofs.state.State.load_as.Goals as goal

abbrev num : Bool → ℕ
num b = cond b 1 0

pub lead_from-requires-clause-room : goal.lead_from-requires-clause-room
lead_from-requires-clause-room c =
    let e = ap (λ (t : NameTable). t.room) c.load.ensures.names in
    let room = (c.requires.away c.if-at-page.false).room in
    omega (arith, e, room)

pub lead_from-requires-clause-fresh : goal.lead_from-requires-clause-fresh
lead_from-requires-clause-fresh c old =
    (c.requires.away c.if-at-page.false).fresh (old_told (kept c.args.self.now).names.pairs c.args.at.name (subst (λ (t : NameTable). IsOld t.pairs c.args.at.name) c.load.ensures.names old))

pub lead_from-requires-clause-dead : goal.lead_from-requires-clause-dead
lead_from-requires-clause-dead c =
    let s = kept c.args.self.now in
    let h : Held = record { tag = c.args.tag; stamp = c.args.at.stamp } in
    ap (λ (l : List (Option Held)). get_or l c.args.at.name None) c.load.ensures.loads.held
    ∙ (get_or-set_other s.held.items c.args.page c.args.at.name (Some h) None c.if-at-page.false ∙ (c.requires.away c.if-at-page.false).dead)

pub lead_from-requires-clause-there : goal.lead_from-requires-clause-there
lead_from-requires-clause-there c =
    let s = kept c.args.self.now in
    let h : Held = record { tag = c.args.tag; stamp = c.args.at.stamp } in
    ap is_some (ap (λ (l : List (Option Held)). get_or l c.args.page None) c.load.ensures.loads.held ∙ get_or-set_same s.held.items c.args.page (Some h) None (within_length s c.requires.formed c.args.page c.requires.dead.within))

pub returns-then-at-page-clause-loads : goal.returns-then-at-page-clause-loads
returns-then-at-page-clause-loads c =
    let s = kept c.args.self.now in
    let x = kept c.load.new.self in
    let e = c.load.ensures.loads in
    let same = c.if-at-page.true in
    let pairs : (seen x).pairs ≡ (seen s).pairs = ap (λ (t : NameTable). told t.pairs) c.load.ensures.names in
    record {
      held = e.held;
      leads = ap (λ (t : NameTable). resolve (told t.pairs) c.args.at.name) c.load.ensures.names ∙ (led_not s.names.pairs c.args.at.name (λ old. c.requires.dead.own (subst (IsOldName (seen s)) same (old_told s.names.pairs c.args.at.name old))) ∙ same);
      ways = λ n ne. ap (λ (t : NameTable). resolve (told t.pairs) n) c.load.ensures.names;
      pairs = λ q. pairs;
      olds = λ n old. inr (subst (λ (ps : List (ℕ × ℕ)). (target : ℕ) × Contains ps (n, target)) pairs old);
      more = λ ne. absurd (ne same);
      range = e.range;
      victim = e.victim;
      here = e.here;
      name_here = λ ne. absurd (ne same);
      free =
          let f = e.free in
          let none : num (names_another_free (seen s) c.args.page c.args.at.name) ≡ 0 = ap (λ b. num (not b && (not (c.args.at.name / s.blocks.size == c.args.page / s.blocks.size) && is_free (seen s) (c.args.at.name / s.blocks.size)))) (eq-eqb c.args.at.name c.args.page same) in
          omega (arith, f, none);
      left = e.left;
      others = λ b ne. ((e.others b ne).1, (λ n. (e.others b ne).0));
      same_soiled = λ b. ap (λ (l : List (Option ℕ)). get_or l b None) e.same_soiled;
      wears = e.wears;
      erased = e.erased;
      still = λ p taken ne next. e.still p taken ne;
      copies = e.copies;
    }

pub returns-clause-loads : goal.returns-clause-loads
returns-clause-loads c =
    let s = kept c.args.self.now in
    let m = kept c.load.new.self in
    let x = kept c.lead_from.new.self in
    let e = c.load.ensures.loads in
    let l = c.lead_from.ensures.led in
    let ne = c.if-at-page.false in
    let name = c.args.at.name in
    let page = c.args.page in
    let size : m.blocks.size ≡ s.blocks.size = e.range.range_size in
    let pairs : (seen m).pairs ≡ (seen s).pairs = ap (λ (t : NameTable). told t.pairs) c.load.ensures.names in
    let nb : name / m.blocks.size ≡ name / s.blocks.size = ap (λ k. name / k) size in
    let name_free : is_free (seen x) (name / s.blocks.size) ≡ false = ap (is_free (seen x)) (sym nb) ∙ l.here in
    record {
      held = l.held ∙ e.held;
      leads = l.leads;
      ways = λ n other. l.ways n other ∙ ap (λ (t : NameTable). resolve (told t.pairs) n) c.load.ensures.names;
      pairs = λ q. absurd (ne q);
      olds = λ n old. ⊎_elim (λ q. inl q) (λ w. inr (subst (λ (ps : List (ℕ × ℕ)). (target : ℕ) × Contains ps (n, target)) pairs w)) (l.olds n old);
      more = λ q.
          let n = ap (λ (ps : List (ℕ × ℕ)). length ps) pairs in
          let r = ap (λ (t : NameTable). t.room) c.load.ensures.names in
          (let a = l.more.0 in omega (arith, a, n), let b = l.more.1 in omega (arith, b, r));
      range = record { range_first = l.range.range_first ∙ e.range.range_first; range_blocks = l.range.range_blocks ∙ e.range.range_blocks; range_size = l.range.range_size ∙ e.range.range_size };
      victim = l.victim ∙ e.victim;
      here = ⊎_elim
          (λ q. ap (is_free (seen x)) q ∙ name_free)
          (λ other. l.frees (page / s.blocks.size) (λ q. other (q ∙ nb)) ∙ e.here)
          (cases_eq (page / s.blocks.size) (name / s.blocks.size));
      name_here = λ q. name_free;
      free =
          let f = e.free in
          let g = l.free in
          let at : num (is_free (seen m) (name / m.blocks.size)) ≡ num (is_free (seen m) (name / s.blocks.size)) = ap (λ k. num (is_free (seen m) k)) nb in
          let first : names_another_free (seen s) page name ≡ (not (name / s.blocks.size == page / s.blocks.size) && is_free (seen s) (name / s.blocks.size)) = ap (λ b. not b && (not (name / s.blocks.size == page / s.blocks.size) && is_free (seen s) (name / s.blocks.size))) (ne_eqb name page ne) in
          let same : num (is_free (seen m) (name / s.blocks.size)) ≡ num (names_another_free (seen s) page name) = ⊎_elim
          (λ q. ap num (ap (is_free (seen m)) q ∙ (e.here ∙ sym (first ∙ ap (λ b. not b && is_free (seen s) (name / s.blocks.size)) (eq-eqb (name / s.blocks.size) (page / s.blocks.size) q)))))
          (λ other. ap num ((e.others (name / s.blocks.size) other).0 ∙ sym (first ∙ ap (λ b. not b && is_free (seen s) (name / s.blocks.size)) (ne_eqb (name / s.blocks.size) (page / s.blocks.size) other))))
          (cases_eq (name / s.blocks.size) (page / s.blocks.size)) in
          omega (arith, f, g, at, same);
      left = let a = l.left in let b = e.left in omega (arith, a, b);
      others = λ b other. (l.kept b ∙ (e.others b other).1, (λ away. l.frees b (λ q. away (q ∙ nb)) ∙ (e.others b other).0));
      same_soiled = λ b. ap (λ (k : List (Option ℕ)). get_or k b None) (l.soiled ∙ e.same_soiled);
      wears = λ b. l.wears b ∙ e.wears b;
      erased = λ p taken. e.erased p (back p taken);
      still = λ p taken other away. ⊎_elim
          (λ next. inl (l.still p next (λ q. away (e.next p next) (ap (λ k. p / k) (sym size) ∙ (q ∙ nb)))))
          (λ free. inr (
            ap (λ k. is_kept (seen x) (p / k)) l.range.range_size ∙ (l.kept (p / m.blocks.size) ∙ free.0),
            ap (λ k. is_soiled (seen x) (p / k)) l.range.range_size ∙ (ap (λ (k : List (Option ℕ)). is_some (get_or k (p / m.blocks.size) None)) l.soiled ∙ free.1),
          ))
          (e.still p taken other);
      copies = λ p next. e.copies p (l.copies p next);
    }
  where
    back : (p : ℕ) → TakenAsErased (seen (kept c.lead_from.new.self)) p → TakenAsErased (seen (kept c.load.new.self)) p
    back p (inl next) = inl (c.lead_from.ensures.led.next p next)
    back p (inr free) =
        let l = c.lead_from.ensures.led in
        let m = kept c.load.new.self in
        let x = kept c.lead_from.new.self in
        inr (
          sym (l.kept (p / m.blocks.size)) ∙ (ap (λ k. is_kept (seen x) (p / k)) (sym l.range.range_size) ∙ free.0),
          ap (λ (k : List (Option ℕ)). is_some (get_or k (p / m.blocks.size) None)) (sym l.soiled) ∙ (ap (λ k. is_soiled (seen x) (p / k)) (sym l.range.range_size) ∙ free.1),
        )
