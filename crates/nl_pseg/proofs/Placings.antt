-- How a page is placed: a block is opened, and its next page is used.
use Rattle.std.proofs.Common.{◌≡◌, ◌⊎◌, inl, inr, ⊎_elim, ℕ, true, false, ◌+◌, ◌-◌, ◌*◌, ◌/◌, ◌<◌, ◌≤◌, nat_le, cond, Option, Some, None, Contains, List, get_or, set, refl, sym, ◌∙◌, ap, subst, arith, is_some}
use Rattle.std.proofs.lemmas.Bool.{cond-true, cond-false, le-leb}
use Rattle.std.proofs.lemmas.List.{get_or-set_other, set-get_or}
use Rattle.std.proofs.lemmas.Bool.{cases_eq, true≢false}
use Rattle.nl_field.specs.CrashStates.{Earlier, Turns}
use Rattle.nl_field.specs.Page.{Image, written}
use Rattle.nl_field.specs.declared.answers.Named.{Named}
use Rattle.nl_field.specs.declared.answers.Named.TheVariants as the
use Rattle.nl_field.specs.declared.pointer.Pointer.{Pointer}
use Rattle.nl_field.specs.declared.pointer.Tag.{Tag}
use Rattle.nl_nand.specs.declared.answers.WriteAnswer.TheVariants as wrote
use Rattle.nl_nand.proofs.Crashes.{turns_later, weaken}
use Rattle.nl_pseg.specs.Answers.{IfPlaced, IsPlaced}
use Rattle.nl_pseg.specs.Effects.{Crashes, PreservesSegment, PlacesOnImage, PageIsProgrammed, TakesImagePage}
use Rattle.nl_pseg_pages.specs.Pages.{page_with, shown_by}
use Rattle.nl_pseg.specs.Segment.{Physical, IsClean, IsDead, IsNextCopy, IsNextToProgram, IsSpent, is_waiting, IsPhysicalOf, KeepsBlock, SameNames, SameBlocksAndPages, held_at, is_free, is_kept, is_soiled, room, soiled, wear_of}
use Rattle.nl_pseg_blocks.specs.Uses.{Use}
use Rattle.nl_pseg.specs.Steps.{IsAlone, OpensFreeBlock, UsesNextPage, OpensForProgram, OpeningOn, Placing}
use Rattle.nl_pseg.specs.Writes.{ProgramsOn, WritesOn}
use Rattle.nl_pseg.specs.declared.held.Held.{Held}
use Rattle.nl_pseg.proofs.Images.{keeps_then, takes_then}
use Rattle.nl_pseg.proofs.Gone.{waits}
use Rattle.nl_pseg.proofs.Tries.{opened_others, opened_tries, still_others, unspent_others, used_others, used_tries}
use Rattle.nl_pseg.specs.Tries.{TriesForName}
use Rattle.nl_pseg.proofs.Medium.{nothing_crashes}
use Rattle.nl_pseg.proofs.Waits.{wait_by, wait_free, wait_not}
use Rattle.nl_pseg.proofs.Segments.{pages_back, pages_then, range_of, within_same}
use Rattle.nl_pseg.proofs.Wearing.{counts_same, counts_then, counts_used, none_there}

pub if_placed : (answer : Named) {P Q : Pointer → Type 0} → ((at : Pointer) → P at → Q at) → IfPlaced answer P → IfPlaced answer Q
if_placed (the.Placed at) by is = by at is
if_placed the.NotLive by is = is
if_placed the.NoPage by is = is
if_placed the.Fault by is = is

pub if_placed_three : (answer : Named) {P Q R S : Pointer → Type 0} → ((at : Pointer) → P at → Q at → R at → S at) → IfPlaced answer P → IfPlaced answer Q → IfPlaced answer R → IfPlaced answer S
if_placed_three (the.Placed at) by p q r = by at p q r
if_placed_three the.NotLive by p q r = p
if_placed_three the.NoPage by p q r = p
if_placed_three the.Fault by p q r = p

pub names_then : {a b c : Physical} → SameNames a b → SameNames b c → SameNames a c
names_then first second = record {
  same_pairs = second.same_pairs ∙ first.same_pairs;
  same_pair_room = second.same_pair_room ∙ first.same_pair_room;
  same_victim = second.same_victim ∙ first.same_victim;
  copies = (second.copies.0 ∙ first.copies.0, second.copies.1 ∙ first.copies.1);
}

-- a block is kept still
pub kept_same : {seg new : Physical} → SameBlocksAndPages seg new → SameNames seg new → ((block : ℕ) → is_kept new block ≡ is_kept seg block) → KeepsBlock seg → KeepsBlock new
kept_same same names kept k = record {
  block = k.block;
  from = subst (λ n. n ≤ k.block) (sym same.same_first) k.from;
  below = subst (λ n. k.block < n) (sym same.same_blocks) k.below;
  kept = ⊎_elim (λ is. inl (kept k.block ∙ is)) (λ is. inr (names.same_victim ∙ is)) k.kept;
}

-- the next page was used
module _ {x : Option Held} {seg new : Physical} (u : UsesNextPage x seg new) (some : 0 < seg.left) where
  pub used_spent : IsSpent seg new
  used_spent =
      let blocks : (new.free - 1) * new.size ≡ (seg.free - 1) * seg.size = (λ i. (u.free i - 1) * u.pages.same_size i) in
      let left = u.left in
      let none : cond (nat_le 1 seg.left) 0 1 ≡ num_zero = cond-true (nat_le 1 seg.left) 0 1 (le-leb 1 seg.left some) in
      let free = u.free in
      record { room = omega (arith, blocks, left); taken = omega (arith, none, free); soiled = λ b. inl (ap (λ (l : List (Option ℕ)). get_or l b None) u.soiled) }
    where
      num_zero : ℕ
      num_zero = 0

  pub used_clean : IsClean seg → IsClean new
  used_clean clean b free = ap (λ (l : List (Option ℕ)). is_some (get_or l b None)) u.soiled ∙ clean b (ap (λ (w : Use). w.is_kept) (sym (u.uses b)) ∙ free)

  pub used_waits : (block : ℕ) → is_waiting new block ≡ is_waiting seg block
  used_waits block = ap waits (u.uses block)

  pub used_next : (p : ℕ) → IsNextToProgram new p → IsNextToProgram seg p
  used_next p next = let a = u.next in let l = u.left in (omega (arith, a, next.0), omega (arith, a, l, next.0, next.1))

  pub used_kept : KeepsBlock seg → KeepsBlock new
  used_kept k = kept_same u.pages u.names (λ b. ap (λ (w : Use). w.is_kept) (u.uses b)) k

pub used_failed : {seg new : Physical} (stamp : ℕ) (now : Pointer → List (Option Held)) → UsesNextPage None seg new → 0 < seg.left → is_kept seg (seg.next / seg.size) ≡ false → (IsNextCopy seg seg.next → ⊥) → held_at seg seg.next ≡ None → Placing stamp now the.Fault seg new
used_failed {seg} {new} stamp now u some in_use apart dead = record {
  pages = u.pages;
  placed = tt;
  held = tt;
  same = λ not. u.held ∙ (ap (set seg.held seg.next) (sym dead) ∙ set-get_or seg.held seg.next None);
  spent = λ placed. absurd placed;
  failed = λ fault. inl (used_spent u some);
  tried = record { placed = tt; failed = λ fault. inl (seg.next, used_tries u some in_use apart); others = used_others u some in_use apart };
  clean = used_clean u some;
  waits = used_waits u some;
  frees = inl (u.free, used_next u some, tt);
  kept = used_kept u some;
  wears = counts_used u.uses u.soiled;
  names = u.names;
}

pub used_placed : {h : Held} {seg new : Physical} (page stamp : ℕ) → page ≡ seg.next → UsesNextPage (Some h) seg new → 0 < seg.left → is_kept seg (seg.next / seg.size) ≡ false → (IsNextCopy seg seg.next → ⊥) → IsDead seg page
    → Placing stamp (λ at. set seg.held at.name (Some h)) (the.Placed (record { name = page; stamp = stamp })) seg new
used_placed {h} {seg} {new} page stamp at u some in_use apart dead = record {
  pages = u.pages;
  placed = (dead, refl);
  held = u.held ∙ ap (λ n. set seg.held n (Some h)) (sym at);
  same = λ not. absurd (not tt);
  spent = λ placed. used_spent u some;
  failed = λ fault. absurd (cc fault);
  tried = record { placed = subst (λ n. TriesForName n seg new) (sym at) (used_tries u some in_use apart); failed = λ fault. absurd (cc fault); others = used_others u some in_use apart };
  clean = used_clean u some;
  waits = used_waits u some;
  frees = inl (u.free, used_next u some, (omega (arith, at), omega (arith, at, some)));
  kept = used_kept u some;
  wears = counts_used u.uses u.soiled;
  names = u.names;
}

-- a Free block was opened before
module _ {block : ℕ} {seg mid : Physical} (o : OpensFreeBlock block seg mid) where
  pub opened_dead : (p : ℕ) → IsDead mid p → IsDead seg p
  opened_dead p dead = record {
    within = within_same p (range_of (pages_back o.pages)) dead.within;
    dead = ap (λ (l : List (Option Held)). get_or l p None) (sym o.held) ∙ dead.dead;
    own = λ old. dead.own (subst (λ (ps : List (ℕ × ℕ)). (target : ℕ) × Contains ps (p, target)) (sym o.names.same_pairs) old);
    apart = λ at. dead.apart (o.names.same_victim ∙ (at ∙ ap (λ k. Some (p / k)) (sym o.pages.same_size)));
  }

  opened_room : room mid ≡ room seg
  opened_room =
      let less : (mid.free - 1) * mid.size ≡ (seg.free - 1 - 1) * seg.size = (λ i. (less_free i) * o.pages.same_size i) in
      let one : (seg.free - 1 - 1) * seg.size + seg.size ≡ (seg.free - 1) * seg.size = one_less (seg.free - 1) seg.size two in
      let full = o.full in
      let left = o.left in
      omega (arith, less, one, full, left)
    where
      two : 1 ≤ seg.free - 1
      two = let a = o.free in let b = o.some in omega (arith, a, b)

      less_free : mid.free - 1 ≡ seg.free - 1 - 1
      less_free = let a = o.free in omega (arith, a)

      one_less : (n p : ℕ) → 1 ≤ n → (n - 1) * p + p ≡ n * p
      one_less n p some =
          let e : (n - 1) + 1 ≡ n = omega (arith, some) in
          subst (λ k. (n - 1) * p + p ≡ k * p) e (omega arith)

  opened_soiled : (new : Physical) (b : ℕ) → (soiled new b ≡ soiled mid b) ⊎ ((is_free mid b ≡ true) × (soiled new b ≡ None)) → (soiled new b ≡ soiled seg b) ⊎ ((is_free seg b ≡ true) × (soiled new b ≡ None))
  opened_soiled new b x = ⊎_elim
      (λ at. ⊎_elim
      (λ same. inr (ap (is_free seg) at ∙ o.was_free, same ∙ ap (soiled mid) at ∙ ap (λ (l : List (Option ℕ)). get_or l block None) o.soiled ∙ none_there seg.soiled block))
      (λ gone. absurd (true≢false (sym gone.0 ∙ (ap (is_free mid) at ∙ o.here))))
      x)
      (λ ne. ⊎_elim
      (λ same. inl (same ∙ ap (λ (l : List (Option ℕ)). get_or l b None) o.soiled ∙ get_or-set_other seg.soiled block b None None ne))
      (λ gone. inr (ap (λ (w : Use). w.is_free) (sym (o.others b ne)) ∙ gone.0, gone.1))
      x)
      (cases_eq b block)

  pub opened_spent : {new : Physical} → 0 < seg.size → IsSpent mid new → IsSpent seg new
  opened_spent {new} some spent =
      let r = opened_room in
      let a = spent.room in
      let left = o.left in
      let none : cond (nat_le 1 mid.left) 0 1 ≡ zero_of = cond-true (nat_le 1 mid.left) 0 1 (le-leb 1 mid.left (omega (arith, left, some))) in
      let t = spent.taken in
      let f = o.free in
      let full = o.full in
      let one : cond (nat_le 1 seg.left) 0 1 ≡ one_of = cond-false (nat_le 1 seg.left) 0 1 (ap (nat_le 1) full) in
      record { room = omega (arith, r, a); taken = omega (arith, none, one, t, f); soiled = λ b. opened_soiled new b (spent.soiled b) }
    where
      zero_of : ℕ
      zero_of = 0

      one_of : ℕ
      one_of = 1

  pub opened_clean : IsClean seg → IsClean mid
  opened_clean clean b free = ⊎_elim
      (λ is. absurd (true≢false (sym free ∙ (ap (is_kept mid) is ∙ o.in_use))))
      (λ ne. ap (λ (l : List (Option ℕ)). is_some (get_or l b None)) o.soiled ∙ (ap is_some (get_or-set_other seg.soiled block b None None ne) ∙ clean b (ap (λ (w : Use). w.is_kept) (sym (o.others b ne)) ∙ free)))
      (cases_eq b block)

  opened_waits : (b : ℕ) → is_waiting mid b ≡ is_waiting seg b
  opened_waits b = ⊎_elim
      (λ at. ap (is_waiting mid) at ∙ (wait_not mid block o.in_use ∙ sym (ap (is_waiting seg) at ∙ wait_free seg block o.was_free)))
      (λ ne. ap waits (o.others b ne))
      (cases_eq b block)

  opened_frees : (b : ℕ) → is_free mid b ≡ true → is_free seg b ≡ true
  opened_frees b free = ⊎_elim
      (λ at. absurd (true≢false (sym free ∙ (ap (is_free mid) at ∙ o.here))))
      (λ ne. ap (λ (w : Use). w.is_free) (sym (o.others b ne)) ∙ free)
      (cases_eq b block)

  pub opened_placing : {new : Physical} {answer : Named} (stamp : ℕ) (h : Held) → 0 < seg.size → Placing stamp (λ at. set mid.held at.name (Some h)) answer mid new
      → Placing stamp (λ at. set seg.held at.name (Some h)) answer seg new
  opened_placing {new} {answer} stamp h some p = record {
    pages = pages_then o.pages p.pages;
    placed = if_placed answer (λ at is. (opened_dead at.name is.0, is.1)) p.placed;
    held = if_placed answer (λ at is. is ∙ ap (λ (l : List (Option Held)). set l at.name (Some h)) o.held) p.held;
    same = λ not. p.same not ∙ o.held;
    spent = λ placed. opened_spent some (p.spent placed);
    failed = λ failed. inl (opened_spent some (⊎_elim (λ spent. spent) (λ x. absurd (x.1 (inl ready))) (p.failed failed)));
    tried = record {
      placed = if_placed answer (λ at t. opened_tries o some p.wears at.name t) p.tried.placed;
      failed = λ failed. ⊎_elim (λ t. inl (t.0, opened_tries o some p.wears t.0 t.1)) (λ x. absurd (x.1 (inl ready))) (p.tried.failed failed);
      others = opened_others o some p.wears p.tried.others;
    };
    clean = λ clean. p.clean (opened_clean clean);
    waits = λ b. p.waits b ∙ opened_waits b;
    frees = inr (⊎_elim (λ same. let e = same.0 in let a = o.some in omega (arith, e, a)) (λ some. some) p.frees);
    kept = λ k. p.kept o.kept;
    wears = counts_then opened_frees o.wears p.wears;
    names = names_then o.names p.names;
  }
    where
      ready : 0 < mid.left
      ready = let left = o.left in omega (arith, left, some)

-- the page was placed after a block was opened, or in the one that is written to
pub placing_then : {seg mid new : Physical} {answer : Named} (stamp : ℕ) (h : Held) → 0 < seg.size → OpensForProgram wrote.Done seg mid → Placing stamp (λ at. set mid.held at.name (Some h)) answer mid new
    → Placing stamp (λ at. set seg.held at.name (Some h)) answer seg new
placing_then {seg} {mid} {new} {answer} stamp h some (inl same) p = subst (λ (q : Physical). Placing stamp (λ at. set q.held at.name (Some h)) answer q new) same.1 p
placing_then {seg} {mid} {new} {answer} stamp h some (inr o) p = opened_placing o.1 stamp h some p

pub opening_pages : {seg mid : Physical} → OpensForProgram wrote.Done seg mid → SameBlocksAndPages seg mid
opening_pages {seg} {mid} (inl same) = subst (SameBlocksAndPages seg) (sym same.1) (record { same_first = refl; same_blocks = refl; same_size = refl; same_wear = λ b. refl })
opening_pages (inr o) = o.1.pages

pub opening_dead : {seg mid : Physical} → OpensForProgram wrote.Done seg mid → (p : ℕ) → IsDead mid p → IsDead seg p
opening_dead (inl same) p dead = subst (λ (q : Physical). IsDead q p) same.1 dead
opening_dead (inr o) p dead = opened_dead o.1 p dead

-- the same value on a page
value : {seg mid : Physical} → OpensForProgram wrote.Done seg mid → (tag : Tag) (stamp : ℕ) (main : List ℕ) (page : ℕ) → written (page_with main tag stamp (wear_of mid (page / mid.size))) ≡ written (page_with main tag stamp (wear_of seg (page / seg.size)))
value {seg} {mid} opening tag stamp main page =
    let pages = opening_pages opening in
    ap (λ w. written (page_with main tag stamp w)) (ap (λ n. wear_of mid (page / n)) pages.same_size ∙ pages.same_wear (page / seg.size))

-- what that does to the medium
module _ {M : Type 0} {clock : M → ℕ} {contents : M → Image} {left : M → ℕ → Image → Type 0} {seg mid : Physical} {a b : M} (opening : OpensForProgram wrote.Done seg mid) (on : OpeningOn clock contents left wrote.Done seg mid a b)
    (tag : Tag) (stamp : ℕ) (main : List ℕ) (answer : Named) where
  programmed_then : (d : M) → IfPlaced answer (λ at. IsDead mid at.name) → IfPlaced answer (λ at. at.name ≡ mid.next)
      → IfPlaced answer (λ at. IsAlone at.name (written (page_with main tag stamp (wear_of mid (at.name / mid.size)))) (contents b) (contents d))
      → IfPlaced answer (λ at. PageIsProgrammed seg at.name (written (page_with main tag stamp (wear_of seg (at.name / seg.size)))) (contents a) (contents d))
  programmed_then d dead next alone = if_placed_three answer (λ at dead_is next_is alone_is. record {
    dead = opening_dead opening at.name dead_is;
    has = alone_is.has ∙ value opening tag stamp main at.name;
    others = λ p ne. ⊎_elim
        (λ same. inl (alone_is.others p ne ∙ same))
        (λ x. let here : mid.next / seg.size ≡ at.name / seg.size = ap (λ n. n / seg.size) (sym next_is) in
        inr (x.0 ∙ here, ap (is_free seg) (sym here) ∙ x.1, ap (is_soiled seg) (sym here) ∙ x.2, alone_is.others p ne ∙ x.3))
        (on.others refl p);
  }) dead next alone

  crashes_then : {d : M} → (IsPlaced answer → Earlier (clock b) (clock d)) → Crashes clock contents left mid tag stamp main b d answer → Crashes clock contents left seg tag stamp main a d answer
  crashes_then {d} strict k = record {
    page = k.page;
    named = k.named;
    either = ⊎_elim (λ x. inl (keeps_then (opening_dead opening) on.keeps x)) (λ x. inr (takes_on (contents d) x)) k.either;
    crash = turns_later (IsPlaced answer) (λ c. PreservesSegment seg (contents a) c) (λ c. PlacesOnImage seg k.page tag stamp main (contents a) c) on.crash
        (weaken (Turns (IsPlaced answer) (clock d) (λ c. PreservesSegment mid (contents b) c) (λ c. PlacesOnImage mid k.page tag stamp main (contents b) c))
        (Turns (IsPlaced answer) (clock d) (λ c. PreservesSegment seg (contents a) c) (λ c. PlacesOnImage seg k.page tag stamp main (contents a) c)) k.crash
        (λ m c from to is. ⊎_elim (λ x. inl (x.0, keeps_then (opening_dead opening) on.keeps x.1)) (λ x. inr (takes_on c x)) is))
        strict;
  }
    where
      takes_on : (c : Image) → PlacesOnImage mid k.page tag stamp main (contents b) c → PlacesOnImage seg k.page tag stamp main (contents a) c
      takes_on c x = record {
        takes = subst (λ v. TakesImagePage seg k.page v (contents a) c) (value opening tag stamp main k.page) (takes_then (opening_dead opening) on.keeps x.takes);
        shows = sym (ap shown_by (value opening tag stamp main k.page)) ∙ x.shows;
      }

  -- a block was opened, and then the page was programmed
  pub writes_then : {new : Physical} {d : M} → IfPlaced answer (λ at. IsDead mid at.name) → IfPlaced answer (λ at. at.name ≡ mid.next) → (IsPlaced answer → Earlier (clock b) (clock d)) → ProgramsOn clock contents left tag stamp main answer mid new b d
      → WritesOn clock contents left tag stamp main answer seg new a d
  writes_then {new} {d} dead next strict p = record { segment = p.segment; programmed = programmed_then d dead next p.alone; crash = crashes_then strict p.crash }

-- an erase failed
pub opening_failed : {seg new : Physical} (stamp : ℕ) (now : Pointer → List (Option Held)) → OpensForProgram wrote.Failed seg new → Placing stamp now the.Fault seg new
opening_failed {seg} {new} stamp now x = record {
  pages = x.0;
  placed = tt;
  held = tt;
  same = λ not. x.1;
  spent = λ placed. absurd placed;
  failed = λ fault. inr (x.2, x.3);
  tried = record { placed = tt; failed = λ fault. inr (x.2, x.3); others = unspent_others x.0.same_size x.2 };
  clean = λ clean b free. ap is_some (x.2.same_soiled b) ∙ clean b (sym (x.2.same_kept b) ∙ free);
  waits = λ b. wait_by seg new b (x.2.same_free b) (x.2.same_kept b);
  frees = inl (x.2.free, (λ p next. let a = x.2.next in let l = x.2.left in (omega (arith, a, next.0), omega (arith, a, l, next.1))), tt);
  kept = kept_same x.0 x.4 x.2.same_kept;
  wears = counts_same x.2.same_erasures x.2.same_soiled;
  names = x.4;
}

-- what it leaves of the medium
pub failed_on : {M : Type 0} {clock : M → ℕ} {contents : M → Image} {left : M → ℕ → Image → Type 0} {seg new : Physical} {a b : M} (tag : Tag) (stamp : ℕ) (main : List ℕ) → OpeningOn clock contents left wrote.Failed seg new a b
    → WritesOn clock contents left tag stamp main the.Fault seg new a b
failed_on {M} {clock} {contents} {left} {seg} {new} {a} {b} tag stamp main on = record {
  segment = on.segment;
  programmed = tt;
  crash = record {
    page = 0;
    named = tt;
    either = inl on.keeps;
    crash = weaken (λ m c. PreservesSegment seg (contents a) c) (Turns (IsPlaced the.Fault) (clock b) (λ c. PreservesSegment seg (contents a) c) (λ c. PlacesOnImage seg 0 tag stamp main (contents a) c)) on.crash
        (λ m c from to k. inl ((λ placed. absurd placed), k));
  };
}

-- no page was placed
if_none : (answer : Named) (P : Pointer → Type 0) → (IsPlaced answer → ⊥) → IfPlaced answer P
if_none (the.Placed at) P never = absurd (never tt)
if_none the.NotLive P never = tt
if_none the.NoPage P never = tt
if_none the.Fault P never = tt

-- nothing was tried
pub nothing_placed : (answer : Named) (stamp : ℕ) (now : Pointer → List (Option Held)) (seg : Physical) → (IsPlaced answer → ⊥) → (answer ≡ the.Fault → ⊥) → Placing stamp now answer seg seg
nothing_placed answer stamp now seg not no_fault = record {
  pages = record { same_first = refl; same_blocks = refl; same_size = refl; same_wear = λ b. refl };
  placed = if_none answer _ not;
  held = if_none answer _ not;
  same = λ n. refl;
  spent = λ placed. absurd (not placed);
  failed = λ fault. absurd (no_fault fault);
  tried = record { placed = if_none answer _ not; failed = λ fault. absurd (no_fault fault); others = still_others seg };
  clean = λ clean. clean;
  wears = record { each = λ b. inl (refl, refl) };
  waits = λ b. refl;
  frees = inl (refl, (λ p next. next), if_none answer _ not);
  kept = λ k. k;
  names = record { same_pairs = refl; same_pair_room = refl; same_victim = refl; copies = (refl, refl) };
}

-- nothing was written, and the medium is as it was
pub nothing_on : {M : Type 0} {clock : M → ℕ} {contents : M → Image} {left : M → ℕ → Image → Type 0} {seg : Physical} (a : M) (tag : Tag) (stamp : ℕ) (main : List ℕ) (answer : Named) → (IsPlaced answer → ⊥) → IsPhysicalOf (contents a) seg
    → WritesOn clock contents left tag stamp main answer seg seg a a
nothing_on a tag stamp main answer not is = record { segment = is; programmed = if_none answer _ not; crash = nothing_crashes a tag stamp main answer (if_none answer _ not) }
