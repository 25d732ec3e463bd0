-- A volume goes along its run.
use Rattle.std.proofs.Common.{◌≡◌, ◌⊎◌, inl, inr, ⊎_elim, ℕ, ◌+◌, ◌-◌, ◌<◌, ◌≤◌, ◌^◌, Bool, true, false, cond, max, nat_le, List, [], ◌∷◌, ◌++◌, fold, length, take, Option, refl, sym, ap, subst, ◌∙◌, arith, length-append}
use Rattle.std.proofs.lemmas.Bool.{cases_lt}
use Rattle.std.proofs.lemmas.List.{take-append-le, take_all}
use Rattle.nl_field.specs.CrashStates.{Earlier, saturated}
use Rattle.nl_field.specs.Members.{Has}
use Rattle.nl_field.specs.declared.shape.Shape.{Shape}
use Rattle.nl_tree.specs.Order.{SyncPoint, durable_prefix}
use Rattle.nl_tree.specs.Replay.{replay, step_marked}
use Rattle.nl_tree.specs.Tree.{Tree}
use Rattle.nl_tree.specs.declared.call.Call.{Call}
use Rattle.nl_tree.specs.declared.reply.FaultReply.{FaultReply}
use Rattle.nl_iface.specs.Calls.{stored}
use Rattle.nl_iface.specs.Stored.{Stored, stored_in}
use Rattle.nl_iface.specs.declared.counts.Counts.{Ghosts}
use Rattle.nl_meta.specs.Consistent.{PageOfStamp}
use Rattle.nl_spec_image.specs.Crash.{OpensAsPrefix, Run, with_call, with_sync}
use Rattle.nl_spec_image.specs.CrashConsistency.{LeavesTree}
use Rattle.nl_spec_image.proofs.CrashConsistencyProofs.{crash_leaves_consistent}
use Rattle.nl_spec_image.proofs.StopsKept.{more_calls, more_syncs}
use Rattle.nl_spec_commits.specs.Trees.{StoredOpensAs, Prefix, Trees, all_at, prefixes}
use Rattle.nl_core.specs.Goes.{PreservesVolume}
use Rattle.nl_core.specs.Trees.{CoreRepresentsTree, CoreIsObservable}
use Rattle.nl_core.specs.declared.state.Core.{Core}
use Rattle.nl_core.proofs.Onward.{paid_on}
use Rattle.nl_spec_crashes.specs.Along.{FollowsRun, IsAlong, IsOfRun, opens_as, tree_at}
use Rattle.nl_spec_crashes.specs.Laws.{CallFollowsRun, EffectFollowsRun, EndsDurable, OpeningFollowsRun, OpensConsistent, SyncFollowsRun}

-- ---- syncs

pub durable_within : (syncs : List SyncPoint) (count m n : ℕ) → count ≤ n → ((s : SyncPoint) → Has syncs s → s.upto ≤ n) → durable_prefix syncs count m ≤ n
unfolding durable_prefix
durable_within syncs count m n low each = go syncs count low each
  where
    go : (xs : List SyncPoint) (best : ℕ) → best ≤ n → ((s : SyncPoint) → Has xs s → s.upto ≤ n) → fold (λ b (sync : SyncPoint). cond (nat_le sync.moment m) (max b sync.upto) b) best xs ≤ n
    go [] best most upto = most
    go (s ∷ xs) best most upto = go xs (cond (nat_le s.moment m) (max best s.upto) best) (by (nat_le s.moment m)) (λ y has. upto y (inr has))
      where
        by : (b : Bool) → cond b (max best s.upto) best ≤ n
        by true = let one = upto s (inl refl) in omega (arith, most, one)
        by false = most

sync_of : (xs : List SyncPoint) (s y : SyncPoint) → Has (xs ++ s ∷ []) y → Has xs y ⊎ (s ≡ y)
sync_of [] s y (inl e) = inr e
sync_of [] s y (inr none) = absurd none
sync_of (x ∷ xs) s y (inl e) = inl (inl e)
sync_of (x ∷ xs) s y (inr has) = ⊎_elim (λ h. inl (inr h)) (λ e. inr e) (sync_of xs s y has)

-- ---- trees of a run

replay_more : (shape : Shape) (tree : Tree) (calls : List (Call × Option FaultReply)) (x : Call × Option FaultReply) → replay shape tree (calls ++ x ∷ []) ≡ (step_marked shape (replay shape tree calls) x).tree
unfolding replay
replay_more shape tree [] x = refl
replay_more shape tree (y ∷ calls) x = replay_more shape (step_marked shape tree y).tree calls x

replay_none : (shape : Shape) (tree : Tree) → replay shape tree [] ≡ tree
unfolding replay
replay_none shape tree = refl

one_of : (run : Run) (count : ℕ) (t : Trees) (z : Prefix) → IsOfRun run t.committed → IsOfRun run t.frozen → IsOfRun run (count, t.running) → Has (prefixes count t) z → IsOfRun run z
one_of run count t z a b c (inl e) = subst (IsOfRun run) e a
one_of run count t z a b c (inr (inl e)) = subst (IsOfRun run) e b
one_of run count t z a b c (inr (inr (inl e))) = subst (IsOfRun run) e c
one_of run count t z a b c (inr (inr (inr none))) = absurd none

no_earlier : (count : ℕ) (t : Trees) (z : Prefix) → t.committed.0 ≤ t.frozen.0 → t.frozen.0 ≤ count → Has (prefixes count t) z → t.committed.0 ≤ z.0
no_earlier count t z one two (inl e) = let same = ap (λ (x : Prefix). x.0) e in omega (arith, same)
no_earlier count t z one two (inr (inl e)) = let same = ap (λ (x : Prefix). x.0) e in omega (arith, same, one)
no_earlier count t z one two (inr (inr (inl e))) = let same = ap (λ (x : Prefix). x.0) e in omega (arith, same, one, two)
no_earlier count t z one two (inr (inr (inr none))) = absurd none

-- one call more
of_longer : (run : Run) (x : Call × Option FaultReply) (z : Prefix) → IsOfRun run z → IsOfRun (with_call run x) z
of_longer run x z is =
    let to = is.to in
    let more = length-append run.calls (x ∷ []) in
    record {
      from = is.from;
      to = omega (arith, to, more);
      tree = is.tree ∙ ap (replay run.shape run.tree) (sym (take-append-le (z.0 - run.count) run.calls (x ∷ []) (omega (arith, to))));
    }

module _ {D : Type 0} (g : Ghosts D) where
  told_before : (n : ℕ) (u v : Core D) → PreservesVolume g n u v → CoreIsObservable g v → CoreIsObservable g u
  told_before n u v a told = record {
    tells = told.tells;
    numbers = let one = a.numbers in let all = told.numbers in omega (arith, one, all);
    calls = subst (λ k. k < 9223372036854775808) a.count told.calls;
    moments = let one = a.clock in let all = told.moments in omega (arith, one, all);
  }

  -- the last tree is of the run
  at_end : (run : Run) (v : Core D) (page_of_stamp : ℕ → Option PageOfStamp) (t : Trees) → v.count ≡ saturated (run.count + length run.calls) → CoreIsObservable g v → IsAlong g run v page_of_stamp t → IsOfRun run (v.count, t.running)
  at_end run v page_of_stamp t count told al =
      let few = told.calls in
      record { from = omega (arith, count, few); to = omega (arith, count, few); tree = al.running }

  -- what a call may leave that was not left before
  module _ (n : ℕ) (u v : Core D) (origin : Core D) (first : ℕ) (run : Run) (a : PreservesVolume g n u v) (w : FollowsRun g origin first run u) (told : CoreIsObservable g v) where
    told_u : CoreIsObservable g u
    told_u = told_before n u v a told

    k : (page_of_stamp : ℕ → Option PageOfStamp) × (t : Trees) × IsAlong g run u page_of_stamp t
    k = w.trees told_u

    al : IsAlong g run u k.0 k.1
    al = k.2

    now : IsOfRun run (u.count, k.1.running)
    now = at_end run u k.0 k.1 w.count told_u al

    of_run : (z : Prefix) → Has (prefixes u.count k.1) z → IsOfRun run z
    of_run z = one_of run u.count k.1 z al.committed al.frozen now

    later : (z : Prefix) → Has (prefixes u.count k.1) z → k.1.committed.0 ≤ z.0
    later z = no_earlier u.count k.1 z al.stands.stands.later al.stands.stands.latest

    synced_by : (z : Prefix) → Has (prefixes u.count k.1) z → (s : SyncPoint) → Has run.syncs s → s.upto ≤ z.0
    synced_by z has s is = let one = al.synced s is in let two = later z has in omega (arith, one, two)

    opens_so : (m : ℕ) (c : g.Crash) (z : Prefix) → Has (prefixes u.count k.1) z → StoredOpensAs (g.shape u.device) (g.stored_of c) z → OpensAsPrefix (opens_as g run.shape) run m c
    opens_so m c z has opens =
        let is = of_run z has in
        record {
          prefix = z.0;
          holds_synced = durable_within run.syncs run.count m z.0 is.from (synced_by z has);
          not_beyond = is.to;
          sound = subst (λ tree. StoredOpensAs run.shape (g.stored_of c) (z.0, tree)) is.tree (subst (λ (h : Shape). StoredOpensAs h (g.stored_of c) z) w.shape opens);
        }

    pub trees_after : (page_of_stamp : ℕ → Option PageOfStamp) × (t : Trees) × IsAlong g run v page_of_stamp t
    trees_after =
        let go = a.trees told k.0 k.1 al.stands in (
          go.pages,
          go.trees,
          record {
            stands = go.stands;
            running = go.running ∙ (al.running ∙ ap (tree_at run) (sym a.count));
            committed = of_run go.trees.committed go.committed;
            frozen = of_run go.trees.frozen go.frozen;
            synced = λ s is. let one = al.synced s is in let two = go.later in omega (arith, one, two);
          },
        )

    -- each image was left before, or opens as a tree of the run
    pub left_after : (m : ℕ) (c : g.Crash) → g.left v.device m c
        → g.left origin.device m c ⊎ ((first ≤ m) × (m ≤ g.clock v.device) × OpensAsPrefix (opens_as g run.shape) run m c)
    left_after m c left =
        let l = a.left told k.0 k.1 (v.committed, k.1.running) refl al.stands in
        let from = w.from in
        let clock = a.clock in
        ⊎_elim (λ was. ⊎_elim inl (λ x. let to = x.1 in inr (x.0, omega (arith, to, clock), x.2)) ((w.stops told_u).each m c was))
        (λ x. let start = x.0 in inr (omega (arith, from, start), x.1, opens_so m c x.2.0 x.2.1 x.2.2))
        (l.each m c left)

    -- what was left before the call, at a moment from that of the last commit on
    held_before : ((v.moment ≡ u.moment) × (v.committed ≡ u.committed)) ⊎ (Earlier (g.clock u.device) v.moment × (g.clock u.device ≤ v.moment)) → (m : ℕ) (c : g.Crash) → g.left u.device m c → v.moment ≤ m
        → g.left origin.device m c ⊎ ((o : OpensAsPrefix (opens_as g run.shape) run m c) × (v.committed ≤ o.prefix))
    held_before (inl same) m c was from =
        let moment = same.0 in
        let committed = same.1 in
        ⊎_elim inl (λ x. let low = x.1 in inr (x.0, omega (arith, low, committed))) (w.held told_u m c was (omega (arith, from, moment)))
    held_before (inr later) m c was from =
        let few = told.moments in
        let clock = a.clock in
        let behind = later.0 (omega (arith, few, clock)) in
        ⊎_elim inl (λ x. let to = x.1 in absurd (let no : ⊥ = omega (arith, to, behind, from) in no)) ((w.stops told_u).each m c was)

    pub held_after : (m : ℕ) (c : g.Crash) → g.left v.device m c → v.moment ≤ m
        → g.left origin.device m c ⊎ ((o : OpensAsPrefix (opens_as g run.shape) run m c) × (v.committed ≤ o.prefix))
    unfolding opens_so
    held_after m c left from =
        let l = a.left told k.0 k.1 (v.committed, k.1.running) refl al.stands in
        ⊎_elim (λ was. held_before a.moment m c was from)
        (λ x. inr (opens_so m c x.2.0 x.2.1 x.2.2, x.2.3 from))
        (l.each m c left)

  runs_after : (n : ℕ) (u v : Core D) (origin : Core D) (first : ℕ) (run : Run) → PreservesVolume g n u v → FollowsRun g origin first run u → g.tells
      → (page_of_stamp : ℕ → Option PageOfStamp) × CoreRepresentsTree g v page_of_stamp (replay run.shape run.tree run.calls)
  runs_after n u v origin first run a w tells =
      let k = w.runs tells in
      let go = a.runs tells k.0 (replay run.shape run.tree run.calls) k.1 in
      (go.pages, go.runs)

  pub call_goes_along : CallFollowsRun g
  call_goes_along n u v origin first run a w = record {
    shape = a.same_shape ∙ w.shape;
    from = let one = w.from in let two = a.clock in omega (arith, one, two);
    count = a.count ∙ w.count;
    paid = paid_on g first origin.journal.number u v n a w.paid;
    runs = runs_after n u v origin first run a w;
    trees = λ told. trees_after n u v origin first run a w told;
    stops = λ told. record { each = left_after n u v origin first run a w told };
    held = λ told. held_after n u v origin first run a w told;
  }

  of_synced : (run : Run) (s : SyncPoint) (z : Prefix) → IsOfRun run z → IsOfRun (with_sync run s) z
  of_synced run s z is = record { from = is.from; to = is.to; tree = is.tree }

  pub sync_goes_along : SyncFollowsRun g
  sync_goes_along v origin first run w = record {
    shape = w.shape;
    from = w.from;
    count = w.count;
    paid = w.paid;
    runs = w.runs;
    trees = λ told.
        let k = w.trees told in
        let al : IsAlong g run v k.0 k.1 = k.2 in (
          k.0,
          k.1,
          record {
            stands = al.stands;
            running = al.running;
            committed = of_synced run s k.1.committed al.committed;
            frozen = of_synced run s k.1.frozen al.frozen;
            synced = λ y has. ⊎_elim (λ was. al.synced y was) (λ e. let is = al.stands.committed in let same = ap (λ (x : SyncPoint). x.upto) e in omega (arith, is, same)) (sync_of run.syncs s y has);
          },
        );
    stops = λ told. record { each = λ m c left. ⊎_elim inl (λ x. ⊎_elim inl (λ o. inr (x.0, x.1, o)) (by told m c left x.2 (cases_lt m v.moment))) ((w.stops told).each m c left) };
    held = λ told m c left from. ⊎_elim inl (λ x. let low = x.1 in inr (with_now told m c x.0 x.1, low)) (w.held told m c left from);
  }
    where
      s : SyncPoint
      s = record { upto = v.committed; moment = v.moment }

      -- a tree with as many calls as are committed has those of each sync
      with_now : CoreIsObservable g v → (m : ℕ) (c : g.Crash) (o : OpensAsPrefix (opens_as g run.shape) run m c) → v.committed ≤ o.prefix → OpensAsPrefix (opens_as g run.shape) (with_sync run s) m c
      with_now told m c o low =
          let k = w.trees told in
          let al : IsAlong g run v k.0 k.1 = k.2 in
          let is = al.stands.committed in
          let from = al.committed.from in
          record {
            prefix = o.prefix;
            holds_synced = durable_within (run.syncs ++ s ∷ []) run.count m o.prefix (omega (arith, from, is, low))
                (λ y has. ⊎_elim (λ was. let one = al.synced y was in omega (arith, one, is, low)) (λ e. let same = ap (λ (x : SyncPoint). x.upto) e in omega (arith, low, same)) (sync_of run.syncs s y has));
            not_beyond = o.not_beyond;
            sound = o.sound;
          }

      by : CoreIsObservable g v → (m : ℕ) (c : g.Crash) → g.left v.device m c → OpensAsPrefix (opens_as g run.shape) run m c → (m < v.moment) ⊎ (v.moment ≤ m)
          → g.left origin.device m c ⊎ OpensAsPrefix (opens_as g run.shape) (with_sync run s) m c
      by told m c left o (inl low) = inr (more_syncs (opens_as g run.shape) run s m c low o)
      by told m c left o (inr high) = ⊎_elim inl (λ x. inr (with_now told m c x.0 x.1)) (w.held told m c left high)

  pub effect_goes_along : EffectFollowsRun g
  effect_goes_along u v x origin first run e w = record {
    shape = e.same_shape ∙ w.shape;
    from = let one = w.from in let two = e.same_clock in omega (arith, one, two);
    count = let one = e.count in let two = w.count in let more = length-append run.calls (x ∷ []) in omega (arith, one, two, more);
    paid = λ low. let clock = e.same_clock in let number = e.same_number in let one = w.paid (omega (arith, low, clock)) in omega (arith, one, clock, number);
    runs = λ tells.
        let k = w.runs tells in
        let now : CoreRepresentsTree g v k.0 (step_marked (g.shape u.device) (replay run.shape run.tree run.calls) x).tree = e.runs tells k.0 (replay run.shape run.tree run.calls) k.1 in
        let is = (λ i. (step_marked (w.shape i) (replay run.shape run.tree run.calls) x).tree) ∙ sym (replay_more run.shape run.tree run.calls x) in
        (k.0, subst (λ (tree : Tree). CoreRepresentsTree g v k.0 tree) is now);
    trees = λ told.
        let k = w.trees (e.told told) in
        let al : IsAlong g run u k.0 k.1 = k.2 in (
          k.0,
          record k.1 { running = (step_marked (g.shape u.device) k.1.running x).tree },
          record {
            stands = e.trees told k.0 k.1 al.stands;
            running = last told k.1 al.running;
            committed = of_longer run x k.1.committed al.committed;
            frozen = of_longer run x k.1.frozen al.frozen;
            synced = al.synced;
          },
        );
    stops = λ told. record {
      each = λ m c left. ⊎_elim inl (λ o. let to = o.1 in let same = e.same_clock in inr (o.0, omega (arith, to, same), more_calls (opens_as g run.shape) run x m c o.2)) ((w.stops (e.told told)).each m c (e.left told.tells m c left));
    };
    held = λ told m c left from.
        let moment = e.same_moment in
        ⊎_elim inl (λ k. inr (longer m c k.0 k.1)) (w.held (e.told told) m c (e.left told.tells m c left) (omega (arith, from, moment)));
  }
    where
      longer : (m : ℕ) (c : g.Crash) (o : OpensAsPrefix (opens_as g run.shape) run m c) → u.committed ≤ o.prefix → (o' : OpensAsPrefix (opens_as g run.shape) (with_call run x) m c) × (v.committed ≤ o'.prefix)
      longer m c o low =
          let more = length-append run.calls (x ∷ []) in
          let to = o.not_beyond in
          let same = take-append-le (o.prefix - run.count) run.calls (x ∷ []) (omega (arith, to)) in
          let committed = e.same_committed in (
            record {
              prefix = o.prefix;
              holds_synced = o.holds_synced;
              not_beyond = omega (arith, more, to);
              sound = subst (λ (calls : List (Call × Option FaultReply)). opens_as g run.shape c o.prefix (replay run.shape run.tree calls)) (sym same) o.sound;
            },
            omega (arith, low, committed),
          )

      last : CoreIsObservable g v → (t : Trees) → t.running ≡ tree_at run u.count → (step_marked (g.shape u.device) t.running x).tree ≡ tree_at (with_call run x) v.count
      last told t running =
          let few = told.calls in
          let one = e.count in
          let two = w.count in
          let more = length-append run.calls (x ∷ []) in
          let whole : take (u.count - run.count) run.calls ≡ run.calls = take_all (u.count - run.count) run.calls (omega (arith, few, one, two)) in
          let longer : take (v.count - run.count) (run.calls ++ x ∷ []) ≡ run.calls ++ x ∷ [] = take_all (v.count - run.count) (run.calls ++ x ∷ []) (omega (arith, few, one, two, more)) in
          (λ i. (step_marked (w.shape i) ((running ∙ ap (replay run.shape run.tree) whole) i) x).tree)
          ∙ (sym (replay_more run.shape run.tree run.calls x) ∙ ap (replay run.shape run.tree) (sym longer))

  pub opening_goes_along : OpeningFollowsRun g
  opening_goes_along v tree stands few = record {
    shape = refl;
    from = omega arith;
    count = omega (arith, few);
    paid = λ low. omega arith;
    runs = λ tells. let k = stands tells in (k.0, subst (λ (t : Tree). CoreRepresentsTree g v k.0 t) (sym (replay_none (g.shape v.device) tree)) k.1.runs);
    trees = λ told.
        let k = stands told.tells in (
          k.0,
          all_at v.count tree,
          record { stands = k.1; running = is; committed = first; frozen = first; synced = λ s none. absurd none },
        );
    stops = λ told. record { each = λ m c left. inl left };
    held = λ told m c left from. inl left;
  }
    where
      run : Run
      run = record { shape = g.shape v.device; count = v.count; tree = tree; calls = []; syncs = [] }

      is : tree ≡ tree_at run v.count
      is = sym (ap (replay (g.shape v.device) tree) (take_all (v.count - v.count) [] (omega arith)) ∙ replay_none (g.shape v.device) tree)

      first : IsOfRun run (v.count, tree)
      first = record { from = omega arith; to = omega arith; tree = is }

  -- the tree after as many calls as are counted is that after all
  after_all : (run : Run) (v : Core D) → v.count ≡ saturated (run.count + length run.calls) → v.count < 2 ^ 63 → tree_at run v.count ≡ replay run.shape run.tree run.calls
  after_all run v count few = ap (replay run.shape run.tree) (take_all (v.count - run.count) run.calls (omega (arith, few, count)))

  pub ends_standing : EndsDurable g
  ends_standing v origin first run opens w all told =
      let k = w.trees told in
      let al : IsAlong g run v k.0 k.1 = k.2 in
      let count = al.stands.committed ∙ all in
      let tree = al.committed.tree ∙ ap (tree_at run) count ∙ after_all run v w.count told.calls in
      subst (λ (z : Prefix). StoredOpensAs run.shape (stored g v.device) z) (λ i. (count i, tree i))
      (subst (λ (h : Shape). StoredOpensAs h (stored g v.device) k.1.committed) w.shape (opens told k.0 k.1 al.stands))

-- ---- images

pub opens_sound : {D : Type 0} (g : Ghosts D) → OpensConsistent g
opens_sound g run m c image holds whole shape o =
    let l : StoredOpensAs run.shape (g.stored_of c) (o.prefix, tree_at run o.prefix) = o.sound in
    let tree = tree_at run o.prefix in
    record {
      prefix = o.prefix;
      holds_synced = o.holds_synced;
      not_beyond = o.not_beyond;
      sound = crash_leaves_consistent l.0 l.1 l.2 image o.prefix tree whole
          (subst (λ (h : Shape). LeavesTree h l.0 l.1 l.2 (stored_in image) o.prefix tree) shape (subst (λ (k : Stored). LeavesTree run.shape l.0 l.1 l.2 k o.prefix tree) holds l.3));
    }
