-- How a call that changes names ends, from what was read before it to what is left.
use Rattle.std.proofs.Common.{◌≡◌, ℕ, ◌+◌, ◌≤◌, ◌<◌, List, [], ◌++◌, length, Option, Some, None, refl, sym, ap, subst, ◌∙◌, arith}
use Rattle.std.proofs.lemmas.List.{append-nil}
use Rattle.std.specs.Prelude.{IfSome}
use Rattle.nl_field.specs.Graph.{Graph}
use Rattle.nl_field.specs.PointerItems.{PointerItems}
use Rattle.nl_field.specs.declared.shape.Shape.{Shape}
use Rattle.nl_dir.specs.Directory.{HasRoomForDirty}
use Rattle.nl_iface.specs.Calls.{StoresPages}
use Rattle.nl_iface.specs.Device.{IsVolumeShape}
use Rattle.nl_iface.specs.declared.counts.Counts.{Ghosts}
use Rattle.nl_inode.specs.Nodes.{Spaces, page_of_node}
use Rattle.nl_meta.specs.Consistent.{PageOfStamp}
use Rattle.nl_meta.specs.Nodes.{graph_of}
use Rattle.nl_meta.specs.Pages.{Pages, besides_0}
use Rattle.nl_meta_running.specs.Reading.{ReadsExplainStop}
use Rattle.nl_meta_running.specs.Running.{IsUsedNode, PreservesRunning, running_on}
use Rattle.nl_meta_running.specs.declared.answer.Stop.{Stop}
use Rattle.nl_meta_running.specs.declared.answer.Stop.TheVariants as stop
use Rattle.nl_tree.specs.Step.{step}
use Rattle.nl_tree.specs.Tree.{Tree}
use Rattle.nl_tree.specs.declared.call.Call.{Call}
use Rattle.nl_tree.specs.declared.reply.Refusal.{Refusal}
use Rattle.nl_tree.specs.declared.reply.Reply.TheVariants.{No}
use Rattle.nl_journal_commit.specs.Holding.{running_holders}
use Rattle.nl_core.specs.Core.{IsCore}
use Rattle.nl_core.specs.declared.state.Core.{Core}
use Rattle.nl_calls_steps.specs.Steps.{ReadAlike, ReadsOn, Steps}
use Rattle.nl_calls_files.proofs.DirtyRoom.{few_has_room}
use Rattle.nl_calls_steps.proofs.Stepping.{read_alike, reads_rise, steps_then}
use Rattle.nl_namespace.specs.Calls.{ChangesInTree, ChangesNames}
use Rattle.nl_namespace.specs.Changing.{Changes, ChangeLeaves}
use Rattle.nl_namespace.specs.Reading.{change_stop}
use Rattle.nl_namespace.specs.Taking.{TakesLeast}
use Rattle.nl_namespace.specs.declared.answer.Change.{Change}
use Rattle.nl_namespace.specs.declared.answer.Change.TheVariants as change
use Rattle.nl_namespace.proofs.Taking.{takes-none}
use Rattle.nl_calls_names.specs.Dropping.{DropsNode}
use Rattle.nl_calls_names.specs.Gathering.{GathersOn, OpensNode, graph_on, node_lost, pointers_of_node}
use Rattle.nl_calls_names.specs.Naming.{AnswersAs, EndsAsStep, MetadataRepresents, TakesLeastOn, answer_of, naming_stop, stopped_by}
use Rattle.nl_core.specs.Lines.{Withdraws}
use Rattle.nl_calls_names.specs.Settling.{CanDrop, IfGone, SettlesChange}
use Rattle.nl_calls_names.specs.declared.answer.Naming.{Naming}
use Rattle.nl_calls_names.specs.declared.answer.Naming.TheVariants as naming
use Rattle.nl_calls_names.proofs.Cores.{few_held, fits_of, renamed_core, renamed_step, roomy_core, roomy_step}
use Rattle.nl_calls_names.proofs.Dropped.{has_of_pool, is_below, is_spelled}
use Rattle.nl_calls_names.proofs.Ended.{Ended, below_then, ended_all_named, ended_dropped, there_then, volume_then}
use Rattle.nl_calls_names.proofs.Gathered.{same_graph, then_reads, then_used}
use Rattle.nl_calls_names.proofs.Graphs.{is_lost}
use Rattle.nl_calls_names.proofs.Settled.{short_items, short_room}
use Rattle.nl_calls_names.proofs.Stepped.{holds_tree, is_done, runs_stepped}

-- what a call leaves that ended so
pub record Named {D : Type 0} (g : Ghosts D) (call : Call) (v x : Core D) (answer : Naming) : Type 0 where
  pub core : IsCore g x
  pub steps : Steps g v x
  pub flight : x.flight ≡ v.flight
  pub answers : AnswersAs g call v x answer
  pub takes : TakesLeastOn g v x
  pub reads : ReadsExplainStop g v.device x.device (naming_stop answer)

stop_same : (answer : Change) → naming_stop (answer_of answer) ≡ change_stop answer
stop_same (change.Changed _) = refl
stop_same (change.No refusal) = refl
stop_same change.Fault = refl
stop_same (change.Lost w f) = refl

-- ---- the tree stays

-- Pages were read, and the list of pointers holds what it held.
module _ {D : Type 0} (g : Ghosts D) (v : Core D) (core : IsCore g v) (volume : IsVolumeShape (g.shape v.device)) (x : Core D) (on : ReadsOn g v (record x { freeing = v.freeing })) (items : x.freeing.items ≡ v.freeing.items)
    (room : length v.freeing.items + v.freeing.room ≤ length x.freeing.items + x.freeing.room) (formed : g.formed x.device) (stores : g.tells → StoresPages g x.device) where
  abbrev read : Core D
  read = record x { freeing = v.freeing }

  alike : ReadAlike g v read
  alike = read_alike g v read volume formed stores on

  pub volume_read : IsVolumeShape (g.shape x.device)
  volume_read = subst IsVolumeShape (sym on.runs.reads.medium.virtual.same_shape) volume

  pub core_stays : IsCore g x
  core_stays = roomy_core g read x.freeing items room (alike.core core) volume_read stores

  pub steps_stay : Steps g v x
  steps_stay = steps_then g v read x alike.steps (roomy_step g read x.freeing items room)

  pub flight_stays : x.flight ≡ v.flight
  flight_stays = ap (λ (y : Core D). y.flight) on.others

  pub takes_nothing : TakesLeastOn g v x
  takes_nothing =
      subst (λ (z : Spaces). TakesLeast v.nodes z (graph_on g v) (graph_on g x)) (sym (ap (λ (y : Core D). y.nodes) on.others))
      (takes-none v.nodes (graph_on g v) (graph_on g x) (λ k. ap (λ (z : Graph). (z k).generation) (same_graph g v read volume on)))

  pub tree_stays : (page_of_stamp : ℕ → Option PageOfStamp) (tree : Tree) → MetadataRepresents g v page_of_stamp tree → MetadataRepresents g x page_of_stamp tree
  tree_stays = alike.trees

-- ---- it was ended before the names were touched

module _ {D : Type 0} (g : Ghosts D) (call : Call) (v : Core D) (core : IsCore g v) (volume : IsVolumeShape (g.shape v.device)) (w : Core D) (gathers : GathersOn g v w []) (formed : g.formed w.device) (stores : g.tells → StoresPages g w.device) where
  as_were : w.freeing.items ≡ v.freeing.items
  as_were = gathers.items ∙ append-nil v.freeing.items

  ends : (stop : Stop) (page_of_stamp : ℕ → Option PageOfStamp) (tree : Tree) → MetadataRepresents g w page_of_stamp tree → EndsAsStep g call w page_of_stamp tree (stopped_by stop)
  ends stop.Fault page_of_stamp tree h = h
  ends (stop.Lost a b) page_of_stamp tree h = h

  stops : (stop : Stop) → naming_stop (stopped_by stop) ≡ Some stop
  stops stop.Fault = refl
  stops (stop.Lost a b) = refl

  pub named_early : (stop : Stop) → ReadsExplainStop g v.device w.device (Some stop) → Named g call v w (stopped_by stop)
  named_early stop reads = record {
    core = core_stays g v core volume w gathers.reads as_were gathers.room formed stores;
    steps = steps_stay g v core volume w gathers.reads as_were gathers.room formed stores;
    flight = flight_stays g v core volume w gathers.reads as_were gathers.room formed stores;
    answers = λ page_of_stamp tree h. ends stop page_of_stamp tree (tree_stays g v core volume w gathers.reads as_were gathers.room formed stores page_of_stamp tree h);
    takes = takes_nothing g v core volume w gathers.reads as_were gathers.room formed stores;
    reads = subst (λ (o : Option Stop). ReadsExplainStop g v.device w.device o) (sym (stops stop)) reads;
  }

-- ---- the names were touched

module _ {D : Type 0} (g : Ghosts D) (call : Call) (v : Core D) (core : IsCore g v) (volume : IsVolumeShape (g.shape v.device)) (few : HasRoomForDirty 9 v.meta) (w : Core D)
    (gathers : GathersOn g v w (pointers_of_node (graph_on g v) (node_lost (graph_on g v) call))) (opens : IfSome (node_lost (graph_on g v) call) (OpensNode g v w)) (no_fault : g.read_faults w.device ≡ g.read_faults v.device)
    (formed_then : g.formed w.device) (stores_then : g.tells → StoresPages g w.device) where
  abbrev pub u : Core D
  u = record w { freeing = v.freeing }

  read_first : ReadAlike g v u
  read_first = read_alike g v u volume formed_then stores_then gathers.reads

  pub core_then : IsCore g u
  core_then = read_first.core core

  pub volume_u : IsVolumeShape (g.shape w.device)
  volume_u = subst IsVolumeShape (sym gathers.reads.runs.reads.medium.virtual.same_shape) volume

  pub room_then : HasRoomForDirty 8 w.meta
  room_then = let e = ap (λ (xs : List ℕ). length (besides_0 xs)) gathers.reads.runs.dirty in omega (arith, e, few)

  graphs : graph_on g u ≡ graph_on g v
  graphs = same_graph g v u volume gathers.reads

  -- what is taken since the pages were read is taken since before
  takes_first : (z : Core D) → TakesLeastOn g u z → TakesLeastOn g v z
  takes_first z takes =
      subst (λ (h : Graph). TakesLeast v.nodes z.nodes h (graph_on g z)) graphs
      (subst (λ (n : Spaces). TakesLeast n z.nodes (graph_on g u) (graph_on g z)) (ap (λ (y : Core D). y.nodes) gathers.reads.others) takes)

  module _ (d : D) (q : Pages) (s : Spaces) (answer : Change) (names : ChangesNames w.nodes (graph_on g w) (graph_of (g.shape d) (running_on g d q)) call answer) (left : ChangeLeaves g w.device w.meta w.nodes d q s answer)
      (reads : ReadsExplainStop g w.device d (change_stop answer)) where
    abbrev mid : Core D
    mid = record w { device = d; meta = q; nodes = s }

    reads_all : ReadsExplainStop g v.device d (naming_stop (answer_of answer))
    reads_all = subst (λ (o : Option Stop). ReadsExplainStop g v.device d o) (sym (stop_same answer))
        (then_reads g v.device w.device d gathers.reads.runs.reads.medium.virtual.same_stamps (change_stop answer) no_fault reads)

    faults : g.read_faults w.device ≤ g.read_faults d
    faults = reads_rise g w.device d (change_stop answer) reads

    -- the node that lost its name
    module _ (n : ℕ) (is : answer ≡ change.Changed (Some n)) where
      gone_names : ChangesNames w.nodes (graph_on g w) (graph_of (g.shape d) (running_on g d q)) call (change.Changed (Some n))
      gone_names = subst (λ (a : Change). ChangesNames w.nodes (graph_on g w) (graph_of (g.shape d) (running_on g d q)) call a) is names

      gone_left : Changes g w.device w.meta w.nodes d q s (Some n)
      gone_left = subst (λ (a : Change). ChangeLeaves g w.device w.meta w.nodes d q s a) is left

      lost_is : node_lost (graph_on g v) call ≡ Some n
      lost_is = ap (λ (z : Graph). node_lost z call) (sym graphs) ∙ is_lost w.nodes (graph_on g w) (graph_of (g.shape d) (running_on g d q)) n call gone_names

      opened : OpensNode g v w n
      opened = subst (λ (o : Option ℕ). IfSome o (OpensNode g v w)) lost_is opens

      used_then : IsUsedNode g w.device w.meta n
      used_then = then_used g v u volume gathers.reads n opened.used

      few_then : length (besides_0 q.dirty) < 63
      few_then = let e = ap (λ (xs : List ℕ). length (besides_0 xs)) gathers.reads.runs.dirty in let more = gone_left.few in omega (arith, e, few, more)

      pub can_drop : CanDrop n mid
      can_drop =
          let volume_d = volume_then g w.device w.meta w.nodes volume_u core_then.journaled.runs d q s call n gone_left gone_names used_then opened.there in
          let below = below_then g w.device w.meta w.nodes volume_u core_then.journaled.runs d q s call n gone_left gone_names used_then opened.there in
          let there = there_then g w.device w.meta w.nodes volume_u core_then.journaled.runs d q s call n gone_left gone_names used_then opened.there in
          record {
            there = there;
            spelled = is_spelled g d q s volume_d n gone_left.runs gone_left.fits below there;
            room = few_has_room q (page_of_node n) few_then;
            below = is_below g d q s volume_d n gone_left.runs gone_left.fits below there;
            pool = has_of_pool g d q s volume_d n gone_left.runs gone_left.fits below there;
          }

      module _ (now : Pages) (after : Spaces) (drops : DropsNode n q now s after) where
        pub dropped : Ended g w.device w.meta w.nodes d now after call (Some n)
        dropped = ended_dropped g w.device w.meta w.nodes volume_u core_then.journaled.runs d q s call n gone_left gone_names used_then opened.there (fits_of g u core_then) now after drops

        pub dropped_items : w.freeing.items ≡ u.freeing.items ++ pointers_of_node (graph_on g u) (Some n)
        dropped_items = gathers.items ∙ ap (λ (o : Option ℕ). v.freeing.items ++ pointers_of_node (graph_on g v) o) lost_is ∙ ap (λ (z : Graph). v.freeing.items ++ pointers_of_node z (Some n)) (sym graphs)

    pub if_gone : IfGone answer (λ n. CanDrop n mid)
    if_gone = by answer refl
      where
        by : (a : Change) → answer ≡ a → IfGone a (λ n. CanDrop n mid)
        by (change.Changed None) e = tt
        by (change.Changed (Some n)) e = can_drop n e
        by (change.No refusal) e = tt
        by change.Fault e = tt
        by (change.Lost a b) e = tt

    -- ---- it was settled

    module _ (law : ChangesInTree) (formed : g.formed d) (stores : g.tells → StoresPages g d) (first : ℕ) (is_first : first ≡ length v.freeing.items) (x : Core D) (settled : SettlesChange first answer mid x) where
      -- the call was done
      module _ (now : Pages) (after : Spaces) (f : PointerItems) (gone : Option ℕ) (done : answer_of answer ≡ naming.Done) (e : Ended g w.device w.meta w.nodes d now after call gone) (items : f.items ≡ u.freeing.items ++ pointers_of_node (graph_on g u) gone)
          (room : length u.freeing.items + u.freeing.room ≤ length f.items + f.room) where
        abbrev renamed : Core D
        renamed = record u { device = d; meta = now; nodes = after; freeing = f }

        few_now : length (running_holders g d now) ≤ (g.shape u.device).cap
        few_now = few_held g u d now after f call gone e faults items room core_then volume_u

        answers : (page_of_stamp : ℕ → Option PageOfStamp) (tree : Tree) → MetadataRepresents g v page_of_stamp tree → EndsAsStep g call renamed page_of_stamp tree naming.Done
        answers page_of_stamp tree h =
            let at = read_first.trees page_of_stamp tree h in (
              is_done g w.device w.meta w.nodes d now after call gone e (fits_of g u core_then) few_now law page_of_stamp tree at,
              runs_stepped g w.device w.meta w.nodes d now after call gone e (fits_of g u core_then) few_now law page_of_stamp tree at,
            )

        named_done : Named g call v renamed (answer_of answer)
        named_done = record {
          core = renamed_core g u d now after f call gone e faults items room core_then volume_u formed stores;
          steps = steps_then g v u renamed read_first.steps (renamed_step g u d now after f call gone e faults items room);
          flight = ap (λ (y : Core D). y.flight) gathers.reads.others;
          answers = subst (λ (a : Naming). AnswersAs g call v renamed a) (sym done) answers;
          takes = takes_first renamed e.takes;
          reads = reads_all;
        }

      -- the names stay
      module _ (on : PreservesRunning g w.device w.meta d q × (s ≡ w.nodes)) (short : Withdraws first mid x) where
        x_is : x ≡ record u { device = d; meta = q; freeing = x.freeing }
        x_is = short.others ∙ ap (λ (z : Spaces). record w { device = d; meta = q; nodes = z; freeing = x.freeing }) on.1

        abbrev y : Core D
        y = record u { device = d; meta = q; freeing = x.freeing }

        on_u : ReadsOn g u (record y { freeing = u.freeing })
        on_u = record { runs = on.0; read_faults = faults; others = refl }

        items : x.freeing.items ≡ v.freeing.items
        items = short_items mid x v.freeing _ first is_first gathers.items gathers.room short

        room : length v.freeing.items + v.freeing.room ≤ length x.freeing.items + x.freeing.room
        room = short_room mid x v.freeing _ first is_first gathers.items gathers.room short

        stands_y : (page_of_stamp : ℕ → Option PageOfStamp) (tree : Tree) → MetadataRepresents g v page_of_stamp tree → MetadataRepresents g y page_of_stamp tree
        stands_y page_of_stamp tree h = tree_stays g u core_then volume_u y on_u items room formed stores page_of_stamp tree (read_first.trees page_of_stamp tree h)

        named_same : ((page_of_stamp : ℕ → Option PageOfStamp) (tree : Tree) → MetadataRepresents g u page_of_stamp tree → MetadataRepresents g y page_of_stamp tree → EndsAsStep g call y page_of_stamp tree (answer_of answer)) → Named g call v x (answer_of answer)
        named_same ends = subst (λ (z : Core D). Named g call v z (answer_of answer)) (sym x_is) (record {
          core = core_stays g u core_then volume_u y on_u items room formed stores;
          steps = steps_then g v u y read_first.steps (steps_stay g u core_then volume_u y on_u items room formed stores);
          flight = flight_stays g u core_then volume_u y on_u items room formed stores ∙ ap (λ (z : Core D). z.flight) gathers.reads.others;
          answers = λ page_of_stamp tree h. ends page_of_stamp tree (read_first.trees page_of_stamp tree h) (stands_y page_of_stamp tree h);
          takes = takes_first y (takes_nothing g u core_then volume_u y on_u items room formed stores);
          reads = reads_all;
        })

        same_shapes : g.shape d ≡ g.shape w.device
        same_shapes = on.0.reads.medium.virtual.same_shape

        -- a refusal is the step's
        refused : (refusal : Refusal) → answer ≡ change.No refusal → (page_of_stamp : ℕ → Option PageOfStamp) (tree : Tree) → MetadataRepresents g u page_of_stamp tree → step (g.shape d) tree call ≡ record { reply = No refusal; bytes = []; tree = tree }
        refused refusal is page_of_stamp tree h = subst (λ (z : Shape). step z tree call ≡ record { reply = No refusal; bytes = []; tree = tree }) (sym same_shapes)
            (law (g.shape w.device) (running_on g w.device w.meta) page_of_stamp w.nodes (graph_of (g.shape d) (running_on g d q)) tree call (change.No refusal) (holds_tree g w.device w.meta w.nodes page_of_stamp tree (fits_of g u core_then) h)
            (subst (λ (a : Change). ChangesNames w.nodes (graph_on g w) (graph_of (g.shape d) (running_on g d q)) call a) is names))

      pub named : Named g call v x (answer_of answer)
      named = by answer refl left settled
        where
          by : (a : Change) → answer ≡ a → ChangeLeaves g w.device w.meta w.nodes d q s a → SettlesChange first a mid x → Named g call v x (answer_of answer)
          by (change.Changed None) e l z = subst (λ (k : Core D). Named g call v k (answer_of answer)) (sym z.others)
              (named_done q s x.freeing None (ap answer_of e)
              (ended_all_named g w.device w.meta w.nodes d q s call l (subst (λ (a : Change). ChangesNames w.nodes (graph_on g w) (graph_of (g.shape d) (running_on g d q)) call a) e names))
              (short_items mid x v.freeing _ first is_first gathers.items gathers.room z ∙ sym (append-nil v.freeing.items)) (short_room mid x v.freeing _ first is_first gathers.items gathers.room z))
          by (change.Changed (Some n)) e l z = subst (λ (k : Core D). Named g call v k (answer_of answer)) (sym z.others)
              (named_done x.meta x.nodes w.freeing (Some n) (ap answer_of e) (dropped n e x.meta x.nodes z.drops) (dropped_items n e x.meta x.nodes z.drops) gathers.room)
          by (change.No refusal) e l z = named_same l z (λ page_of_stamp tree before now. subst (λ (a : Naming). EndsAsStep g call (y l z) page_of_stamp tree a) (sym (ap answer_of e)) (refused l z refusal e page_of_stamp tree before, now))
          by change.Fault e l z = named_same l z (λ page_of_stamp tree before now. subst (λ (a : Naming). EndsAsStep g call (y l z) page_of_stamp tree a) (sym (ap answer_of e)) now)
          by (change.Lost a b) e l z = named_same l z (λ page_of_stamp tree before now. subst (λ (a : Naming). EndsAsStep g call (y l z) page_of_stamp tree a) (sym (ap answer_of e)) now)
