-- What is next of a line in the tree for which a core stands, and what a staging tells of it.
use Rattle.std.proofs.Common.{◌≡◌, ◌≢◌, ◌⊎◌, inl, inr, ⊎_elim, ℕ, ◌+◌, ◌<◌, ◌==◌, false, cond, List, [], ◌∷◌, ◌++◌, length, map, Option, Some, None, refl, sym, ap, subst, ◌∙◌, arith, eq-eqb, ne_eqb}
use Rattle.std.specs.List.{range_with_len}
use Rattle.std.specs.Prelude.{IsSome, option_and_then, option_map, slice_get}
use Rattle.std.proofs.lemmas.List.{length-append, length-map}
use Rattle.std.proofs.lemmas.Option.{slice_get-map}
use Rattle.nl_field.specs.CrashStates.{Rose}
use Rattle.nl_field.specs.Graph.{GraphNode}
use Rattle.nl_field.specs.declared.inode.InodeRec.{InodeRec}
use Rattle.nl_field.specs.declared.inode.Kind.{Kind}
use Rattle.nl_field.specs.declared.inode.Kind.TheVariants.{Dir, File}
use Rattle.nl_field.specs.declared.pointer.Tag.{Tag}
use Rattle.nl_tree.specs.Event.{left_to_stage, page_given}
use Rattle.nl_tree.specs.Represents.{node_of, node_reached}
use Rattle.nl_tree.specs.Tree.{Tree, is_file, node_at}
use Rattle.nl_tree.specs.declared.call.Call.{Call}
use Rattle.nl_tree.specs.declared.reply.Refusal.{Refusal}
use Rattle.nl_tree.specs.declared.turn.Stage.{Stage}
use Rattle.nl_tree.specs.declared.turn.Stage.TheVariants as stage
use Rattle.nl_flight.specs.Flight.{InFlight, begun, of_worker}
use Rattle.nl_flight.specs.declared.page.FlightPage.{FlightPage}
use Rattle.nl_iface.specs.Device.{IsVolumeShape}
use Rattle.nl_iface.specs.declared.counts.Counts.{Ghosts}
use Rattle.nl_meta.specs.Consistent.{PageOfStamp}
use Rattle.nl_meta.specs.Nodes.{body_of}
use Rattle.nl_meta_running.specs.Running.{IsNodeOf}
use Rattle.nl_namespace.specs.PathLaws.{IsInTree, LooksInTree}
use Rattle.nl_namespace.specs.Paths.{Looks}
use Rattle.nl_namespace.specs.declared.answer.Look.{Look}
use Rattle.nl_namespace.specs.declared.answer.Look.TheVariants as look
use Rattle.nl_spec_image.specs.Stands.{bytes_for}
use Rattle.nl_spec_image.proofs.GraphOfPages.{node_is}
use Rattle.nl_spec_commits.specs.Trees.{RepresentsTree}
use Rattle.nl_core.specs.Core.{IsCore, running_of}
use Rattle.nl_core.specs.Dropping.{DropsLine}
use Rattle.nl_core.specs.Programming.{HasLineOrNone}
use Rattle.nl_core.specs.Units.{goal_of}
use Rattle.nl_core.specs.declared.state.Core.{Core}
use Rattle.nl_calls_steps.specs.Finding.{nodes_of}
use Rattle.nl_calls_steps.specs.Steps.{ReadsOn}
use Rattle.nl_calls_steps.proofs.OnlyReads.{some-back}
use Rattle.nl_calls_steps.proofs.ReadCores.{node-back}
use Rattle.nl_turns.specs.History.{Opening}
use Rattle.nl_turns.specs.Served.{IsLineOf}
use Rattle.nl_turns.specs.declared.entry.Entry.{Entry}
use Rattle.nl_calls_bytes.specs.Ranges.{from_of, len_of, path_of}
use Rattle.nl_volume_stage.specs.StagedPages.{flight_for, flight_of}
use Rattle.nl_volume_stage.specs.Staging.{FileIsAt, IsNextTag, IsNextAt, IsNextIn, PassesOn, StagesFirst, StagesOn, TellsLeft, staged_indexes}
use Rattle.nl_volume_stage.specs.Standing.{FlightIsOfLines, IsInFlight, RepresentsHistory, first_whole}
use Rattle.nl_volume_stage.specs.declared.next.Next.{Next}
use Rattle.nl_volume_stage.specs.declared.next.Next.TheVariants as next
use Rattle.nl_volume_stage.proofs.Left.{NothingIn, are_from, nothing_left, one_left}
use Rattle.nl_volume_stage.proofs.Lines.{one_call_of, own_with}
use Rattle.nl_volume_stage.proofs.Pages.{LeavesPage, own_pages}

-- ---- where a path leads

module _ (law : LooksInTree) {D : Type 0} (g : Ghosts D) (u : Core D) (path : List (List ℕ)) where
  module _ (page_of_stamp : ℕ → Option PageOfStamp) (tree : Tree) (runs : RepresentsTree (g.shape u.device) (running_of g u) page_of_stamp tree) where
    in_tree : (answer : Look) → Looks (nodes_of g u) path answer → IsInTree (bytes_for page_of_stamp) (nodes_of g u) tree path answer
    in_tree answer looks = law (bytes_for page_of_stamp) (nodes_of g u) tree path answer runs.represents.depicts runs.represents.is_tree.root looks

    refused_file : (refusal : Refusal) → Looks (nodes_of g u) path (look.No refusal) → (reached : Option ℕ) → node_reached (nodes_of g u) 0 path ≡ reached → is_file (node_at tree path) ≡ false
    refused_file refusal looks None at = ap is_file (runs.represents.depicts path ∙ ap (option_and_then (λ n. node_of (bytes_for page_of_stamp) (nodes_of g u n).body)) at)
    refused_file refusal looks (Some n) at = absurd (cc (sym (in_tree (look.No refusal) looks) ∙ (in_tree (look.At n) at).0))

    node_there : (n : ℕ) → node_reached (nodes_of g u) 0 path ≡ Some n → (rec : InodeRec) → IsNodeOf g u.device u.meta n rec → (k : Kind) → rec.kind ≡ k → node_at tree path ≡ node_of (bytes_for page_of_stamp) (body_of (running_of g u) rec k)
    node_there n leads rec is k kind =
        (in_tree (look.At n) leads).1
        ∙ (ap (λ (x : GraphNode). node_of (bytes_for page_of_stamp) x.body) (node_is (g.shape u.device) (running_of g u) n rec is)
        ∙ ap (λ (q : Kind). node_of (bytes_for page_of_stamp) (body_of (running_of g u) rec q)) kind)

  pub none_missing : Looks (nodes_of g u) path look.Missing → FileIsAt g u path false
  none_missing looks page_of_stamp tree runs = ap is_file (in_tree page_of_stamp tree runs look.Missing looks).1

  pub none_refused : (refusal : Refusal) → Looks (nodes_of g u) path (look.No refusal) → FileIsAt g u path false
  none_refused refusal looks page_of_stamp tree runs = refused_file page_of_stamp tree runs refusal looks (node_reached (nodes_of g u) 0 path) refl

  -- what is next of the node to which it leads
  module _ (v : Core D) (volume : IsVolumeShape (g.shape u.device)) (on : ReadsOn g u v) (n : ℕ) (leads : node_reached (nodes_of g u) 0 path ≡ Some n) (from len place : ℕ) where
    pub next_on : (answer : Next) → IsNextAt g v n from len place answer → IsNextIn g u path from len place answer
    next_on (next.Page tag) is =
        let f = some-back g u v volume on n is.0 in
        (λ page_of_stamp tree runs. ap is_file (node_there page_of_stamp tree runs n leads f.0 f.1.is_node File f.1.is_file), is.1)
    next_on next.Whole (inl is) = inl (λ page_of_stamp tree runs. ap is_file (node_there page_of_stamp tree runs n leads is.0 (node-back g u v volume on n is.0 is.1) Dir is.2))
    next_on next.Whole (inr end) = inr end
    next_on (next.Lost w f) is = is
    next_on next.Fault is = is

-- ---- what is in flight for a line

other_line : (x : InFlight) (line : ℕ) → x.line ≢ line → (cond (x.line == line) (map (λ (page : FlightPage). page.index) x.pages) [] ≡ []) × (cond (x.line == line) x.goal None ≡ None)
other_line x line far = (ap (λ b. cond b (map (λ (page : FlightPage). page.index) x.pages) []) (ne_eqb x.line line far), ap (λ b. cond b x.goal None) (ne_eqb x.line line far))

-- another line of the worker is dropped, and with it its goal
pub goal_dropped : {D : Type 0} (g : Ghosts D) (worker line : ℕ) (u v : Core D) → IsCore g u → worker < 8 → 0 < line → (of_worker u.flight worker).line ≢ line → DropsLine g worker u v → goal_of v.flight worker line ≡ goal_of u.flight worker line
goal_dropped g worker line u v core known some far d =
    let eight = core.flight.eight in
    let gone : of_worker v.flight worker ≡ begun 0 = ap (λ (f : List InFlight). of_worker f worker) d.flight ∙ own_with u.flight worker (begun 0) (omega (arith, known, eight)) in
    (other_line (of_worker v.flight worker) line (λ is. let at = ap (λ (x : InFlight). x.line) gone in let off : ⊥ = omega (arith, some, is, at) in off)).1
    ∙ sym (other_line (of_worker u.flight worker) line far).1

pub staged_dropped : {D : Type 0} (g : Ghosts D) (worker line : ℕ) (u v : Core D) → IsCore g u → worker < 8 → 0 < line → (of_worker u.flight worker).line ≢ line → DropsLine g worker u v
    → staged_indexes v.flight worker line ≡ staged_indexes u.flight worker line
staged_dropped g worker line u v core known some far d =
    let eight = core.flight.eight in
    let gone : of_worker v.flight worker ≡ begun 0 = ap (λ (f : List InFlight). of_worker f worker) d.flight ∙ own_with u.flight worker (begun 0) (omega (arith, known, eight)) in
    (other_line (of_worker v.flight worker) line (λ is. let at = ap (λ (x : InFlight). x.line) gone in let off : ⊥ = omega (arith, some, is, at) in off)).0
    ∙ sym (other_line (of_worker u.flight worker) line far).0

module _ {D : Type 0} (g : Ghosts D) (o : Opening) (u : Core D) (worker line : ℕ) (call : Call) (core : IsCore g u) (flight : FlightIsOfLines g o u.device u.flight) (has : HasLineOrNone u.flight worker line) (of : IsLineOf o worker line call) where
  abbrev now : InFlight
  now = of_worker u.flight worker

  no_pages : now.line ≡ 0 → now.pages ≡ []
  no_pages is = (core.flight.idle worker is).0

  not_line : now.line ≡ 0 → now.line ≢ line
  not_line none is = let from = of.numbered in let off : ⊥ = omega (arith, from, is, none) in off

  -- the line's first whole pages, one after the other
  staged_first : staged_indexes u.flight worker line ≡ range_with_len (first_whole call) (length now.pages)
  staged_first = ⊎_elim none some has
    where
      none : now.line ≡ 0 → staged_indexes u.flight worker line ≡ range_with_len (first_whole call) (length now.pages)
      none is = (other_line now line (not_line is)).0 ∙ sym (ap (λ (xs : List FlightPage). range_with_len (first_whole call) (length xs)) (no_pages is))

      each : now.line ≡ line → (k i : ℕ) (p : Option FlightPage) → slice_get now.pages k ≡ p → option_map (λ (page : FlightPage). page.index) (slice_get now.pages k) ≡ Some i
          → ((now.line ≡ 0) × (now.fault ≡ 0)) ⊎ IsInFlight g o u.device worker now → i ≡ first_whole call + k
      each is k i None at index stands = absurd (cc (sym (ap (option_map (λ (page : FlightPage). page.index)) at) ∙ index))
      each is k i (Some page) at index (inl idle) = absurd (not_line idle.0 is)
      each is k i (Some page) at index (inr stands) =
          let same : stands.call ≡ call = one_call_of o worker worker line stands.call call (subst (λ l. IsLineOf o worker l stands.call) is stands.known) of in
          let mine : i ≡ page.index = cc (sym index ∙ ap (option_map (λ (x : FlightPage). x.index)) at) in
          mine ∙ ((stands.staged k page at).index ∙ ap (λ c. first_whole c + k) same)

      some : now.line ≡ line → staged_indexes u.flight worker line ≡ range_with_len (first_whole call) (length now.pages)
      some is =
          ap (λ b. cond b (map (λ (page : FlightPage). page.index) now.pages) []) (eq-eqb now.line line is)
          ∙ (are_from (first_whole call) (map (λ (page : FlightPage). page.index) now.pages)
          (λ k i at. each is k i (slice_get now.pages k) refl (sym (slice_get-map (λ (page : FlightPage). page.index) now.pages k) ∙ at) (flight worker))
          ∙ ap (range_with_len (first_whole call)) (length-map now.pages (λ (page : FlightPage). page.index)))

-- ---- what a staging tells

module _ {D : Type 0} (g : Ghosts D) (origin : Core D) (o : Opening) (h : List Entry) (u : Core D) (done worker line : ℕ) (call : Call) (s : RepresentsHistory g origin o h u done) (of : IsLineOf o worker line call) (has : HasLineOrNone u.flight worker line) where
  abbrev place : ℕ
  place = length (of_worker u.flight worker).pages

  first_u : staged_indexes u.flight worker line ≡ range_with_len (first_whole call) place
  first_u = staged_first g o u worker line call s.serves.core s.flight has of

  pub tells_whole : (w : Core D) → IsNextIn g u (path_of call) (from_of call) (len_of call) place next.Whole → TellsLeft g worker line call u w stage.Whole
  tells_whole w is tells page_of_stamp tree runs = ap (left_to_stage tree call) first_u ∙ nothing_left tree place call (why is)
    where
      why : IsNextIn g u (path_of call) (from_of call) (len_of call) place next.Whole → NothingIn tree (path_of call) (from_of call) (len_of call) place
      why (inl none) = inl (none page_of_stamp tree runs.runs)
      why (inr end) = inr end

  -- one page more is in flight
  first_after : (w : Core D) (P : Tag → Type 0) → StagesOn g worker line call u w stage.Staged → LeavesPage g worker line P u w stage.Staged → staged_indexes w.flight worker line ≡ range_with_len (first_whole call) (place + 1)
  first_after w P x put =
      let t = x.on origin o h done s of in
      let added : flight_of w.flight worker ≡ flight_for u.flight worker line ++ (put.pages.0, put.pages.2.stamp) ∷ [] = put.pages.2.pages in
      let own : flight_of u.flight worker ≡ flight_for u.flight worker line = own_pages u.flight worker line of.numbered has (λ none. (s.serves.core.flight.idle worker none).0) in
      let all = ap length added ∙ length-append (flight_for u.flight worker line) ((put.pages.0, put.pages.2.stamp) ∷ []) in
      let was = ap length own in
      let long : length (flight_of w.flight worker) ≡ length (of_worker w.flight worker).pages = length-map {B = Tag × ℕ} (of_worker w.flight worker).pages (λ (page : FlightPage). (page.tag, page.at.stamp)) in
      let short : length (flight_of u.flight worker) ≡ length (of_worker u.flight worker).pages = length-map {B = Tag × ℕ} (of_worker u.flight worker).pages (λ (page : FlightPage). (page.tag, page.at.stamp)) in
      let more : length (of_worker w.flight worker).pages ≡ place + 1 = omega (arith, all, was, long, short) in
      staged_first g o w worker line call t.serves.core t.flight put.line_is of ∙ ap (range_with_len (first_whole call)) more

  module _ (tag : Tag) (at : IsNextTag call place tag) (is : IsNextIn g u (path_of call) (from_of call) (len_of call) place (next.Page tag)) where
    one_first : (page_of_stamp : ℕ → Option PageOfStamp) (tree : Tree) → RepresentsTree (g.shape u.device) (running_of g u) page_of_stamp tree
        → left_to_stage tree call (staged_indexes u.flight worker line) ≡ (first_whole call + place) ∷ left_to_stage tree call (range_with_len (first_whole call) (place + 1))
    one_first page_of_stamp tree runs =
        ap (left_to_stage tree call) first_u ∙ one_left tree place call (is.0 page_of_stamp tree runs) is.1 (subst (λ i. IsSome (page_given call i)) at.index at.whole)

    pub tells_page : (w : Core D) (answer : Stage) (P : Tag → Type 0) → StagesOn g worker line call u w answer → LeavesPage g worker line P u w answer → answer ≢ stage.Whole → TellsLeft g worker line call u w answer
    tells_page w stage.Staged P x put far tells page_of_stamp tree runs =
        (first_whole call + place, one_first page_of_stamp tree runs.runs ∙ ap (λ xs. (first_whole call + place) ∷ left_to_stage tree call xs) (sym (first_after w P x put)))
    tells_page w stage.Whole P x put far tells page_of_stamp tree runs = absurd (far refl)
    tells_page w stage.Fault P x put far tells page_of_stamp tree runs = λ none. absurd (cc (sym (one_first page_of_stamp tree runs.runs) ∙ none))
    tells_page w stage.Stopped P x put far tells page_of_stamp tree runs = tt
    tells_page w (stage.Lost k f) P x put far tells page_of_stamp tree runs = tt

-- what was done before programs no page of the line
pub tells_through : {D : Type 0} (g : Ghosts D) (worker line : ℕ) (call : Call) (u v w : Core D) (answer : Stage) → PassesOn g worker line u v → staged_indexes v.flight worker line ≡ staged_indexes u.flight worker line
    → TellsLeft g worker line call v w answer → TellsLeft g worker line call u w answer
tells_through g worker line call u v w answer passes same left tells page_of_stamp tree runs =
    let k = passes.goes.runs tells page_of_stamp tree runs in
    by answer (subst (λ xs. StagesFirst (left_to_stage tree call xs) (left_to_stage tree call (staged_indexes w.flight worker line)) (Rose (g.read_faults v.device) (g.read_faults w.device)) answer) same (left tells k.pages tree k.runs))
  where
    by : (r : Stage) → StagesFirst (left_to_stage tree call (staged_indexes u.flight worker line)) (left_to_stage tree call (staged_indexes w.flight worker line)) (Rose (g.read_faults v.device) (g.read_faults w.device)) r
        → StagesFirst (left_to_stage tree call (staged_indexes u.flight worker line)) (left_to_stage tree call (staged_indexes w.flight worker line)) (Rose (g.read_faults u.device) (g.read_faults w.device)) r
    by stage.Staged is = is
    by stage.Whole is = is
    by stage.Fault is = λ none. let rose = is none in let low = passes.goes.reads in omega (arith, rose, low)
    by stage.Stopped is = is
    by (stage.Lost k f) is = is
