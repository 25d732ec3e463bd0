-- A core runs as one tree.
use Rattle.std.proofs.Common.{◌≡◌, inl, inr, ℕ, List, [], ◌∷◌, map, Option, sym, ap, ◌∙◌}
use Rattle.std.specs.Prelude.{option_map, unwrap_or}
use Rattle.nl_field.specs.Members as members
use Rattle.nl_tree.specs.Tree.{Tree}
use Rattle.nl_flight.specs.Flight.{carried}
use Rattle.nl_iface.specs.Names.{Has, led}
use Rattle.nl_iface.specs.declared.counts.Counts.{Ghosts}
use Rattle.nl_meta.specs.Consistent.{PageOfStamp}
use Rattle.nl_meta.specs.Nodes.{Held, held_in}
use Rattle.nl_meta.specs.PointerLists.{with_tag}
use Rattle.nl_spec_image.specs.Stands.{bytes_for}
use Rattle.nl_spec_image.proofs.Represented.{represents_same}
use Rattle.nl_spec_image.proofs.SoundProofs.{represented_is_one}
use Rattle.nl_core.specs.Core.{IsCore, names_of, running_of}
use Rattle.nl_core.specs.Trees.{CoreRepresentsTree}
use Rattle.nl_core.specs.declared.state.Core.{Core}
use Rattle.nl_calls_files.proofs.FileRunning.{held_lead_once}

tagged : (hs : List Held) (h : Held) → members.Has hs h → Has (map with_tag hs) (h.tag, h.pointer)
tagged [] h has = absurd has
tagged (x ∷ hs) h (inl e) = inl (ap with_tag e)
tagged (x ∷ hs) h (inr has) = inr (tagged hs h has)

module _ {D : Type 0} (g : Ghosts D) (v : Core D) (core : IsCore g v) (first second : ℕ → Option PageOfStamp) (tree other : Tree) (a : CoreRepresentsTree g v first tree) (b : CoreRepresentsTree g v second other) where
  -- each page of a file is live, and shown
  shown : (h : Held) → members.Has (held_in (g.shape v.device) (running_of g v)) h → bytes_for first h.pointer.stamp ≡ bytes_for second h.pointer.stamp
  shown h has =
      let l = ((held_lead_once g v.device v.journal v.meta (carried v.flight) v.freeing.items _ core.held).leads (h.tag, h.pointer) (tagged (held_in (g.shape v.device) (running_of g v)) h has)).leads in
      let one = a.shows (led (names_of g v) h.pointer.name) l.0 l.1 in
      let two = b.shows (led (names_of g v) h.pointer.name) l.0 l.1 in
      ap (λ (o : Option PageOfStamp). unwrap_or (option_map (λ p. p.bytes) o) []) (ap first (sym l.2.1) ∙ (one ∙ (sym two ∙ ap second l.2.1)))

  pub one_tree : tree ≡ other
  one_tree = represented_is_one (g.shape v.device) (running_of g v) second tree other
      (record { is_tree = a.runs.represents.is_tree; depicts = represents_same (bytes_for first) (bytes_for second) (g.shape v.device) (running_of g v) shown tree a.runs.represents.depicts })
      b.runs.represents
