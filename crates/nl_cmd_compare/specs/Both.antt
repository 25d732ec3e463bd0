-- Calls that two volumes answered, none of them with a fault reply: the tree after them, and the most that its files took.
use Rattle.std.specs.Prelude.{◌≡◌, ℕ, ◌*◌, ◌≤◌, max, List, [], ◌∷◌, length, map, Option, None}
use Rattle.nl_field.specs.declared.shape.Shape.{Shape}
use Rattle.nl_tree.specs.Charges.{data_charge}
use Rattle.nl_tree.specs.Replay.{Answers, replay, step_marked}
use Rattle.nl_tree.specs.Tree.{Tree, empty_tree}
use Rattle.nl_tree.specs.declared.call.Call.{Call}
use Rattle.nl_tree.specs.declared.reply.FaultReply.{FaultReply}
use Rattle.nl_iface.specs.declared.counts.Counts.{Ghosts}
use Rattle.nl_turns.specs.History.{Opening}
use Rattle.nl_turns.specs.declared.entry.Entry.{Entry}
use Rattle.nl_volume.specs.declared.volume.Volume.{Volume}
use Rattle.nl_cmd_course.specs.Asking.{Asked, HasAsked, marked}
use Rattle.nl_pagemap.specs.declared.pagemap.Pagemap.{Pagemap}
use Rattle.nl_pagemap_volume.specs.Volume.{IsNewVolume, IsWritable, Shows, Stands, shape_in}
use Rattle.nl_pagemap_volume.specs.declared.volume.MapVolume.{MapVolume}
use Rattle.nl_cmd_compare.specs.declared.comparison.Comparison.{Comparison}
use Rattle.nl_cmd_compare.specs.declared.comparison.Replies.{Replies}

-- each call, and no fault reply
abbrev pub unmarked : List Call → List (Call × Option FaultReply)
unmarked calls = map (λ call. (call, None)) calls

-- the tree of a new volume after the calls
abbrev pub tree_of : Shape → List Call → Tree
tree_of shape calls = replay shape empty_tree (unmarked calls)

-- the greatest data charge of the trees behind each of the calls
abbrev pub most_charged_from : Shape → Tree → List Call → ℕ
most_charged_from shape tree [] = 0
most_charged_from shape tree (call ∷ calls) =
    max (data_charge (step_marked shape tree (call, None)).tree) (most_charged_from shape (step_marked shape tree (call, None)).tree calls)

abbrev pub most_charged : Shape → List Call → ℕ
most_charged shape calls = most_charged_from shape empty_tree calls

-- ---- what is kept of both

-- The volume has answered these calls since it was new, none with a fault reply.
pub record HasAnswered {V : Type 0} (stands : V → Opening → List Entry → V → Type 0) (tells : Type 0) (shape : Shape) (calls : List Call) (v : V) : Type 0 where
  pub origin : V
  pub opening : Opening
  pub asked : Asked
  pub has : HasAsked stands tells origin opening asked v
  pub same_shape : tells → opening.shape ≡ shape
  pub from_empty : tells → opening.tree ≡ empty_tree
  pub without_fault : marked asked ≡ unmarked calls
  pub count : length asked ≡ length calls

module _ {M : Type 0} (stands : Volume M → Opening → List Entry → Volume M → Type 0) (g : Ghosts (Pagemap M)) (tells : Type 0) where
  -- Both volumes have answered these calls on new volumes of this shape, none with a fault reply. Of pairs there were at most four times
  -- the pages of a block, and the entries were as many as the greatest data charge of the trees.
  pub record IsComparison (shape : Shape) (calls : List Call) (c : Comparison M) : Type 0 where
    pub answered : HasAnswered stands tells shape calls c.volume
    pub map_stands : Stands g c.map
    pub writes : IsWritable c.map
    pub same_shape : shape_in g c.map ≡ shape
    pub shows : tells → Shows g c.map (tree_of shape calls)
    pub counted : c.numbers.calls ≡ length calls
    pub few : tells → c.numbers.pairs ≤ 4 * shape.pages
    pub most : tells → c.numbers.entries ≡ most_charged shape calls

  -- it is a comparison of some calls
  abbrev pub AreFrom : Comparison M → Type 0
  AreFrom c = (shape : Shape) × (calls : List Call) × IsComparison shape calls c

-- The volume with a map is new, of this shape.
pub record IsNewMap {M : Type 0} (g : Ghosts (Pagemap M)) (shape : Shape) (v : MapVolume M) : Type 0 where
  pub stands : Stands g v
  pub new : IsNewVolume g shape v

-- Both replies, with the bytes that were kept, are those due of the call on the tree.
abbrev pub AnswerBoth : {M : Type 0} → Shape → Tree → Call → Replies → Comparison M → Type 0
AnswerBoth shape tree call r c =
    Answers (step_marked shape tree (call, None)) r.volume c.out × Answers (step_marked shape tree (call, None)) r.map c.other
