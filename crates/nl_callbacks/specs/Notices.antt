-- What a queue of notices and its two passes tell.
use Rattle.std.specs.Prelude.{◌≡◌, ℕ, Bool, true, List, ◌++◌, length}
use mathlib.Core.Option.{some}
use lib.ListN.{get_elem?}
use Rattle.crossbeam_queue.specs.Passes.{view, IsPassOf, ruled_capacity}
use Rattle.nl_callbacks.specs.declared.notices.NoticeLog.{NoticeLog}
use Rattle.nl_callbacks.specs.declared.notices.NoticePass.{NoticePass}
use Rattle.nl_callbacks.specs.declared.notices.Notices.{Notices}

abbrev pub log : Bool → Bool → List ℕ → List ℕ → List ℕ → NoticeLog
log sends takes sent taken known = record { sends = sends; takes = takes; sent = sent; taken = taken; known = known }

-- the second list begins with the first
pub record IsFront (front list : List ℕ) : Type 0 where
  pub rest : List ℕ
  pub splits : list ≡ front ++ rest

-- the second list ends with the first
pub record IsBack (back list : List ℕ) : Type 0 where
  pub before : List ℕ
  pub splits : list ≡ before ++ back

-- the numbers that a pass has sent, in order
abbrev pub sent : NoticePass → List ℕ
sent p = (view p.pass).sent

-- the numbers that it has taken, in order
abbrev pub taken : NoticePass → List ℕ
taken p = (view p.pass).taken

-- numbers that it knows to be sent, in order: the first of all that were sent
abbrev pub known : NoticePass → List ℕ
known p = (view p.pass).known

abbrev pub room_of : Notices → ℕ
room_of n = ruled_capacity n.queue

-- the pass that may send to the queue, and no other pass may
pub record IsSender (n : Notices) (p : NoticePass) : Type 0 where
  pub of_queue : IsPassOf n.queue p.pass
  pub may : (view p.pass).sends ≡ true

-- the pass that may take from the queue, and no other pass may
pub record IsTaker (n : Notices) (p : NoticePass) : Type 0 where
  pub of_queue : IsPassOf n.queue p.pass
  pub may : (view p.pass).takes ≡ true

-- At least as many numbers were sent as the queue has room for. It was full where the last so many were not taken, which the sender does
-- not see.
pub record WasFull (room : ℕ) (all : List ℕ) : Type 0 where
  pub waiting : List ℕ
  pub last : IsBack waiting all
  pub as_many : length waiting ≡ room

-- the queue was empty: of the numbers that are known to be sent, all were taken
abbrev pub WasEmpty : List ℕ → List ℕ → Type 0
WasEmpty told all_taken = IsFront told all_taken

-- what a pass that may send, or take, has of all that was sent and taken
pub record FitsNoticeLog (writer reader : ℕ) (all_sent all_taken : List ℕ) (port : ℕ) (v : NoticeLog) : Type 0 where
  pub sends : v.sends ≡ true → (port ≡ writer) × (v.sent ≡ all_sent)
  pub takes : v.takes ≡ true → (port ≡ reader) × (v.taken ≡ all_taken)
  pub knows : IsFront v.known all_sent

-- What was sent is what was taken and then what the queue holds. One pass at most may send, and has the list of what was sent; one
-- at most may take, and has the list of what was taken.
pub record Relayed (items : List ℕ) (views : List NoticeLog) : Type 0 where
  pub writer : ℕ
  pub reader : ℕ
  pub all_sent : List ℕ
  pub all_taken : List ℕ
  pub in_order : all_sent ≡ all_taken ++ items
  pub each : (port : ℕ) (v : NoticeLog) → get_elem? views port ≡ some v → FitsNoticeLog writer reader all_sent all_taken port v
