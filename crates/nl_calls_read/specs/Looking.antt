-- The calls that only look, and how they end.
use Rattle.std.specs.Prelude.{◌≡◌, ℕ, ⊤, Bool, true, false, None}
use Rattle.nl_tree.specs.Causes.{fault_in}
use Rattle.nl_tree.specs.declared.call.Call.{Call}
use Rattle.nl_tree.specs.declared.call.Call.TheVariants.{List as ListCall, Read, Stat}
use Rattle.nl_tree.specs.declared.reply.Reply.{Reply}
use Rattle.nl_tree.specs.declared.reply.Reply.TheVariants.{Content, File as FileReply, Names, Synced}
use Rattle.nl_iface.specs.Calls.{ReadsCounted}
use Rattle.nl_iface.specs.declared.counts.Counts.{Ghosts}
use Rattle.nl_calls_read.specs.declared.answer.Looked.{Looked}
use Rattle.nl_calls_read.specs.declared.answer.Looked.TheVariants as looked

-- a call that leaves the tree
abbrev pub OnlyLooks : Call → Type 0
OnlyLooks (Read path from len) = ⊤
OnlyLooks (Stat path) = ⊤
OnlyLooks (ListCall path) = ⊤
OnlyLooks _ = ⊥

abbrev pub IfReplied : Looked → (Reply → Type 0) → Type 0
IfReplied (looked.Replied reply) P = P reply
IfReplied (looked.Lost w f) P = ⊤
IfReplied looked.Fault P = ⊤

abbrev pub IfLookLost : Looked → (ℕ → ℕ → Type 0) → Type 0
IfLookLost (looked.Replied reply) P = ⊤
IfLookLost (looked.Lost w f) P = P w f
IfLookLost looked.Fault P = ⊤

abbrev pub IsLostReply : Looked → Type 0
IsLostReply (looked.Replied reply) = ⊥
IsLostReply (looked.Lost w f) = ⊤
IsLostReply looked.Fault = ⊥

abbrev pub is_synced : Reply → Bool
is_synced (Synced upto moment) = true
is_synced _ = false

-- no fault and no sync
abbrev pub IsPlainReply : Reply → Type 0
IsPlainReply reply = (fault_in reply ≡ None) × (is_synced reply ≡ false)

-- Bytes come with the reply: what was read, or names.
abbrev pub brings_bytes : Looked → Bool
brings_bytes (looked.Replied Content) = true
brings_bytes (looked.Replied (Names n)) = true
brings_bytes _ = false

-- ---- parts of such a call

-- A fault comes of a read that failed, and none failed else. A page is lost only where it has another number than the wanted one, and where
-- the medium tells its contents none is.
pub record EndsLook {D : Type 0} (g : Ghosts D) (old new : D) (answer : Looked) : Type 0 where
  pub faults : ReadsCounted g (answer ≡ looked.Fault) old new
  pub lost : IfLookLost answer (λ w f. f ≡ w → ⊥)
  pub told : g.tells → IsLostReply answer → ⊥

-- A call that looks replies with a file, with names or with content, unless a read fails.
abbrev pub IfFile : Looked → (ℕ → ℕ → Type 0) → Type 0
IfFile (looked.Replied (FileReply size pages)) P = P size pages
IfFile (looked.Replied reply) P = ⊥
IfFile (looked.Lost w f) P = ⊤
IfFile looked.Fault P = ⊤

abbrev pub IfNames : Looked → (ℕ → Type 0) → Type 0
IfNames (looked.Replied (Names n)) P = P n
IfNames (looked.Replied reply) P = ⊥
IfNames (looked.Lost w f) P = ⊤
IfNames looked.Fault P = ⊤

abbrev pub IfContent : Looked → Type 0 → Type 0
IfContent (looked.Replied Content) P = P
IfContent (looked.Replied reply) P = ⊥
IfContent (looked.Lost w f) P = ⊤
IfContent looked.Fault P = ⊤
