-- Replies of one form.
use Rattle.std.proofs.Common.{ℕ, refl}
use Rattle.nl_tree.specs.declared.reply.Reply.{Reply}
use Rattle.nl_tree.specs.declared.reply.Reply.TheVariants.{Content, File, Names}
use Rattle.nl_calls_read.specs.Looking.{IfContent, IfFile, IfNames, IfReplied, IsPlainReply}
use Rattle.nl_calls_read.specs.declared.answer.Looked.{Looked}
use Rattle.nl_calls_read.specs.declared.answer.Looked.TheVariants as looked

pub from-file : (answer : Looked) (P : Reply → Type 0) (Q : ℕ → ℕ → Type 0) → IfFile answer Q → ((size pages : ℕ) → Q size pages → P (File size pages)) → IfReplied answer P
from-file (looked.Replied (File size pages)) P Q h f = f size pages h
from-file (looked.Replied reply) P Q h f = absurd h
from-file (looked.Lost w x) P Q h f = tt
from-file looked.Fault P Q h f = tt

pub from-names : (answer : Looked) (P : Reply → Type 0) (Q : ℕ → Type 0) → IfNames answer Q → ((n : ℕ) → Q n → P (Names n)) → IfReplied answer P
from-names (looked.Replied (Names n)) P Q h f = f n h
from-names (looked.Replied reply) P Q h f = absurd h
from-names (looked.Lost w x) P Q h f = tt
from-names looked.Fault P Q h f = tt

pub from-content : (answer : Looked) (P : Reply → Type 0) (Q R : Type 0) → IfContent answer Q → IfContent answer R → (Q → R → P Content) → IfReplied answer P
from-content (looked.Replied Content) P Q R h k f = f h k
from-content (looked.Replied reply) P Q R h k f = absurd h
from-content (looked.Lost w x) P Q R h k f = tt
from-content looked.Fault P Q R h k f = tt

pub plain-file : (answer : Looked) (Q : ℕ → ℕ → Type 0) → IfFile answer Q → IfReplied answer IsPlainReply
plain-file answer Q h = from-file answer IsPlainReply Q h (λ size pages q. (refl, refl))

pub plain-names : (answer : Looked) (Q : ℕ → Type 0) → IfNames answer Q → IfReplied answer IsPlainReply
plain-names answer Q h = from-names answer IsPlainReply Q h (λ n q. (refl, refl))

pub plain-content : (answer : Looked) (Q : Type 0) → IfContent answer Q → IfReplied answer IsPlainReply
plain-content answer Q h = from-content answer IsPlainReply Q Q h h (λ q r. (refl, refl))
