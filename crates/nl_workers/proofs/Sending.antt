-- One number more is sent.
use Rattle.std.proofs.Common.{◌≡◌, ℕ, ◌+◌, ◌<◌, [], ◌∷◌, ◌++◌, arith}
use Rattle.nl_callbacks.specs.Notices.{IsSender, sent}
use Rattle.nl_callbacks.specs.declared.notices.Notices.{Notices}
use Rattle.nl_workers.specs.Sending.{IsSending}
use Rattle.nl_workers.specs.declared.outbox.Outbox.{Outbox}
use Rattle.nl_workers.proofs.Serving.{sends_more}

pub sending_more : (notices : Notices) (posted number : ℕ) (outbox s s' : Outbox) → IsSending notices posted number outbox s → number < posted
    → IsSender notices s'.pass → sent s'.pass ≡ sent s.pass ++ (number + 1) ∷ [] → s'.last ≡ number + 1 → IsSending notices posted (number + 1) outbox s'
sending_more notices posted number outbox s s' i below sender more last = record {
  sends = sends_more notices s s' number i.sends i.at sender more last;
  at = last;
  since = let a = i.since in omega arith;
  within = grind arith;
}
