-- What opens as a prefix of a run opens so after more calls, after a later sync, and at an earlier moment.
use Rattle.std.proofs.Common.{◌≡◌, ℕ, ◌+◌, ◌-◌, ◌<◌, ◌≤◌, Bool, true, false, cond, List, [], ◌∷◌, ◌++◌, length, refl, sym, ◌∙◌, subst, arith, length-append, Option}
use Rattle.std.specs.Prelude.{max, nat_le}
use Rattle.std.proofs.lemmas.Bool.Decides.{nat_tests}
use Rattle.std.proofs.lemmas.List.{take-append-le}
use Rattle.std.proofs.lemmas.List.Sums.{fold-append}
use Rattle.nl_tree.specs.Tree.{Tree}
use Rattle.nl_tree.specs.Replay.{replay}
use Rattle.nl_tree.specs.Order.{SyncPoint, durable_prefix}
use Rattle.nl_tree.specs.declared.call.Call.{Call}
use Rattle.nl_tree.specs.declared.reply.FaultReply.{FaultReply}
use Rattle.nl_spec_image.specs.Crash.{Run, with_call, with_sync, OpensAsPrefix}
use Rattle.nl_spec_image.specs.CrashLaws.{PrefixesStay}

-- one sync more
one_more : (syncs : List SyncPoint) (s : SyncPoint) (count m : ℕ)
    → durable_prefix (syncs ++ s ∷ []) count m ≡ cond (nat_le s.moment m) (max (durable_prefix syncs count m) s.upto) (durable_prefix syncs count m)
unfolding durable_prefix
one_more syncs s count m = fold-append (λ best (sync : SyncPoint). cond (nat_le sync.moment m) (max best sync.upto) best) count syncs (s ∷ [])

prefix_earlier : (syncs : List SyncPoint) (s : SyncPoint) (count m : ℕ) → m < s.moment → durable_prefix (syncs ++ s ∷ []) count m ≡ durable_prefix syncs count m
prefix_earlier syncs s count m before = one_more syncs s count m ∙ go (nat_le s.moment m) refl
  where
    d : ℕ
    d = durable_prefix syncs count m

    go : (b : Bool) → nat_le s.moment m ≡ b → cond b (max d s.upto) d ≡ d
    go true e = absurd (grind (arith, nat_tests))
    go false e = refl

-- syncs are made safe as time goes on
step_rises : (k m a b upto moment : ℕ) → k ≤ m → a ≤ b → cond (nat_le moment k) (max a upto) a ≤ cond (nat_le moment m) (max b upto) b
step_rises k m a b upto moment later less = go (nat_le moment k) (nat_le moment m) refl refl
  where
    go : (p q : Bool) → nat_le moment k ≡ p → nat_le moment m ≡ q → cond p (max a upto) a ≤ cond q (max b upto) b
    go true true e f = omega arith
    go true false e f = absurd (grind (arith, nat_tests))
    go false true e f = omega arith
    go false false e f = less

prefix_rises : (syncs : List SyncPoint) (count k m : ℕ) → k ≤ m → durable_prefix syncs count k ≤ durable_prefix syncs count m
unfolding durable_prefix
prefix_rises syncs count k m later = each syncs count count (omega arith)
  where
    each : (xs : List SyncPoint) (a b : ℕ) → a ≤ b → durable_prefix xs a k ≤ durable_prefix xs b m
    each [] a b less = less
    each (s ∷ xs) a b less = each xs _ _ (step_rises k m a b s.upto s.moment later less)

module _ {I : Type 0} (opens : I → ℕ → Tree → Type 0) where
  pub more_calls : (run : Run) (x : Call × Option FaultReply) (m : ℕ) (c : I) → OpensAsPrefix opens run m c → OpensAsPrefix opens (with_call run x) m c
  more_calls run x m c o =
      let l = length-append run.calls (x ∷ []) in
      let b = o.not_beyond in
      let same = take-append-le (o.prefix - run.count) run.calls (x ∷ []) (omega arith) in record {
        prefix = o.prefix;
        holds_synced = o.holds_synced;
        not_beyond = omega arith;
        sound = subst (λ calls. opens c o.prefix (replay run.shape run.tree calls)) (sym same) o.sound;
      }

  pub more_syncs : (run : Run) (s : SyncPoint) (m : ℕ) (c : I) → m < s.moment → OpensAsPrefix opens run m c → OpensAsPrefix opens (with_sync run s) m c
  more_syncs run s m c before o = record {
    prefix = o.prefix;
    holds_synced = subst (λ n. n ≤ o.prefix) (sym (prefix_earlier run.syncs s run.count m before)) o.holds_synced;
    not_beyond = o.not_beyond;
    sound = o.sound;
  }

  pub earlier_moment : (run : Run) (k m : ℕ) (c : I) → k ≤ m → OpensAsPrefix opens run m c → OpensAsPrefix opens run k c
  earlier_moment run k m c before o =
      let rises = prefix_rises run.syncs run.count k m before in
      let holds = o.holds_synced in record {
        prefix = o.prefix;
        holds_synced = omega arith;
        not_beyond = o.not_beyond;
        sound = o.sound;
      }

  pub prefixes_stay : PrefixesStay opens
  prefixes_stay = record { more_calls = more_calls; more_syncs = more_syncs; earlier_moment = earlier_moment }
