-- What the medium held as a run began opens as its course without calls, at that moment; and what it holds at the end is the whole course.
use Rattle.std.proofs.Common.{◌≡◌, ◌⊎◌, ⊎_elim, ℕ, ◌-◌, ◌<◌, Bool, true, false, cond, max, List, [], ◌∷◌, take, Option, refl, sym, ap, ◌∙◌, subst, arith, inl, inr}
use Rattle.std.proofs.lemmas.Bool.Decides.{nat_tests}
use Rattle.std.specs.Prelude.{fold, nat_le}
use Rattle.nl_field.specs.Members.{Has}
use Rattle.nl_field.specs.Page.{Image}
use Rattle.nl_field.specs.declared.shape.Shape.{Shape}
use Rattle.nl_tree.specs.Order.{SyncPoint, durable_prefix}
use Rattle.nl_tree.specs.Replay.{replay}
use Rattle.nl_tree.specs.Tree.{Tree}
use Rattle.nl_tree.specs.declared.call.Call.{Call}
use Rattle.nl_tree.specs.declared.reply.FaultReply.{FaultReply}
use Rattle.nl_spec_image.specs.Crash.{OpensAsPrefix, Run}
use Rattle.nl_spec_image.specs.Stands.{ConsistentAs}

-- a sync whose moment is still to come has made nothing durable, and one that tells this count no more than that
none_durable : (syncs : List SyncPoint) (count moment : ℕ) → ((s : SyncPoint) → Has syncs s → (moment < s.moment) ⊎ (s.upto ≡ count)) → durable_prefix syncs count moment ≡ count
unfolding durable_prefix
none_durable [] count moment later = refl
none_durable (s ∷ ss) count moment later = go (nat_le s.moment moment) refl (none_durable ss count moment (λ x has. later x (inr has)))
  where
    go : (b : Bool) → nat_le s.moment moment ≡ b → fold (λ best sync. cond (nat_le sync.moment moment) (max best sync.upto) best) count ss ≡ count
        → fold (λ best sync. cond (nat_le sync.moment moment) (max best sync.upto) best) (cond b (max count s.upto) count) ss ≡ count
    go true e rest = ⊎_elim (λ low. absurd (grind (arith, nat_tests, e, low)))
        (λ same. subst (λ n. fold (λ best sync. cond (nat_le sync.moment moment) (max best sync.upto) best) n ss ≡ count) (let is : count ≡ max count s.upto = omega (arith, same) in is) rest)
        (later s (inl refl))
    go false e rest = rest

none_replayed : (shape : Shape) (tree : Tree) → replay shape tree [] ≡ tree
unfolding replay
none_replayed shape tree = refl

none_taken : (calls : List (Call × Option FaultReply)) (n : ℕ) → n ≡ 0 → take n calls ≡ []
none_taken calls n e = ap (λ k. take k calls) e

pub starts_as : (run : Run) (moment : ℕ) (image : Image) → ConsistentAs image run.count run.tree → ((s : SyncPoint) → Has run.syncs s → (moment < s.moment) ⊎ (s.upto ≡ run.count)) → OpensAsPrefix ConsistentAs run moment image
starts_as run moment image sound later = record {
  prefix = run.count;
  holds_synced = (let is = none_durable run.syncs run.count moment later in omega (arith, is));
  not_beyond = omega arith;
  sound = subst (ConsistentAs image run.count) (sym (ap (replay run.shape run.tree) (none_taken run.calls (run.count - run.count) (omega arith)) ∙ none_replayed run.shape run.tree)) sound;
}
