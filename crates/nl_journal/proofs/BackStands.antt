-- How a volume stands whose journal was read back.
use Rattle.std.proofs.Common.{◌≡◌, inl, inr, ℕ, ◌+◌, ◌<◌, ◌≤◌, [], length, refl, sym, ap, subst, ◌∙◌, Option, Some, None, arith}
use Rattle.nl_field.specs.Virtual.{map_bytes}
use Rattle.nl_field.specs.declared.header.HeaderRec.{HeaderRec}
use Rattle.nl_field.specs.declared.shape.Shape.{Shape}
use Rattle.nl_iface.specs.Calls.{KeepsVirtual}
use Rattle.nl_iface.specs.Device.{IsVolumeShape}
use Rattle.nl_iface.specs.Stored.{Value}
use Rattle.nl_iface.specs.declared.counts.Counts.{Ghosts}
use Rattle.nl_journal.specs.Opening.{Opened}
use Rattle.nl_journal.specs.Outcomes.{bytes_of}
use Rattle.nl_journal.specs.Progress.{IsPhase, Progress}
use Rattle.nl_journal.specs.Transaction.{IsTransaction}
use Rattle.nl_journal.specs.declared.answers.Phase.{Phase}
use Rattle.nl_journal.specs.declared.answers.Phase.TheVariants.{Header, Home}
use Rattle.nl_journal.proofs.Addresses.{addresses_of}
use Rattle.nl_journal.proofs.Openings.{counting_same}
use Rattle.nl_meta.specs.Committed.{VirtualMap, committed, counting, next_number}
use Rattle.nl_meta.specs.Pages.{Frozen, IsPages, Pages, no_pages, none_frozen, page_of}
use Rattle.nl_meta.specs.Running.{running_over}
use Rattle.nl_journal.specs.Restoring.{AreListed, BringsBack}
use Rattle.nl_journal.proofs.BackFacts.{apart-listed, committed-is, few-listed, has-images, journal-bytes, listed-as, listed-transaction, none-committed, none-running, runs-listed, same-bytes, some-listed}
use Rattle.nl_journal.proofs.Restores.{none-count}

pub counting-journal : (shape : Shape) (map : ℕ → Option Value) → 67 ≤ shape.vaddrs → counting shape (map_bytes shape map) ≡ counting shape (bytes_of map)
counting-journal shape map wide = counting_same shape (map_bytes shape map) (bytes_of map) (journal-bytes shape map wide)

none-dirty : (count : ℕ) → (no_pages count).dirty ≡ []
unfolding no_pages
none-dirty count = refl

none-frozen : (count : ℕ) → (no_pages count).frozen ≡ none_frozen
unfolding no_pages
none-frozen count = refl

module _ {D : Type 0} (g : Ghosts D) where
  module _ (s : D) (volume : IsVolumeShape (g.shape s)) (journal : Progress) (p : Pages) (number : g.tells → journal.number + 1 ≡ next_number (g.shape s) (bytes_of (g.map s))) where
    -- no transaction counts
    pub back-none : p ≡ no_pages (g.shape s).vaddrs → journal.phase ≡ Header → (g.tells → counting (g.shape s) (bytes_of (g.map s)) ≡ None) → BringsBack g s journal p
    back-none e idle nothing = record {
      count = ap (λ (q : Pages). length q.running) e ∙ none-count (g.shape s).vaddrs;
      frozen = λ v off. gone v;
      clean = ap (λ (q : Pages). q.dirty) e ∙ none-dirty (g.shape s).vaddrs;
      apart = λ v low high. gone v;
      restored = record {
        due = inl (idle, ap (λ (q : Pages). q.frozen) e ∙ none-frozen (g.shape s).vaddrs);
        runs = λ i lt. absurd (let n = frozen-none in omega (arith, lt, n));
      };
      same = λ t v. none-committed (g.shape s) (map_bytes (g.shape s) (g.map s)) p gone (counting-journal (g.shape s) (g.map s) (addresses_of (g.shape s) volume) ∙ nothing t) v;
      phase = subst (λ (f : Phase). IsPhase f (length p.frozen.addresses)) (sym idle) tt;
      pages = λ some. absurd (let n = frozen-none in omega (arith, some, n));
      number = number;
      opened = λ t. subst (λ (f : Phase). Opened f (g.shape s) (bytes_of (g.map s)) journal.number p.frozen) (sym idle) (nothing t, number t);
    }
      where
        gone : (v : ℕ) → page_of p v ≡ None
        gone v = ap (λ (q : Pages). page_of q v) e ∙ none-running (g.shape s).vaddrs v

        frozen-none : length p.frozen.addresses ≡ 0
        frozen-none = ap (λ (q : Pages). length q.frozen.addresses) e ∙ ap (λ (f : Frozen). length f.addresses) (none-frozen (g.shape s).vaddrs)

    -- one counts
    pub back-some : IsPages p → length p.running ≡ (g.shape s).vaddrs → journal.phase ≡ Home 0 → (g.tells → (h : HeaderRec) × (counting (g.shape s) (bytes_of (g.map s)) ≡ Some h))
        → AreListed g.tells (g.shape s) (bytes_of (g.map s)) p → BringsBack g s journal p
    back-some stands count home counts listed = record {
      count = count;
      frozen = l.restored.others;
      clean = l.restored.clean;
      apart = apart-listed g.tells (g.shape s) (map_bytes (g.shape s) (g.map s)) p l;
      restored = record {
        due = inr (home, some-listed g.tells (g.shape s) (map_bytes (g.shape s) (g.map s)) p l);
        runs = runs-listed g.tells (g.shape s) (map_bytes (g.shape s) (g.map s)) p l stands;
      };
      same = λ t v. committed-is g.tells (g.shape s) (map_bytes (g.shape s) (g.map s)) p l t (bytes_of (g.map s)) same (counts t).0 (counts t).1 journal.number (number t) stands v;
      phase = subst (λ (f : Phase). IsPhase f (length p.frozen.addresses)) (sym home) (some-listed g.tells (g.shape s) (map_bytes (g.shape s) (g.map s)) p l);
      pages = λ some. listed-transaction g.tells (g.shape s) (map_bytes (g.shape s) (g.map s)) p l stands count;
      number = number;
      opened = λ t. subst (λ (f : Phase). Opened f (g.shape s) (bytes_of (g.map s)) journal.number p.frozen) (sym home)
          (refl, few-listed g.tells (g.shape s) (map_bytes (g.shape s) (g.map s)) p l, has-images g.tells (g.shape s) (map_bytes (g.shape s) (g.map s)) p l t (bytes_of (g.map s)) same (counts t).0 (counts t).1 journal.number (number t) stands);
    }
      where
        same : (v : ℕ) → v < 67 → map_bytes (g.shape s) (g.map s) v ≡ bytes_of (g.map s) v
        same = journal-bytes (g.shape s) (g.map s) (addresses_of (g.shape s) volume)

        l : AreListed g.tells (g.shape s) (map_bytes (g.shape s) (g.map s)) p
        l = listed-as g.tells (g.shape s) (map_bytes (g.shape s) (g.map s)) (bytes_of (g.map s)) p (λ t v lt. sym (same v lt)) listed

  pub stored-same : (s t : D) → KeepsVirtual g s t → g.tells → (v : ℕ) → map_bytes (g.shape t) (g.map t) v ≡ map_bytes (g.shape s) (g.map s) v
  stored-same s t k tells v = same-bytes (g.shape s) (g.shape t) (g.map s) (g.map t) v k.same_shape (k.same_map tells v)

  pub bytes-same : (s t : D) → KeepsVirtual g s t → g.tells → bytes_of (g.map t) ≡ bytes_of (g.map s)
  bytes-same s t k tells = λ i v. bytes_of (λ (u : ℕ). k.same_map tells u i) v

  -- what is read back stays while the device is only read
  pub back-on : (s t : D) (journal : Progress) (p : Pages) → KeepsVirtual g s t → BringsBack g s journal p → BringsBack g t journal p
  back-on s t journal p k b = record {
    count = b.count ∙ ap (λ (h : Shape). h.vaddrs) (sym k.same_shape);
    frozen = b.frozen;
    clean = b.clean;
    apart = b.apart;
    restored = b.restored;
    same = λ tells v.
        ap (λ (f : VirtualMap). running_over f p v) (stored tells) ∙ b.same tells v
        ∙ sym (λ i. committed (k.same_shape i) (stored tells i) v);
    phase = b.phase;
    pages = λ some. subst (λ (h : Shape). IsTransaction h.vaddrs p.frozen) (sym k.same_shape) (b.pages some);
    number = λ tells. b.number tells ∙ sym (λ i. next_number (k.same_shape i) (bytes tells i));
    opened = λ tells.
        subst (λ (f : VirtualMap). Opened journal.phase (g.shape t) f journal.number p.frozen) (sym (bytes tells))
        (subst (λ (h : Shape). Opened journal.phase h (bytes_of (g.map s)) journal.number p.frozen) (sym k.same_shape) (b.opened tells));
  }
    where
      stored : g.tells → map_bytes (g.shape t) (g.map t) ≡ map_bytes (g.shape s) (g.map s)
      stored tells = λ i v. stored-same s t k tells v i

      bytes : g.tells → bytes_of (g.map t) ≡ bytes_of (g.map s)
      bytes tells = λ i v. bytes_of (λ (u : ℕ). k.same_map tells u i) v
