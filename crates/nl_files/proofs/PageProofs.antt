-- What the calls mean for the pages in memory.
use Rattle.std.proofs.Common.{◌≡◌, ◌⊎◌, inl, inr, ℕ, ◌/◌, ◌≤◌, ◌<◌, nat_le, Option, Some, None, IfSome, IsSome, sym, subst, ◌∙◌, arith}
use Rattle.std.proofs.lemmas.Bool.{and_parts, cases_lt, leb-true}
use Rattle.std.specs.Prelude.{slice_index}
use Rattle.nl_field.specs.declared.inode.InodeRec.{InodeRec}
use Rattle.nl_iface.specs.declared.counts.Counts.{Ghosts}
use Rattle.nl_meta.specs.Nodes.{slots_of}
use Rattle.nl_meta.specs.PageLaws.{IsApart}
use Rattle.nl_meta.specs.Pages.{page_of}
use Rattle.nl_meta.specs.Steps.{ChangesRunningPages}
use Rattle.nl_meta.proofs.PageProofs.{changed, loaded, none}
use Rattle.nl_indirect.specs.Ranges.{address_of, range_of}
use Rattle.nl_indirect.specs.declared.answer.Stored.TheVariants.{Done}
use Rattle.nl_indirect.proofs.PageProofs.{may-be, storing_changes_pages}
use Rattle.nl_indirect.proofs.Pointing.{address-node, address-range}
use Rattle.nl_files.specs.Cutting.{Rewrites}
use Rattle.nl_files.specs.Installing.{TakesLeastAddress}
use Rattle.nl_files.specs.PageLaws.{CuttingChangesPages, InstallingChangesPages, ReadingChangesPages}
use Rattle.nl_files.specs.Standing.{IsOwn}

pub reading_changes_pages : {D : Type 0} (g : Ghosts D) → ReadingChangesPages g
reading_changes_pages g s rec old new far keeps own = loaded old new (record {
  dirty = keeps.dirty;
  frozen = keeps.frozen;
  stays = keeps.stays;
  apart = λ u there. by u (own.each u there);
})
  where
    by : (u : ℕ) → IsSome (page_of old u) ⊎ IsOwn rec u → IsSome (page_of old u) ⊎ IsApart u
    by u (inl before) = inl before
    by u (inr (some, (r, at))) = inr (subst IsApart at (far r (λ z. some (sym at ∙ z))))

pub installing_changes_pages : InstallingChangesPages
installing_changes_pages index to was is old new s t range low installs = storing_changes_pages index to installs.fresh was is old new Done range (by installs.fresh installs.taken) installs.stores
  where
    by : (o : Option ℕ) → TakesLeastAddress o s t → IfSome o IsApart
    by None h = tt
    by (Some a) h = let free = leb-true s.first a (and_parts (nat_le s.first a) _ h.0.free_itself).0 in inr (omega (arith, low, free))

cut-same : (last : ℕ) (was is : InodeRec) → (last < 8) ⊎ (8 ≤ last)
    → (slice_index (slots_of is) (range_of last) ≡ slice_index (slots_of was) (range_of last)) ⊎ (slice_index (slots_of is) (range_of last) ≡ 0)
    → (address_of is last ≡ address_of was last) ⊎ (address_of is last ≡ 0)
cut-same last was is (inl low) _ = inr (address-node is last low)
cut-same last was is (inr high) (inl e) = inl (address-range is last high ∙ e ∙ sym (address-range was last high))
cut-same last was is (inr high) (inr e) = inr (address-range is last high ∙ e)

pub cutting_changes_pages : CuttingChangesPages
cutting_changes_pages size partial was is old new s t range cuts = by cuts.written
  where
    by : (new ≡ old) ⊎ Rewrites (address_of is (size / 4096)) old new → ChangesRunningPages old new
    by (inl e) = subst (ChangesRunningPages old) (sym e) (none old)
    by (inr w) = subst (ChangesRunningPages old) (sym w.page)
        (changed old (address_of is (size / 4096)) w.bytes
        (may-be old was (size / 4096) (address_of is (size / 4096)) range (cut-same (size / 4096) was is (cases_lt (size / 4096) 8) (cuts.addresses.either (range_of (size / 4096))))))
