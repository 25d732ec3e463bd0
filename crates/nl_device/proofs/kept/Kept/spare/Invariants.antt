use Rattle.std.proofs.Common.{◌≡◌, map, take}
use Rattle.nl_device.proofs.Alone.{AreMarks}
use Rattle.nl_device.proofs.kept.Kept.spare.Given as goal

abbrev pub invariant-needed : goal.invariant-needed
invariant-needed l = record {
  same_first : l.self-inside.first ≡ l.fn.self.first;
  same_size : l.self-inside.size ≡ l.fn.self.size;
  same_pages : l.self-inside.pages ≡ l.initial.self-inside.pages;
  same_copies : l.self-inside.copies ≡ l.initial.self-inside.copies;
  marks : AreMarks l.fn.self (take l.at (map (λ p. p.stamp) l.list.items)) l.self-inside.alone.items;
}
