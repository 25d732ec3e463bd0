-- What is noted of an operation.
use Rattle.std.proofs.Common.{◌≡◌, ℕ, ◌+◌, ◌<◌, ◌≤◌, List, [], ◌∷◌, ◌++◌, None, Vec, reverse, length, take, drop, replicate, set, refl, sym, ◌∙◌, ap, subst, arith}
use Rattle.std.specs.declared.alloc.Global.{Global}
use Rattle.nl_field.specs.Page.{erased, page_at}
use Rattle.nl_nand.specs.Nand.{Filled}
use Rattle.nl_nand.specs.Record.{page_of, image_of, logged, undone, low_of_attempt, high_of_attempt, value_of_attempt}
use Rattle.nl_nand.specs.Memory.{contents_of, log_of}
use Rattle.nl_nand.specs.declared.cell.Cell.TheVariants as cell
use Rattle.nl_nand.specs.declared.cell.Cell.{Cell}
use Rattle.nl_nand.specs.declared.record.Attempt.{Attempt}
use Rattle.nl_nand.specs.declared.record.Entry.{Entry}
use Rattle.nl_nand.specs.declared.record.Entry.TheVariants as entry
use Rattle.nl_nand.specs.declared.mem_nand.MemNand.{MemNand}
use Rattle.nl_nand.proofs.Cells.{set_here, set_undone, contents_back, part_length, row_length, row_filled}
use Rattle.nl_nand.proofs.Left.{Noted}
use Rattle.nl_nand.proofs.Operations.{logged_none, logged_push}

module _ (m : MemNand) (none : m.stopped ≡ None) where
  pub noted_stop : (entries : List Entry) (a : Attempt) → entries ≡ m.log.entries.items
      → Noted (log_of m) (entry.Failed a m.clock ∷ reverse entries) (contents_of m) (contents_of m) m.clock m.clock (low_of_attempt a) (high_of_attempt a) (value_of_attempt a)
  noted_stop entries a same = record {
    noted = entry.Failed a m.clock;
    newest = ap (λ l. entry.Failed a m.clock ∷ l) (ap reverse same ∙ sym (logged_none m.stopped m.clock m.log.entries.items none));
    at = refl;
    end = refl;
    is = refl;
    moment = refl;
    undo = refl;
    later = omega arith;
  }

  pub noted_fail : (entries : List Entry) (a : Attempt) → entries ≡ m.log.entries.items ++ entry.Failed a m.clock ∷ []
      → Noted (log_of m) (logged m.stopped m.clock entries) (contents_of m) (contents_of m) m.clock m.clock (low_of_attempt a) (high_of_attempt a) (value_of_attempt a)
  noted_fail entries a is = record {
    noted = entry.Failed a m.clock;
    newest = logged_push m.stopped m.clock m.clock m.log.entries.items entries (entry.Failed a m.clock) none is;
    at = refl;
    end = refl;
    is = refl;
    moment = refl;
    undo = refl;
    later = omega arith;
  }

  pub noted_program : (entries : List Entry) (page k : ℕ) (x : Cell) → entries ≡ m.log.entries.items ++ entry.Programmed page m.clock ∷ [] → page < length m.cells.items
      → page_at (contents_of m) page ≡ erased → m.clock ≤ k
      → Noted (log_of m) (logged m.stopped k entries) (contents_of m) (image_of m.geometry (set m.cells.items page x)) m.clock k page (page + 1) (page_of x)
  noted_program entries page k x is within was later = record {
    noted = entry.Programmed page m.clock;
    newest = logged_push m.stopped m.clock k m.log.entries.items entries (entry.Programmed page m.clock) none is;
    at = refl;
    end = refl;
    is = set_here m.geometry m.cells.items page x within;
    moment = refl;
    undo = set_undone m.geometry m.cells.items page x within m.clock was;
    later = later;
  }

  pub noted_erase : (entries : List Entry) (low count k : ℕ) (row news : List Cell) (before : Vec Cell Global) → entries ≡ m.log.entries.items ++ entry.Erased low before m.clock ∷ []
      → low + count ≤ length m.cells.items → row ≡ replicate count cell.Erased → before.items ≡ take (length row) (drop low m.cells.items) → m.clock ≤ k
      → news ≡ take low m.cells.items ++ row ++ drop (low + length row) m.cells.items
      → Noted (log_of m) (logged m.stopped k entries) (contents_of m) (image_of m.geometry news) m.clock k low (low + count) erased
  noted_erase entries low count k row news before is within blank part later new = record {
    noted = entry.Erased low before m.clock;
    newest = logged_push m.stopped m.clock k m.log.entries.items entries (entry.Erased low before m.clock) none is;
    at = refl;
    end = omega (arith, ap length part, part_length m.geometry m.cells.items row low count within blank, row_length m.geometry m.cells.items row low count within blank);
    is = refl;
    moment = refl;
    undo = ap (λ l. undone (entry.Erased low before m.clock) (image_of m.geometry l)) new
        ∙ (λ i. record { blocks = m.geometry.blocks; pages = m.geometry.pages; contents = contents_back m.geometry m.cells.items row low count within blank before.items part i });
    later = later;
  }

  pub erased_filled : (low count : ℕ) (row news : List Cell) → low + count ≤ length m.cells.items → row ≡ replicate count cell.Erased
      → news ≡ take low m.cells.items ++ row ++ drop (low + length row) m.cells.items → Filled low (low + count) erased (contents_of m) (image_of m.geometry news)
  erased_filled low count row news within blank new =
      subst (λ l. Filled low (low + count) erased (contents_of m) (image_of m.geometry l)) (sym new) (row_filled m.geometry m.cells.items row low count within blank)
