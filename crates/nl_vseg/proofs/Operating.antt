-- Operations one after the other.
use Rattle.std.proofs.Common.{◌≡◌, ℕ, ◌+◌, ◌*◌, ◌/◌, List, [], ◌∷◌, ◌++◌, refl, sym, subst}
use Rattle.nl_field.specs.Page.{Image, erased, written}
use Rattle.nl_nand.specs.Nand.{OperationLeaves, ticked}
use Rattle.nl_nand.specs.declared.answers.WriteAnswer.{WriteAnswer}
use Rattle.nl_vseg.specs.Pages.{page_with}
use Rattle.nl_vseg.specs.Operations.{Operation, Program, Erase, Snapshot, snapshot, wear_in, wears_after, DoesEach, Operates}

does_both : (told : Type 0) (pages : ℕ) (os qs : List Operation) (old middle new : Snapshot) → DoesEach told pages os old middle → DoesEach told pages qs middle new → DoesEach told pages (os ++ qs) old new
unfolding DoesEach
does_both told pages [] qs old middle new is then = subst (λ (s : Snapshot). DoesEach told pages qs s new) is then
does_both told pages (o ∷ os) qs old middle new (first, (does, rest)) then = (first, (does, does_both told pages os qs first middle new rest then))

pub operates_both : {told : Type 0} {pages : ℕ} {old middle new : Snapshot} → Operates told pages old middle → Operates told pages middle new → Operates told pages old new
operates_both {told} {pages} {old} {middle} {new} a b = record { operations = a.operations ++ b.operations; done = does_both told pages a.operations b.operations old middle new a.done b.done }

same_snapshot : (wears wears' : List ℕ) (clock clock' : ℕ) (image image' : Image) → wears' ≡ wears → clock' ≡ clock → image' ≡ image → snapshot wears' clock' image' ≡ snapshot wears clock image
same_snapshot wears wears' clock clock' image image' w c i = λ j. snapshot (w j) (c j) (i j)

-- under an equal number of pages of a block
pub operates_as : {told : Type 0} {pages pages' : ℕ} {old new : Snapshot} → pages ≡ pages' → Operates told pages old new → Operates told pages' old new
operates_as {told} {pages} {pages'} {old} {new} is done = subst (λ n. Operates told n old new) is done

-- nothing was done
pub operates_none : {told : Type 0} {pages : ℕ} {old new : Snapshot} → new ≡ old → Operates told pages old new
unfolding DoesEach
operates_none is = record { operations = []; done = is }

-- nothing was done to the wear and the medium
pub operates_still : {told : Type 0} {pages : ℕ} (wears wears' : List ℕ) (clock clock' : ℕ) (image image' : Image) → wears' ≡ wears → clock' ≡ clock → image' ≡ image
    → Operates told pages (snapshot wears clock image) (snapshot wears' clock' image')
operates_still wears wears' clock clock' image image' w c i = operates_none (same_snapshot wears wears' clock clock' image image' w c i)

-- a program of a page
pub operates_page : {told : Type 0} (pages page address stamp wear : ℕ) (main : List ℕ) (answer : WriteAnswer) (wears : List ℕ) (clock clock' : ℕ) (image image' : Image)
    → wear_in wears (page / pages) ≡ wear → clock' ≡ ticked clock answer → (told → OperationLeaves page (page + 1) (written (page_with main address stamp wear)) image answer image')
    → Operates told pages (snapshot wears clock image) (snapshot wears clock' image')
unfolding DoesEach
operates_page pages page address stamp wear main answer wears clock clock' image image' is ticks leaves = record {
  operations = Program page address stamp main answer ∷ [];
  done = (
    snapshot wears clock' image',
    (
      record {
        same_wears = refl;
        ticks = ticks;
        leaves = λ t. subst (λ n. OperationLeaves page (page + 1) (written (page_with main address stamp n)) image answer image') (sym is) (leaves t);
      },
      refl,
    ),
  );
}

-- an erase of a block
pub operates_block : {told : Type 0} (pages block : ℕ) (answer : WriteAnswer) (wears wears' : List ℕ) (clock clock' : ℕ) (image image' : Image)
    → wears' ≡ wears_after answer block wears → clock' ≡ ticked clock answer → (told → OperationLeaves (block * pages) (block * pages + pages) erased image answer image')
    → Operates told pages (snapshot wears clock image) (snapshot wears' clock' image')
unfolding DoesEach
operates_block pages block answer wears wears' clock clock' image image' is ticks leaves = record {
  operations = Erase block answer ∷ [];
  done = (snapshot wears' clock' image', (record { wears_then = is; ticks = ticks; leaves = leaves }, refl));
}
