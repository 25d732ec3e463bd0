-- What a medium in a store is: the image that the store's bytes are, and the images that a kill may have left.
use Rattle.std.specs.Prelude.{◌≡◌, ℕ, ◌+◌, ◌≤◌, Bool, true, false, List, []}
use Rattle.nl_field.specs.CrashStates.{saturated}
use Rattle.nl_field.specs.Page.{Image}
use Rattle.nl_nand.specs.declared.geometry.Geometry.{Geometry}
use Rattle.nl_nand.specs.declared.answers.WriteAnswer.{WriteAnswer}
use Rattle.nl_nand.specs.declared.answers.WriteAnswer.TheVariants as write
use Rattle.nl_store.specs.Store.{MomentEnded}
use Rattle.nl_store.specs.declared.answers.StoreAnswer.{StoreAnswer}
use Rattle.nl_store.specs.declared.answers.StoreAnswer.TheVariants as store
use Rattle.nl_imgfile.specs.DiskImage.{AllErased, image_in, geometry_in_store}
use Rattle.nl_imgfile.specs.declared.disk_nand.StoreAttach.{StoreAttach}
use Rattle.nl_imgfile.specs.declared.disk_nand.StoreAttach.TheVariants as attach
use Rattle.nl_imgfile.specs.declared.disk_nand.DiskNand.{DiskNand}

abbrev pub geometry_of : {S : Type 0} → DiskNand S → Geometry
geometry_of d = d.geometry

abbrev pub clock_of : {S : Type 0} → (S → ℕ) → DiskNand S → ℕ
clock_of moment d = moment d.store

abbrev pub read_faults_of : {S : Type 0} → (S → ℕ) → DiskNand S → ℕ
read_faults_of read_faults d = read_faults d.store

abbrev pub write_faults_of : {S : Type 0} → (S → ℕ) → DiskNand S → ℕ
write_faults_of write_faults d = write_faults d.store

-- an image that stands for the contents where the store tells none, and says nothing of them
abbrev pub untold : Image
untold = record { blocks = 0; pages = 0; contents = [] }

abbrev pub contents_of : {S : Type 0} → Bool → (S → List ℕ) → DiskNand S → Image
contents_of true bytes d = image_in d.geometry (bytes d.store)
contents_of false bytes d = untold

abbrev pub left_of : {S : Type 0} → Bool → (S → ℕ) → (S → ℕ → List ℕ → Type 0) → DiskNand S → ℕ → Image → Type 0
left_of true moment left d m c = (b : List ℕ) × left d.store m b × (c ≡ image_in d.geometry b)
left_of false moment left d m c = (m ≤ moment d.store) × (c ≡ untold)

-- The writes of an operation were answered so, and then the operation: the moment ends where they were done.
abbrev pub CountedAs : {S : Type 0} → (S → List ℕ) → (S → ℕ) → (S → ℕ → List ℕ → Type 0) → StoreAnswer → WriteAnswer → S → S → Type 0
CountedAs bytes moment left store.Done write.Done old new = MomentEnded bytes moment left old new
CountedAs bytes moment left store.Done write.Failed old new = ⊥
CountedAs bytes moment left store.Failed write.Done old new = ⊥
CountedAs bytes moment left store.Failed write.Failed old new = new ≡ old

-- Whatever a kill may have left of the store, and so what is there, tells the medium's geometry.
pub record IsHeaded {S : Type 0} (left : S → ℕ → List ℕ → Type 0) (d : DiskNand S) : Type 0 where
  pub each : (m : ℕ) (b : List ℕ) → left d.store m b → geometry_in_store b ≡ d.geometry

-- Whatever a kill may have left of the store tells the medium's geometry, or has no page but erased ones. It is said without a sum, since
-- a ghost field has to be a proposition.
pub record IsHeadedOrErased {S : Type 0} (left : S → ℕ → List ℕ → Type 0) (d : DiskNand S) : Type 0 where
  pub each : (m : ℕ) (b : List ℕ) → left d.store m b → (geometry_in_store b ≡ d.geometry → ⊥) → AllErased b

-- the store that was not attached
abbrev pub given_back : {S : Type 0} → StoreAttach S → S
given_back (attach.Fault store) = store
given_back (attach.Memory store) = store

-- The store was not attached: one read of it failed, and was counted, or memory was wanting, and nothing was done to it.
abbrev pub IsNotAttached : {S O : Type 0} → (S → O) → (S → ℕ) → S → StoreAttach S → Type 0
IsNotAttached origin read_faults store (attach.Fault back) =
    (origin back ≡ origin store) × (read_faults back ≡ saturated (read_faults store + 1))
IsNotAttached origin read_faults store (attach.Memory back) = back ≡ store
