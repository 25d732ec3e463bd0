pub mod FileBytes
pub mod Memory
pub mod MemoryLaws
pub mod PastBytes
pub mod Store
