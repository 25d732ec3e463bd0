pub mod Failed
pub mod Left
pub mod PutAndGet
pub mod RunCompleting
pub mod Told
