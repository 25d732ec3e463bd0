pub mod AfterLaws
pub mod Changes
pub mod Directory
pub mod DirectoryLaws
pub mod ListLaws
pub mod Looking
pub mod PageLaws
pub mod Slots
