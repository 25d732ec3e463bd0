pub mod ContentLaws
pub mod Pages
pub mod Places
