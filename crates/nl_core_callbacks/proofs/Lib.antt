mod Free
mod Handled
mod Joined
pub mod Marked
mod Nameless
mod Pages
mod Renamed
mod Trees
