pub mod OldNames
