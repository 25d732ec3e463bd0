pub mod Examples
pub mod OrderExamples
