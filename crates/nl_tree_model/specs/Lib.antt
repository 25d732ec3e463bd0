pub mod PlainTree
