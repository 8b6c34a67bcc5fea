pub mod MarkLines
