pub mod DrawnThrough
pub mod Filing
