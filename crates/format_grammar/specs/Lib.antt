pub mod Comments
pub mod Formatting
pub mod Gaps
pub mod Reading
pub mod Separators
pub mod Tokens
