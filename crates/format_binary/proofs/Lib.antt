pub mod Decoding
pub mod Reading
pub mod Turns
pub mod Within
pub mod Refused
pub mod FormNumbers
pub mod Missing
