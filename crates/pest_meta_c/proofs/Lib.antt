pub mod Answering
pub mod HandedOver
pub mod Lining
pub mod Statuses
pub mod Telling
