pub mod Frames
pub mod Sessions
pub mod Notices
pub mod Replies
pub mod Requests
pub mod Serving
