pub mod Replies
pub mod Codecs
