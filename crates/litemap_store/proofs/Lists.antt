-- Lists of pairs: which of them ascend, what is in them, and their parts.
pub mod Alongside
pub mod Ends
pub mod Joined
pub mod Membership
pub mod Parts
pub mod Places
pub mod Seams
