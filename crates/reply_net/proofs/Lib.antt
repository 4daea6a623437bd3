pub mod Steps
pub mod Sound
pub mod Empty
pub mod Accounts
pub mod MessagesKept
pub mod ChannelsKept
