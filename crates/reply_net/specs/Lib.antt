pub mod ReplyNetwork
pub mod ReplyRuns
pub mod MessagesHold
