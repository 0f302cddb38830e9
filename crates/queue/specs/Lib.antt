pub mod Queues
pub mod Marking
pub mod Flagging
pub mod Leading
pub mod Pointing
