pub mod TaskTables
pub mod Highest
pub mod Rows
pub mod Under
