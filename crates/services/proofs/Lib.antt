pub mod Glue
pub mod Leaves
pub mod Reporting
pub mod Serves
pub mod Demands
pub mod Promises
pub mod Names
pub mod Served
