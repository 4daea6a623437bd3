pub mod Taking
pub mod Execution
pub mod Order
pub mod Consistency
pub mod Rows
pub mod Litmus
