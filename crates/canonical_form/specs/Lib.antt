pub mod CanonicalDoc
pub mod CanonicalTable
pub mod Writable
