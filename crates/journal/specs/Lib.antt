pub mod Limits
pub mod Records
pub mod Meaning
pub mod Bytes
pub mod Tables
pub mod Lending
