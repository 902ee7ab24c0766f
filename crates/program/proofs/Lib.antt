pub mod Cutting
pub mod Keying
pub mod Lawful
pub mod Lending
pub mod Writings
