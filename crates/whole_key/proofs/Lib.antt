pub mod Counting
pub mod Days
pub mod Endings
pub mod Holding
pub mod Tidying
