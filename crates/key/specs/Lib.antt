pub mod Desks
pub mod Keys
pub mod Requests
