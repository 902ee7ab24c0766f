pub mod Calls
pub mod Desks
pub mod KeptDays
pub mod Keys
pub mod Requests
pub mod Seats
pub mod Tellings
pub mod ToldDays
