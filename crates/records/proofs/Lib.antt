pub mod Digits
pub mod Exact
pub mod RoundTrip
