pub mod Codes
pub mod Joined
pub mod Files
pub mod Written
pub mod Again
pub mod RoundTrip
pub mod Worked
