-- A command.
pub mod Types
pub mod Failures
pub mod Devices
pub mod Commands
pub mod Making
-- Many pages through one process.
pub mod Limits
pub mod Requests
pub mod Finding
pub mod Answers
pub mod Placing
pub mod Buffering
pub mod Waiting
pub mod Sessions
pub mod Laws
