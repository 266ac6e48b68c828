pub mod Explaining
pub mod CommandLine
pub mod Reporting
