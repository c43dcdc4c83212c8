pub mod Forms
pub mod Payloads
pub mod Reading
