pub mod FirmScheduler
pub mod Schedulers
