pub mod FirmRuns
