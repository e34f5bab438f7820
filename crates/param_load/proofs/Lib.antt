pub mod Watchdog
