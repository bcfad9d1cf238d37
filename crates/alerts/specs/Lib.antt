-- Names the files of definitions of `alerts`.
pub mod Alerts
pub mod Followed
