-- Names the files of definitions of `lv_server`.
pub mod Closing
pub mod PlainLogged
pub mod PlainServed
pub mod Served
pub mod Starting
pub mod Tasks
pub mod Writing
