-- Names the files of definitions of `lv_machine`.
pub mod Calls
pub mod History
pub mod Layout
pub mod Machine
pub mod Moves
pub mod Progress
pub mod Ready
pub mod Schedules
pub mod Shows
pub mod Terms
pub mod Words
