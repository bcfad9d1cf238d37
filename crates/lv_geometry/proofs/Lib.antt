-- Names the files of lemmas of `lv_geometry`.
pub mod Capacities
pub mod HighestBits
pub mod LevelLaws
pub mod NodeLaws
pub mod Ranges
