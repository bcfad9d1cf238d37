-- Names the files of definitions of `lv_standing`.
pub mod Askable
pub mod Inner
pub mod Queries
pub mod QuerySets
pub mod Standings
pub mod Thresholds
pub mod Values
