-- Names the files of definitions of `lv_summary`.
pub mod Agrees
pub mod Changes
pub mod Inner
pub mod Table
