-- Names the files of definitions of `lv_store`.
pub mod Announced
pub mod Directory
pub mod Inner
pub mod State
