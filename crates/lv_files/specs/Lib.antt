-- Names the files of definitions of `lv_files`.
pub mod Sealing
pub mod Stores
pub mod StreamEnds
